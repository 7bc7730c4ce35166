-- The words that a step's line is cut into.
use Rattle.std.proofs.Common.{◌≡◌, ℕ, List, ◌∷◌, ◌++◌, drop, true, refl, ap, ◌∙◌}
use Rattle.cga_shape.specs.declared.trace_step.TraceStep.{TraceStep}
use Rattle.cga_trace.specs.Cut.{cut_of, lacks}
use Rattle.cga_obj.specs.Faults.{path_text}
use Rattle.cga_trace.specs.Words.{answer_word, outcome_word}
use Rattle.cga_trace.specs.Text.{AreWords, IsStep, step_text, told_text}
use Rattle.cga_trace.proofs.Cutting.{cut_word}
use Rattle.cga_trace.proofs.Parts.{name_lacks, path_lacks, answer_lacks}

-- the first word of a text, and what is behind its blank
pub record CutWord (text : List ℕ) : Type 0 where
  pub word : List ℕ
  pub rest : List ℕ
  pub front : word ≡ (cut_of 32 text).0
  pub back : rest ≡ (cut_of 32 text).1

word_is : (x y text : List ℕ) (cut : CutWord text) → lacks 32 x ≡ true → text ≡ x ++ 32 ∷ y
    → (cut.word ≡ x) × (cut.rest ≡ y)
word_is x y text cut l is = cut_word 32 x y text cut.word cut.rest l is cut.front cut.back

module _ (s : TraceStep) where
  abbrev r4 : List ℕ
  r4 = answer_word s.answers.active ++ 32 ∷ outcome_word s.outcome

  abbrev r3 : List ℕ
  r3 = answer_word s.answers.noparent ++ 32 ∷ r4

  abbrev r2 : List ℕ
  r2 = s.symbol ++ 32 ∷ r3

  abbrev r1 : List ℕ
  r1 = path_text s.path ++ 32 ∷ r2

  abbrev r0 : List ℕ
  r0 = s.lot ++ 32 ∷ r1

  behind_step : drop 7 (step_text s) ≡ r0
  unfolding step_text told_text
  behind_step = refl

  pub words : IsStep s → (line text : List ℕ) → line ≡ step_text s → text ≡ drop 7 line
      → (lot : CutWord text) (path : CutWord lot.rest) (symbol : CutWord path.rest) (noparent : CutWord symbol.rest)
      (active : CutWord noparent.rest)
      → AreWords s lot.word path.word symbol.word noparent.word active.word active.rest
  words is line text at behind lot path symbol noparent active =
      let a = word_is s.lot r1 text lot (name_lacks s.lot is.lot) (behind ∙ (ap (drop 7) at ∙ behind_step)) in
      let b = word_is (path_text s.path) r2 lot.rest path (path_lacks s.path is.path) a.1 in
      let c = word_is s.symbol r3 path.rest symbol (name_lacks s.symbol is.symbol) b.1 in
      let d = word_is (answer_word s.answers.noparent) r4 symbol.rest noparent (answer_lacks s.answers.noparent) c.1 in
      let e = word_is (answer_word s.answers.active) (outcome_word s.outcome) noparent.rest active (answer_lacks s.answers.active) d.1 in record {
        lot = a.0;
        path = b.0;
        symbol = c.0;
        noparent = d.0;
        active = e.0;
        outcome = e.1;
      }
