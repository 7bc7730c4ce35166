-- No two steps have one text.
use Rattle.std.proofs.Common.{◌≡◌, ℕ, ◌<◌, ◌^◌, List, [], ◌∷◌, length, drop, refl, sym, ap, ◌∙◌, arith}
use Rattle.std.specs.Prelude.{decimal, flat_map}
use Rattle.std.specs.List.{AllByRecursion}
use Rattle.std.specs.Str.Parse.{digits_value}
use Rattle.std.proofs.lemmas.Fmt.{digits_value-decimal}
use Rattle.cga_fraction.proofs.Door.{own}
use Rattle.cga_shape.specs.declared.trace_step.Outcome.{Outcome}
use Rattle.cga_shape.specs.declared.trace_step.Outcome.TheVariants.{Grew, Faulted}
use Rattle.cga_shape.specs.declared.trace_step.TraceStep.{TraceStep}
use Rattle.cga_word.specs.declared.answer.Answer.{Answer}
use Rattle.cga_trace.specs.Cut.{cut_of}
use Rattle.cga_obj.specs.Faults.{index_text, path_text}
use Rattle.cga_trace.specs.Words.{answer_word, read_answer, read_fault, begins_digit, outcome_word}
use Rattle.cga_trace.specs.Text.{AreWords, IsFew, IsStep, step_text}
use Rattle.cga_trace.specs.Laws.{TextTellsStep}
use Rattle.cga_trace.proofs.Again.{answer_again, code_begins, fault_again, not_both, number_begins, some_value}
use Rattle.cga_trace.proofs.LineWords.{CutWord, words}
use Rattle.cga_trace.proofs.Parts.{cut_index, path_behind, some_left}
use Rattle.std.specs.Prelude.{Option}

number_one : (i j : ℕ) → i < 2 ^ 16 → j < 2 ^ 16 → decimal i ≡ decimal j → i ≡ j
number_one i j h k e =
    let fits : i < 2 ^ 64 = omega (arith, h) in
    let fits' : j < 2 ^ 64 = omega (arith, k) in
    sym (digits_value-decimal own i fits) ∙ (ap (digits_value 10) e ∙ digits_value-decimal own j fits')

indices_one : (p q : List ℕ) → AllByRecursion (λ i. i < 2 ^ 16) p → AllByRecursion (λ i. i < 2 ^ 16) q
    → drop 1 (flat_map index_text p) ≡ drop 1 (flat_map index_text q) → p ≡ q
indices_one [] [] h k e = refl
indices_one [] (j ∷ q) h k e = let z : 0 ≡ length (drop 1 (flat_map index_text (j ∷ q))) = ap length e in let some = some_left j k.0 q in absurd (omega (arith, z, some))
indices_one (i ∷ p) [] h k e = let z : length (drop 1 (flat_map index_text (i ∷ p))) ≡ 0 = ap length e in let some = some_left i h.0 p in absurd (omega (arith, z, some))
indices_one (i ∷ p) (j ∷ q) h k e =
    let cut = sym (cut_index i h.0 p) ∙ (ap (cut_of 47) e ∙ cut_index j k.0 q) in
    let first = number_one i j h.0 k.0 (ap (λ c. c.0) cut) in
    let rest = indices_one p q h.1 k.1 (ap (λ c. c.1) cut) in
    λ n. first n ∷ rest n

path_one : (p q : List ℕ) → AllByRecursion (λ i. i < 2 ^ 16) p → AllByRecursion (λ i. i < 2 ^ 16) q
    → path_text p ≡ path_text q → p ≡ q
path_one p q h k e = indices_one p q h k (sym (path_behind p (path_text p) (drop 1 (path_text p)) refl refl) ∙ path_behind q (path_text p) (drop 1 (path_text p)) e refl)

answer_one : (a b : Option Answer) → answer_word a ≡ answer_word b → a ≡ b
answer_one a b e = some_value a b (sym (answer_again a) ∙ (ap read_answer e ∙ answer_again b))

outcome_one : (a b : Outcome) → IsFew a → IsFew b → outcome_word a ≡ outcome_word b → a ≡ b
unfolding outcome_word
outcome_one (Grew n) (Grew m) h k e = ap Grew (number_one n m h k e)
outcome_one (Grew n) (Faulted f) h k e = let fits : n < 2 ^ 64 = omega (arith, h) in absurd (not_both (sym (number_begins n fits) ∙ (ap begins_digit e ∙ code_begins f)))
outcome_one (Faulted f) (Grew n) h k e = let fits : n < 2 ^ 64 = omega (arith, k) in absurd (not_both (sym (number_begins n fits) ∙ (ap begins_digit (sym e) ∙ code_begins f)))
outcome_one (Faulted f) (Faulted g) h k e = ap Faulted (some_value f g (sym (fault_again f) ∙ (ap read_fault e ∙ fault_again g)))

abbrev cut_word : (text : List ℕ) → CutWord text
cut_word text = record { word = (cut_of 32 text).0; rest = (cut_of 32 text).1; front = refl; back = refl }

module _ (line : List ℕ) where
  abbrev lot : CutWord (drop 7 line)
  lot = cut_word (drop 7 line)

  abbrev path : CutWord lot.rest
  path = cut_word lot.rest

  abbrev symbol : CutWord path.rest
  symbol = cut_word path.rest

  abbrev noparent : CutWord symbol.rest
  noparent = cut_word symbol.rest

  abbrev active : CutWord noparent.rest
  active = cut_word noparent.rest

  read : (s : TraceStep) → IsStep s → line ≡ step_text s
      → AreWords s lot.word path.word symbol.word noparent.word active.word active.rest
  read s is at = words s is line (drop 7 line) at refl lot path symbol noparent active

pub text_tells_step : TextTellsStep
text_tells_step s t iss ist e =
    let a = read (step_text s) s iss refl in
    let b = read (step_text s) t ist e in
    let path = path_one s.path t.path iss.path ist.path (sym a.path ∙ b.path) in
    let noparent = answer_one s.answers.noparent t.answers.noparent (sym a.noparent ∙ b.noparent) in
    let active = answer_one s.answers.active t.answers.active (sym a.active ∙ b.active) in
    let outcome = outcome_one s.outcome t.outcome iss.outcome ist.outcome (sym a.outcome ∙ b.outcome) in
    λ i. record {
      lot = (sym a.lot ∙ b.lot) i;
      path = path i;
      symbol = (sym a.symbol ∙ b.symbol) i;
      answers = record { noparent = noparent i; active = active i };
      outcome = outcome i;
    }
