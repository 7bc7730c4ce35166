-- The text of a run.
use Rattle.std.specs.Prelude.{◌≡◌, ℕ, ◌<◌, ◌^◌, List, ◌∷◌, ◌++◌, codes, decimal, flat_map, length, map, IsTrue}
use Rattle.std.specs.List.{AllByRecursion}
use Rattle.cga_word.specs.Name.{is_name}
use Rattle.cga_shape.specs.declared.trace_step.Outcome.{Outcome}
use Rattle.cga_shape.specs.declared.trace_step.Outcome.TheVariants.{Grew, Faulted}
use Rattle.cga_shape.specs.declared.trace_step.TraceStep.{TraceStep}
use Rattle.cga_obj.specs.Faults.{path_text}
use Rattle.cga_trace.specs.Words.{answer_word, outcome_word}

-- what was answered to both targets, and the outcome, each behind a blank
unfoldable pub told_text : TraceStep → List ℕ
told_text s =
    codes " " ++ (answer_word s.answers.noparent ++ (codes " " ++ (answer_word s.answers.active ++ (codes " " ++ outcome_word s.outcome))))

-- the line of a step, without its end
unfoldable pub step_text : TraceStep → List ℕ
step_text s = codes "# step " ++ (s.lot ++ (codes " " ++ (path_text s.path ++ (codes " " ++ (s.symbol ++ told_text s)))))

-- the line that says how many steps there are
unfoldable pub header : ℕ → List ℕ
header n = codes "# trace " ++ decimal n

-- the lines of a run, without their ends
abbrev pub trace_lines : List TraceStep → List (List ℕ)
trace_lines steps = header (length steps) ∷ map step_text steps

-- each with its end
unfoldable pub trace_text_of : List TraceStep → List ℕ
trace_text_of steps = flat_map (λ line. line ++ codes "\n") (trace_lines steps)

-- what fits into two bytes
abbrev pub AreFew : List ℕ → Type 0
AreFew path = AllByRecursion (λ i. i < 2 ^ 16) path

abbrev pub IsFew : Outcome → Type 0
IsFew (Grew n) = n < 2 ^ 16
IsFew (Faulted f) = Unit {0}

-- what the fields of a step can be
pub record IsStep (s : TraceStep) : Type 0 where
  pub lot : IsTrue (is_name s.lot)
  pub path : AreFew s.path
  pub symbol : IsTrue (is_name s.symbol)
  pub outcome : IsFew s.outcome

-- the words of a step's text, but the first two
pub record AreWords (s : TraceStep) (w1 w2 w3 w4 w5 w6 : List ℕ) : Type 0 where
  pub lot : w1 ≡ s.lot
  pub path : w2 ≡ path_text s.path
  pub symbol : w3 ≡ s.symbol
  pub noparent : w4 ≡ answer_word s.answers.noparent
  pub active : w5 ≡ answer_word s.answers.active
  pub outcome : w6 ≡ outcome_word s.outcome

abbrev pub AreSteps : List TraceStep → Type 0
AreSteps steps = AllByRecursion IsStep steps
