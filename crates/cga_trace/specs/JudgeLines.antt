-- Which lines were read of a trace that is to be judged.
use Rattle.std.specs.Prelude.{◌≡◌, ◌⊎◌, ◌≤◌, ℕ, suc, List, [], ◌∷◌, length, take, slice_get, Bool, true, false, Option, Some, None, if◌then◌else◌}
use Rattle.cga_form.specs.Lines.{Line, is_long}
use Rattle.cga_shape.specs.declared.trace_step.TraceStep.{TraceStep}
use Rattle.cga_trace.specs.Text.{IsStep, step_text}
use Rattle.cga_trace.specs.declared.judge_reader.JudgeReader.{JudgeReader}
use Rattle.cga_trace.specs.declared.limits.TheConstants.{MOST_STEPS}

-- the line is the text of the step
pub record IsOf (line : Line) (step : TraceStep) : Type 0 where
  pub short : is_long line ≡ false
  pub text : line.bytes ≡ step_text step
  pub known : IsStep step

-- the lines are the texts of the steps, and then come the others
abbrev pub AreOf : List TraceStep → List Line → List Line → Type 0
AreOf [] lines others = lines ≡ others
AreOf (step ∷ steps) [] others = ⊥
AreOf (step ∷ steps) (line ∷ lines) others = IsOf line step × AreOf steps lines others

-- behind so many steps no more was read, since the line is none or there were enough
abbrev pub Stops : ℕ → List Line → Type 0
Stops n [] = Unit {0}
Stops n (line ∷ lines) = ((step : TraceStep) → IsOf line step → ⊥) ⊎ (MOST_STEPS ≤ n)

abbrev pub are_some : List Line → Bool
are_some [] = false
are_some (line ∷ lines) = true

-- the steps that the lines begin with, no more than enough, and whether others come behind
pub record AreRead (steps : List TraceStep) (goes_on : Bool) (lines : List Line) : Type 0 where
  pub others : List Line
  pub are : AreOf steps lines others
  pub behind : goes_on ≡ are_some others
  pub stops : Stops (length steps) others
  pub few : length steps ≤ MOST_STEPS

-- nothing of a long line
abbrev pub kept : Line → List ℕ
kept line = if is_long line then [] else line.bytes

-- all lines of a block, of which the first isn't a step's
abbrev pub IsRead : JudgeReader → List Line → Type 0
IsRead reader [] = (reader.first ≡ None) × (reader.steps ≡ []) × (reader.goes_on ≡ false)
IsRead reader (line ∷ lines) = (reader.first ≡ Some (kept line)) × AreRead reader.steps reader.goes_on lines

-- a run and steps are the same before a place, counted from 1, where they differ or one has ended; or
-- they are the same
abbrev pub AgreeBefore : List TraceStep → List TraceStep → Option ℕ → Type 0
AgreeBefore run steps None = run ≡ steps
AgreeBefore run steps (Some place) =
    (i : ℕ) × (place ≡ suc i) × (take i run ≡ take i steps) × (slice_get run i ≡ slice_get steps i → ⊥)
