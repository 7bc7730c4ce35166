-- What a judge says of steps.
use Rattle.std.specs.Prelude.{◌≡◌, ℕ, suc, List, take, slice_get}
use Rattle.cga_shape.specs.declared.sources.Sources.{Sources}
use Rattle.cga_shape.specs.declared.trace_step.TraceStep.{TraceStep}
use Rattle.cga_expand.specs.Run.{IsRun}
use Rattle.cga_judge.specs.declared.verdict.Verdict.{Verdict}
use Rattle.cga_judge.specs.declared.verdict.Verdict.TheVariants.{Accepted, Rejected}

-- both lists have the same before place k, from 1, and there they differ or one has ended
abbrev pub DifferFirstAt : List TraceStep → List TraceStep → ℕ → Type 0
DifferFirstAt run steps k =
    (i : ℕ) × (k ≡ suc i) × (take i run ≡ take i steps) × (slice_get run i ≡ slice_get steps i → ⊥)

-- accepted is the run; rejected is what differs from the run, first at this place
abbrev pub IsJudged : Sources → List TraceStep → Verdict → Type 0
IsJudged sources steps Accepted = IsRun sources steps
IsJudged sources steps (Rejected k) = (run : List TraceStep) × IsRun sources run × DifferFirstAt run steps k
