-- What is proved of runs.
use Rattle.std.specs.Prelude.{◌≡◌, ℕ, List, IsSome}
use Rattle.cga_derivation.specs.Derivation.{derive}
use Rattle.cga_expand.specs.Derivation.{derivation_of, NamesDiffer}
use Rattle.cga_shape.specs.declared.sources.Sources.{Sources}
use Rattle.cga_shape.specs.declared.trace_step.TraceStep.{TraceStep}
use Rattle.cga_expand.specs.Run.{IsRun, run_to}

-- sources have at most one run
abbrev pub RunIsOne : Type 0
RunIsOne = (sources : Sources) (steps other : List TraceStep) → IsRun sources steps → IsRun sources other → steps ≡ other

-- within a budget the run ends
abbrev pub RunEnds : Type 0
RunEnds = (sources : Sources) → NamesDiffer sources.lots → (budget : ℕ) → IsSome (derive (derivation_of sources) budget) → IsRun sources (run_to sources budget)
