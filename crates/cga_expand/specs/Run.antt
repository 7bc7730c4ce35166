-- The run of sources: what each step of their derivation told.
use Rattle.std.specs.Prelude.{◌≡◌, ℕ, zero, suc, List, [], ◌∷◌, ◌++◌, length, Option, Some, None, Result, Ok, Err}
use Rattle.cga_shape.specs.declared.shape.Shape.{Shape}
use Rattle.cga_shape.specs.declared.shape_fault.ShapeFault.{ShapeFault}
use Rattle.cga_shape.specs.declared.sources.Sources.{Sources}
use Rattle.cga_shape.specs.declared.trace_step.Outcome.{Outcome}
use Rattle.cga_shape.specs.declared.trace_step.Outcome.TheVariants.{Grew, Faulted}
use Rattle.cga_shape.specs.declared.trace_step.TraceStep.{TraceStep}
use Rattle.cga_derivation.specs.Derivation.{asked, next_of, outcome, reached, NothingWaits}
use Rattle.cga_expand.specs.Children.{Member}
use Rattle.cga_expand.specs.Derivation.{derivation_of}

-- the number of children, or the fault
abbrev pub outcome_of : Result (List Member) ShapeFault → Outcome
outcome_of (Ok children) = Grew (length children)
outcome_of (Err fault) = Faulted fault

-- the expansion of a shape in a configuration
abbrev pub traced : Sources → List Member → Shape → TraceStep
traced sources list s = record {
  lot = s.lot;
  path = s.path;
  symbol = s.symbol;
  answers = asked (derivation_of sources) list s;
  outcome = outcome_of (outcome (derivation_of sources) list s);
}

-- none where nothing waits
abbrev pub step_of : Sources → List Member → Option Member → List TraceStep
step_of sources list None = []
step_of sources list (Some m) = traced sources list m.shape ∷ []

-- of so many steps, as far as something waits
unfoldable pub run_to : Sources → ℕ → List TraceStep
run_to sources zero = []
run_to sources (suc n) =
    run_to sources n ++ step_of sources (reached (derivation_of sources) n) (next_of (derivation_of sources) (reached (derivation_of sources) n))

-- until nothing waits
abbrev pub IsRun : Sources → List TraceStep → Type 0
IsRun sources steps =
    (n : ℕ) × NothingWaits (derivation_of sources) (reached (derivation_of sources) n) × (steps ≡ run_to sources n)
