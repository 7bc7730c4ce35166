-- A derivation under way: what it is after n turns, and what a turn tells.
use Rattle.std.specs.Prelude.{◌≡◌, ℕ, suc, Option, Some, None}
use Rattle.cga_derivation.specs.Derivation.{next_of, reached, NothingWaits}
use Rattle.cga_shape.specs.declared.sources.Sources.{Sources}
use Rattle.cga_shape.specs.declared.trace_step.TraceStep.{TraceStep}
use Rattle.cga_expand.specs.Children.{Member}
use Rattle.cga_expand.specs.Derivation.{derivation_of}
use Rattle.cga_expand.specs.Run.{traced}
use Rattle.cga_derive.specs.declared.run.Run.{Run}
use Rattle.cga_derive.specs.Streaks.{IsBoxed}
use Rattle.cga_derive.specs.Run.{IsAfter}

-- after n turns
pub record IsUnderway (sources : Sources) (n : ℕ) (run : Run) : Type 0 where
  pub after : IsAfter sources n run.list.items run.waiting.entries
  pub symbols : run.symbols ≡ sources.grammar
  pub boxed : IsBoxed run.list.items run.streaks.items

-- what the expansion of the member that is next after n turns tells
abbrev pub IsStepAfter : Sources → ℕ → TraceStep → Type 0
IsStepAfter sources n step =
    (m : Member) × (next_of (derivation_of sources) (reached (derivation_of sources) n) ≡ Some m)
    × (step ≡ traced sources (reached (derivation_of sources) n) m.shape)

-- what the turn after n turns tells; none where nothing waits
abbrev pub IsNext : Sources → ℕ → Option TraceStep → Type 0
IsNext sources n None = NothingWaits (derivation_of sources) (reached (derivation_of sources) n)
IsNext sources n (Some step) = IsStepAfter sources n step

-- a count of turns with that turn, where there was one
abbrev pub turned : ℕ → Option TraceStep → ℕ
turned n None = n
turned n (Some step) = suc n
