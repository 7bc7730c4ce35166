-- Steps by their stamps, which are told from the list that a derivation ends with.
use Rattle.std.specs.Prelude.{◌≡◌, ℕ, suc, List, [], ◌∷◌, length, Some}
use Rattle.std.specs.declared.cmp.Ordering.TheVariants.{Less}
use Rattle.cga_order.specs.Rank.{Rank}
use Rattle.cga_order.specs.Stamp.{stamp, stamps_cmp}
use Rattle.cga_order.specs.World.{Among}
use Rattle.cga_derivation.specs.Derivation.{next_of, reached, NothingWaits}
use Rattle.cga_derivation.specs.Stamps.{priorities_down}
use Rattle.cga_shape.specs.declared.sources.Sources.{Sources}
use Rattle.cga_shape.specs.declared.trace_step.TraceStep.{TraceStep}
use Rattle.cga_expand.specs.Children.{Member}
use Rattle.cga_expand.specs.Derivation.{derivation_of, NamesDiffer}
use Rattle.cga_expand.specs.Run.{traced, IsRun}

-- the member that is expanded after n turns, and what that tells
abbrev pub IsTold : Sources → ℕ → TraceStep → Type 0
IsTold sources n step =
    (m : Member) × (next_of (derivation_of sources) (reached (derivation_of sources) n) ≡ Some m)
    × (step ≡ traced sources (reached (derivation_of sources) n) m.shape)

module _ (sources : Sources) (list : List Member) where
  -- the stamp of a step's shape
  abbrev pub stamp_at : TraceStep → List Rank
  stamp_at t = stamp sources.mode (record {
    lot = t.lot;
    path = t.path;
    priorities = priorities_down (derivation_of sources) list t.lot t.path (suc (length t.path));
  })

  abbrev pub Before : TraceStep → TraceStep → Type 0
  Before t u = stamps_cmp sources.mode (stamp_at t) (stamp_at u) ≡ Less

  abbrev pub BeforeAll : TraceStep → List TraceStep → Type 0
  BeforeAll t [] = Unit {0}
  BeforeAll t (u ∷ us) = Before t u × BeforeAll t us

  -- by strictly rising stamps
  abbrev pub Rise : List TraceStep → Type 0
  Rise [] = Unit {0}
  Rise (t ∷ ts) = BeforeAll t ts × Rise ts

-- what is told of turns, and something at the place of each, by rising stamps: that is the run
abbrev pub SortedIsRun : Type 0
SortedIsRun =
    (sources : Sources) → NamesDiffer sources.lots
    → (end : ℕ) → NothingWaits (derivation_of sources) (reached (derivation_of sources) end)
    → (steps : List TraceStep)
    → ((t : TraceStep) → Among t steps → (n : ℕ) × IsTold sources n t)
    → ((n : ℕ) (t : TraceStep) → IsTold sources n t
    → (u : TraceStep) × Among u steps × (u.lot ≡ t.lot) × (u.path ≡ t.path))
    → Rise sources (reached (derivation_of sources) end) steps
    → IsRun sources steps
