-- What a forest has of its roots.
use Rattle.std.specs.Prelude.{◌≡◌, ℕ, List, Option, Some, None}
use Rattle.std.specs.List.{Contains}
use Rattle.cga_forest.specs.View.{Seen}
use Rattle.cga_marked.specs.Map.{AreApart}
pub use Rattle.cga_marked.specs.Map.{Named, ids, names, same_name}

-- the list has each root once, under its lot's name
pub record HasRoots (T : ℕ → Option Seen) (roots : Named) : Type 0 where
  pub apart : AreApart roots
  pub each : (name : List ℕ) (c : ℕ) → Contains roots (name, c)
      → (d : Seen) × (T c ≡ Some d) × (d.parent ≡ None) × (d.node.shape.lot ≡ name)
  pub all : (c : ℕ) (d : Seen) → T c ≡ Some d → d.parent ≡ None → Contains roots (d.node.shape.lot, c)
