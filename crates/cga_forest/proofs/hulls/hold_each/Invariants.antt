use Rattle.std.proofs.Common.{◌≡◌, ◌<◌, ℕ, Some, true}
use Rattle.std.specs.Prelude.{slice_get}
use Rattle.cga_kept_hulls.specs.declared.hulls.Hulls.{Hulls}
use Rattle.cga_kept_hulls.specs.Hull.{holds_hulls}
use Rattle.cga_forest.specs.View.{at, hulls_of}
use Rattle.cga_forest.proofs.hulls.hold_each.Given as goal

-- those of the first so many nodes are held
abbrev pub invariant-loop-index : goal.invariant-loop-index
invariant-loop-index l = (i k : ℕ) (h : Hulls) → i < l.index → slice_get l.ids i ≡ Some k
    → hulls_of (at l.store k) ≡ Some h → holds_hulls l.hulls h ≡ true
