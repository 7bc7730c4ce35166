use Rattle.std.proofs.Common.{ℕ, ◌≤◌, ◌<◌}
use Rattle.cga_forest.specs.Blocks.{IsCovered}
use Rattle.cga_kept_hulls.specs.Blocks.{StaysHeld}
use Rattle.cga_forest.specs.View.{at, hulls_of}
use Rattle.cga_forest.proofs.covering.cover_places.Given as goal

abbrev pub invariant-loop-place : goal.invariant-loop-place
invariant-loop-place l = record {
  here : (p : ℕ) → l.from ≤ p → p < l.place → IsCovered l.blocks l.roots.list (λ c. hulls_of (at l.store c)) p;
  kept : StaysHeld l.fn.blocks l.blocks;
}
