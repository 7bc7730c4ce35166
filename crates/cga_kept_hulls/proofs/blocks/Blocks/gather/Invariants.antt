use Rattle.std.proofs.Common.{◌≡◌, ◌≢◌, ◌⊎◌, ◌<◌, ◌/◌, ℕ, length}
use Rattle.std.specs.Prelude.{Option, slice_get}
use Rattle.cga_kept_hulls.specs.declared.hulls.Hulls.{Hulls}
use Rattle.cga_kept_hulls.specs.Blocks.{HoldsKnown, IsHeld, IsIn}
use Rattle.cga_kept_hulls.proofs.blocks.Blocks.gather.Given as goal

abbrev pub invariant-loop-block : goal.invariant-loop-block
invariant-loop-block l = record {
  blocks : l.self.blocks ≡ l.fn.self.blocks;
  loose : l.self.loose ≡ l.fn.self.loose;
  count : length l.self.groups.hulls.items ≡ length l.fn.self.groups.hulls.items;
  others : (other : ℕ) → other ≢ l.group → slice_get l.self.groups.hulls.items other ≡ slice_get l.fn.self.groups.hulls.items other;
  knows : (k : ℕ) → k / 16 ≡ l.group → k < l.block → HoldsKnown (slice_get l.self.groups.hulls.items l.group) (slice_get l.fn.self.blocks.hulls.items k);
  least : (outer : Option (Option Hulls)) → ((k : ℕ) → k / 16 ≡ l.group → k < l.block → HoldsKnown outer (slice_get l.fn.self.blocks.hulls.items k))
      → HoldsKnown outer (slice_get l.self.groups.hulls.items l.group);
  gathered : (place : ℕ) (h : Hulls) → place / 16 < length l.fn.self.blocks.hulls.items → IsHeld l.fn.self place h
      → (place / 256 ≢ l.group) ⊎ (place / 16 < l.block) → IsIn l.self.groups.hulls.items (place / 16) h;
}
