use Rattle.std.proofs.Common.{◌≡◌, ◌<◌, ℕ, length, false}
use Rattle.cga_kept_hulls.specs.Blocks.{StaysHeld, is_loose}
use Rattle.cga_kept_hulls.proofs.blocks.Blocks.rest.Given as goal

abbrev pub invariant-loop-block : goal.invariant-loop-block
invariant-loop-block l = record {
  kept : StaysHeld l.fn.self l.self;
  rested : (k : ℕ) → k < l.block → is_loose l.self k ≡ false;
  blocks : l.self.blocks ≡ l.fn.self.blocks;
  groups : l.self.groups ≡ l.fn.self.groups;
  count : length l.self.loose.items ≡ length l.fn.self.loose.items;
}
