use Rattle.std.specs.Prelude.{ℕ, ◌<◌, ◌≤◌, slice_index}
use Rattle.cga_order.proofs.head.head_of.Given as goal

-- the head of the priorities before the depth
abbrev pub invariant-loop-depth : goal.invariant-loop-depth
invariant-loop-depth l = record {
  within : l.head < l.depth;
  greatest : (i : ℕ) → i < l.depth → slice_index l.priorities i ≤ slice_index l.priorities l.head;
  deepest : (i : ℕ) → l.head < i → i < l.depth → slice_index l.priorities i < slice_index l.priorities l.head;
}
