use Rattle.std.proofs.Common.{◌≡◌}
use Rattle.std.specs.Prelude.{option_and_then}
use Rattle.cga_marked.specs.Slab.{IsSwept}
use Rattle.cga_marked.proofs.entries.settle_listed.Given as goal

abbrev pub invariant-loop-id : goal.invariant-loop-id
invariant-loop-id g l = record {
  swept : IsSwept (option_and_then g.E.Marked.settled) l.fn.entries.slots l.entries.slots l.list l.id-index;
  capacity : l.entries.capacity ≡ l.fn.entries.capacity;
}
