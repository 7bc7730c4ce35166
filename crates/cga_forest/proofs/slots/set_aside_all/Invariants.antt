use Rattle.std.proofs.Common.{◌≡◌, ℕ, take}
use Rattle.cga_forest.specs.View.{at, flag_if, KeepsRoom}
use Rattle.cga_forest.specs.NodeChange.{is_listed}
use Rattle.cga_forest.proofs.slots.set_aside_all.Given as goal

abbrev pub invariant-loop-moved : goal.invariant-loop-moved
invariant-loop-moved l = record {
  so_far : (c : ℕ) → at l.store c ≡ flag_if (is_listed (take l.moved-index l.list) c) (at l.fn.store c);
  room : KeepsRoom l.fn.store l.store;
}
