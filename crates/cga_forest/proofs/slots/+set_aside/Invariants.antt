use Rattle.std.proofs.Common.{◌≡◌, ℕ, ◌-◌, ◌||◌, length, take, nat_eq}
use Rattle.std.specs.List.{list_any}
use Rattle.cga_forest.specs.View.{at, kids, flag_if, KeepsRoom}
use Rattle.cga_forest.specs.Tree.{under}
use Rattle.cga_forest.proofs.slots.+set_aside.Given as goal

abbrev pub decreases-set_aside : goal.decreases-set_aside
decreases-set_aside l = l.left

abbrev pub invariant-loop-place : goal.invariant-loop-place
invariant-loop-place l = record {
  counted : l.count ≡ length (kids (at l.fn.store l.id));
  so_far : (c : ℕ)
      → at l.store c ≡ flag_if (nat_eq l.id c || list_any (λ k. under (λ d. kids (at l.fn.store d)) (l.left - 1) k c) (take l.place (kids (at l.fn.store l.id)))) (at l.fn.store c);
  room : KeepsRoom l.fn.store l.store;
}
