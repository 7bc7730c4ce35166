use Rattle.std.proofs.Common.{length, ap, arith}
use Rattle.cga_marked.proofs.Shelf.{no_steps_ready, no_steps_listed}
use Rattle.cga_marked.proofs.marked_map.MarkedMap.new.Goals as goal

pub invariant_of-result : goal.invariant_of-result
invariant_of-result c = record {
  within = omega arith;
  ready = no_steps_ready _ _ c.new-2.ensures.items;
  room = let n = ap length c.new-2.ensures.items in omega (arith, n);
}

pub returns-clause-former : goal.returns-clause-former
returns-clause-former c = no_steps_listed _ _ c.new-2.ensures.items
