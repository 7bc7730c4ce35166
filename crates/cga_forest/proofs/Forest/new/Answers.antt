use Rattle.cga_forest.proofs.ByName.{none_forest}
use Rattle.cga_forest.proofs.Covered.{none_covered}
use Rattle.cga_forest.proofs.Forest.new.Goals as goal

pub invariant_of-result : goal.invariant_of-result
invariant_of-result c = record {
  forest = rw (c.new.ensures, c.new-2.ensures.list, c.new-2.ensures.former) (none_forest c.args.mode);
  covered = none_covered c.new-3.result _ _ c.new-2.ensures.list;
}
