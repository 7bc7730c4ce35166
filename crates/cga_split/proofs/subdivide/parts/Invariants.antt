use Rattle.std.proofs.Common.{◌≡◌, drop}
use Rattle.std.specs.Prelude.{IsTrue}
use Rattle.std.specs.List.{list_all, list_any}
use Rattle.cga_fraction.specs.Rat.{zero_rat}
use Rattle.cga_fraction.specs.Order.{rat_lt}
use Rattle.cga_fraction.specs.Results.{onto}
use Rattle.cga_split.specs.Subdiv.{is_positive, is_relative, parts_from}
use Rattle.cga_split.specs.Split.{part_at}
use Rattle.cga_split.proofs.subdivide.parts.Given as goal

abbrev pub invariant-loop-size : goal.invariant-loop-size
invariant-loop-size l = record {
  made : onto l.made (parts_from (part_at l.scope l.axis) l.rest l.total l.from (drop l.size-index l.sizes)) ≡ parts_from (part_at l.scope l.axis) l.rest l.total zero_rat l.fn.sizes;
  some : IsTrue (list_all is_positive (drop l.size-index l.sizes));
  total : IsTrue (list_any is_relative (drop l.size-index l.sizes)) → IsTrue (rat_lt zero_rat l.total);
}
