use Rattle.std.proofs.Common.{◌≡◌, drop}
use Rattle.std.specs.List.{list_all}
use Rattle.cga_split.specs.Subdiv.{is_positive, AllFractions}
use Rattle.cga_split.proofs.subdivide.are_positive.Given as goal

abbrev pub invariant-loop-size : goal.invariant-loop-size
invariant-loop-size l = record {
  same : list_all is_positive (drop l.size-index l.sizes) ≡ list_all is_positive l.fn.sizes;
  so_far : AllFractions (drop l.size-index l.sizes) → AllFractions l.fn.sizes;
}
