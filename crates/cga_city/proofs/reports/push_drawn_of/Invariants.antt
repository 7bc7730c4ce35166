use Rattle.std.proofs.Common.{◌≡◌, ◌++◌, take}
use Rattle.std.specs.List.{flat_map}
use Rattle.cga_city.specs.Nodes.{given_of}
use Rattle.cga_city.specs.Reports as spec
use Rattle.cga_city.proofs.reports.push_drawn_of.Given as goal

abbrev pub invariant-loop-node : goal.invariant-loop-node
invariant-loop-node l = l.drawn ≡ l.fn.drawn ++ flat_map (given_of spec.drawn_of l.forest) (take l.node-index l.nodes)
