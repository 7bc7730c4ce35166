use Rattle.std.proofs.Common.{◌≡◌, drop}
use Rattle.std.specs.List.{list_any}
use Rattle.cga_frame.specs.Box.{meets}
use Rattle.cga_index.proofs.near.meets_one.Given as goal

abbrev pub invariant-loop-area : goal.invariant-loop-area
invariant-loop-area l = list_any (meets l.own) l.areas ≡ list_any (meets l.own) (drop l.area-index l.areas)
