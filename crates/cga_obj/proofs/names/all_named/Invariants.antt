use Rattle.std.proofs.Common.{take}
use Rattle.std.specs.Prelude.{All}
use Rattle.cga_obj.specs.DeltaLaws.{IsNamed}
use Rattle.cga_obj.proofs.names.all_named.Given as goal

abbrev pub invariant-loop-drawn : goal.invariant-loop-drawn
invariant-loop-drawn l = All IsNamed (take l.drawn-index l.all)
