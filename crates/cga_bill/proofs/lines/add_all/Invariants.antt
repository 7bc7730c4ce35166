use Rattle.std.proofs.Common.{List, ◌++◌, take}
use Rattle.cga_shape.specs.declared.drawn.Drawn.{Drawn}
use Rattle.cga_bill.specs.Bill.{IsBill}
use Rattle.cga_bill.proofs.lines.add_all.Given as goal

abbrev pub invariant-loop-drawn : goal.invariant-loop-drawn
invariant-loop-drawn l = (list : List Drawn) → IsBill l.initial.lines.entries list → IsBill l.lines.entries (list ++ take l.drawn-index l.come)
