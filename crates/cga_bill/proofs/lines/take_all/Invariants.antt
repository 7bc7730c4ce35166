use Rattle.std.proofs.Common.{List, ◌++◌, drop}
use Rattle.cga_shape.specs.declared.drawn.Drawn.{Drawn}
use Rattle.cga_bill.specs.Bill.{IsBill}
use Rattle.cga_bill.proofs.lines.take_all.Given as goal

abbrev pub invariant-loop-drawn : goal.invariant-loop-drawn
invariant-loop-drawn l = (rest : List Drawn) → IsBill l.initial.lines.entries (rest ++ l.gone) → IsBill l.lines.entries (rest ++ drop l.drawn-index l.gone)
