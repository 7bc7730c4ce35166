use Rattle.std.proofs.Common.{◌≡◌, ◌++◌, drop}
use Rattle.cga_syntax.specs.Printing.{text_after, text_of}
use Rattle.cga_syntax.proofs.print.text.push_marks.Given as goal

abbrev pub invariant-loop-mark : goal.invariant-loop-mark
invariant-loop-mark l = l.text ++ text_after l.last (drop l.mark-index l.marks) ≡ l.initial.text ++ text_of l.marks
