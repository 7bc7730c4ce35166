use Rattle.std.proofs.Common.{◌≡◌, ◌++◌}
use Rattle.std.specs.Prelude.{flat_map}
use Rattle.cga_bill.specs.Texts.{line_text}
use Rattle.cga_bill.proofs.text.push_lines.Given as goal

abbrev pub invariant-loop-symbol : goal.invariant-loop-symbol
invariant-loop-symbol l = l.text ++ flat_map line_text l.symbol-iterator ≡ l.fn.text ++ flat_map line_text l.lines.entries
