use Rattle.std.proofs.Common.{◌≡◌, map, drop}
use Rattle.cga_lexer.specs.declared.sign.Sign.TheVariants as s
use Rattle.cga_syntax.specs.Pieces.{after_each, sign, size_pieces}
use Rattle.cga_syntax.specs.Printing.{printed_on}
use Rattle.cga_syntax.proofs.print.parts.push_sizes.Given as goal

abbrev pub invariant-loop-size : goal.invariant-loop-size
invariant-loop-size l =
    printed_on l.marks (after_each (sign s.Comma) (map size_pieces (drop l.size-index l.sizes))) ≡ printed_on l.initial.marks (after_each (sign s.Comma) (map size_pieces l.sizes))
