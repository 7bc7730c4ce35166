use Rattle.std.proofs.Common.{◌≡◌, map, drop}
use Rattle.cga_lexer.specs.declared.sign.Sign.TheVariants as s
use Rattle.cga_syntax.specs.Pieces.{after_each, sign}
use Rattle.cga_syntax.specs.Forms.{name_pieces}
use Rattle.cga_syntax.specs.Printing.{printed_on}
use Rattle.cga_syntax.proofs.print.list.push_names.Given as goal

abbrev pub invariant-loop-name : goal.invariant-loop-name
invariant-loop-name l =
    printed_on l.marks (after_each (sign s.Comma) (map name_pieces (drop l.name-index l.rest))) ≡ printed_on l.initial.marks (after_each (sign s.Comma) (map name_pieces l.rest))
