use Rattle.std.proofs.Common.{◌≡◌, map, drop}
use Rattle.cga_lexer.specs.declared.sign.Sign.TheVariants as s
use Rattle.cga_syntax.specs.Pieces.{after_each, sign, expr_pieces}
use Rattle.cga_syntax.specs.Printing.{printed_on}
use Rattle.cga_syntax.proofs.print.list.push_exprs.Given as goal

abbrev pub invariant-loop-expr : goal.invariant-loop-expr
invariant-loop-expr l =
    printed_on l.marks (after_each (sign s.Comma) (map expr_pieces (drop l.expr-index l.rest))) ≡ printed_on l.initial.marks (after_each (sign s.Comma) (map expr_pieces l.rest))
