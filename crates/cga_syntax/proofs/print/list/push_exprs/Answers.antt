use Rattle.cga_lexer.specs.declared.sign.Sign.TheVariants as s
use Rattle.cga_syntax.specs.Pieces.{sign, expr_pieces}
use Rattle.cga_syntax.proofs.Printed.{after_on}
use Rattle.cga_syntax.proofs.print.list.push_exprs.Goals as goal

pub loop-expr-preserved : goal.loop-expr-preserved
loop-expr-preserved c = after_on (sign s.Comma) expr_pieces c.loop-expr.marks c.args.rest.now c.loop-expr.expr-index c.expr-item.result _ _ _ c.loop-expr-test.true c.expr-item.is c.loop-expr.invariant c.in_ok-push_sign.ensures c.in_ok-push_expr.ensures
