use Rattle.cga_lexer.specs.declared.sign.Sign.TheVariants as s
use Rattle.cga_syntax.specs.Pieces.{sign, size_pieces}
use Rattle.cga_syntax.proofs.Printed.{after_on}
use Rattle.cga_syntax.proofs.print.parts.push_sizes.Goals as goal

pub loop-size-preserved : goal.loop-size-preserved
loop-size-preserved c = after_on (sign s.Comma) size_pieces c.loop-size.marks c.args.sizes.now c.loop-size.size-index c.size-item.result _ _ _ c.loop-size-test.true c.size-item.is c.loop-size.invariant c.in_ok-push_sign.ensures c.in_ok-push_size.ensures
