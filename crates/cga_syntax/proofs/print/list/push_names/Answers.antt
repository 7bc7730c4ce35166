use Rattle.cga_lexer.specs.declared.sign.Sign.TheVariants as s
use Rattle.cga_syntax.specs.Pieces.{sign}
use Rattle.cga_syntax.specs.Forms.{name_pieces}
use Rattle.cga_syntax.proofs.Printed.{after_on}
use Rattle.cga_syntax.proofs.print.list.push_names.Goals as goal

pub loop-name-preserved : goal.loop-name-preserved
loop-name-preserved c = after_on (sign s.Comma) name_pieces c.loop-name.marks c.args.rest.now c.loop-name.name-index c.name-item.result _ _ _ c.loop-name-test.true c.name-item.is c.loop-name.invariant c.in_ok-push_sign.ensures c.in_ok-push_named.ensures
