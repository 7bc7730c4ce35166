use Rattle.cga_syntax.specs.Pieces.{alternative_pieces}
use Rattle.cga_syntax.proofs.Printed.{each_on}
use Rattle.cga_syntax.proofs.print.rule.push_alternatives.Goals as goal

pub loop-alternative-preserved : goal.loop-alternative-preserved
loop-alternative-preserved c = each_on alternative_pieces c.loop-alternative.marks c.args.alternatives.now c.loop-alternative.alternative-index c.alternative-item.result _ _ c.loop-alternative-test.true c.alternative-item.is c.loop-alternative.invariant c.in_ok-push_alternative.ensures
