use Rattle.std.proofs.Common.{rules}
use Rattle.cga_bill.proofs.Bounds.{millionths_from}
use Rattle.cga_bill.proofs.measure.millionths.Goals as goal

pub returns-then-numerator-lt-SMALL : goal.returns-then-numerator-lt-SMALL
returns-then-numerator-lt-SMALL c = millionths_from c.args.number _ _ (search rules) (search rules)

pub returns-else-numerator-lt-SMALL : goal.returns-else-numerator-lt-SMALL
returns-else-numerator-lt-SMALL c = millionths_from c.args.number _ _ (search rules) (search rules)
