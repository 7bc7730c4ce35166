use Rattle.cga_fraction.proofs.Gcds.{gcd_positive}
use Rattle.cga_fraction.proofs.Lowest.{narrow, narrow_is}
use Rattle.cga_fraction.proofs.fraction.Fraction.lowest.Goals as goal

pub nonzero_div-result : goal.nonzero_div-result
nonzero_div-result c = rw c.narrow_divisor-common.ensures (gcd_positive _ _ c.requires.above_zero)

pub nonzero_div-result-2 : goal.nonzero_div-result-2
nonzero_div-result-2 c = rw c.narrow_divisor-common.ensures (gcd_positive _ _ c.requires.above_zero)

pub invariant_of-result : goal.invariant_of-result
invariant_of-result c = narrow_is c.args.n c.args.d _ c.narrow_divisor-common.ensures c.requires.small c.requires.few c.requires.above_zero

pub returns : goal.returns
returns c = narrow c.args.n c.args.d _ c.narrow_divisor-common.ensures c.requires.small
