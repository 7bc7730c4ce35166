use Rattle.std.proofs.Common.{sym, ◌∙◌, arith}
use Rattle.cga_fraction.proofs.Gcds.{gcd-step, gcd-zero}
use Rattle.cga_fraction.proofs.gcd.narrow_divisor.Goals as goal

pub loop-y-preserved : goal.loop-y-preserved
loop-y-preserved c = sym (gcd-step c.loop-y.x c.loop-y.y) ∙ c.loop-y.invariant

pub returns : goal.returns
returns c = sym (gcd-zero c.loop-y.x c.loop-y.y (omega arith)) ∙ c.loop-y.invariant
