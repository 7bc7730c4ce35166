use Rattle.std.proofs.Common.{sym, ◌∙◌, ap, arith, ℕ}
use Rattle.cga_fraction.specs.Gcd.{gcd}
use Rattle.cga_fraction.proofs.Gcds.{gcd-one, gcd-step, gcd-zero}
use Rattle.cga_fraction.proofs.gcd.common_divisor.Goals as goal

pub returns-then-b-eq1 : goal.returns-then-b-eq1
returns-then-b-eq1 c = sym (ap (λ (b : ℕ). gcd c.args.a b) c.if-b-eq1.true ∙ gcd-one c.args.a)

pub loop-y-preserved : goal.loop-y-preserved
loop-y-preserved c = sym (gcd-step c.loop-y.x c.loop-y.y) ∙ c.loop-y.invariant

pub returns-then-y-eq0 : goal.returns-then-y-eq0
returns-then-y-eq0 c = sym (gcd-zero c.loop-y.x c.loop-y.y (omega arith)) ∙ c.loop-y.invariant

pub returns : goal.returns
returns c = c.narrow_divisor-2.ensures ∙ sym (gcd-step c.loop-y.x c.loop-y.y) ∙ c.loop-y.invariant
