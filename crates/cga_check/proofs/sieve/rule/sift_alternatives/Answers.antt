use Rattle.std.proofs.lemmas.Result.{err_from_is_err_and}
use Rattle.cga_check.specs.Uses.{alternative_uses}
use Rattle.cga_check.proofs.Sifted.{sifted_on, sifted_stop, sifted_end}
use Rattle.cga_check.proofs.sieve.rule.sift_alternatives.Goals as goal

pub loop-alternative-preserved : goal.loop-alternative-preserved
loop-alternative-preserved g c = sifted_on alternative_uses _ _ _ c.alternative-item.result c.loop-alternative-test.true c.alternative-item.is _ _ (c.in_ok-sift_alternative.ensures {u = tt}) c.loop-alternative.invariant

pub returns-in_err-sift_alternative : goal.returns-in_err-sift_alternative
returns-in_err-sift_alternative g c =
    let p = err_from_is_err_and c.from_residual.result c.from_residual.ensures.1 in
    rw (p.1, p.2) (sifted_stop alternative_uses _ _ _ c.alternative-item.result c.loop-alternative-test.true c.alternative-item.is _ _ (c.in_err-sift_alternative.ensures {u = tt}) c.loop-alternative.invariant)

pub returns : goal.returns
returns g c = sifted_end alternative_uses _ _ _ _ c.loop-alternative-test.false c.loop-alternative.invariant
