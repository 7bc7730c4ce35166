use Rattle.std.proofs.lemmas.Result.{err_from_is_err_and}
use Rattle.cga_check.specs.Uses.{conj_uses, test_uses}
use Rattle.cga_check.proofs.Sifted.{sifted_on, sifted_stop, sifted_end}
use Rattle.cga_check.proofs.sieve.cond.+cond.Goals as goal

pub sift_conjs-loop-conj-preserved : goal.sift_conjs-loop-conj-preserved
sift_conjs-loop-conj-preserved g t c = sifted_on conj_uses _ _ _ c.conj-item.result c.loop-conj-test.true c.conj-item.is _ _ (c.in_ok-sift_conj.ensures {u = tt}) c.loop-conj.invariant

pub sift_conjs-returns-in_err-sift_conj : goal.sift_conjs-returns-in_err-sift_conj
sift_conjs-returns-in_err-sift_conj g t c =
    let p = err_from_is_err_and c.from_residual.result c.from_residual.ensures.1 in
    rw (p.1, p.2) (sifted_stop conj_uses _ _ _ c.conj-item.result c.loop-conj-test.true c.conj-item.is _ _ (c.in_err-sift_conj.ensures {u = tt}) c.loop-conj.invariant)

pub sift_conjs-returns : goal.sift_conjs-returns
sift_conjs-returns g t c = sifted_end conj_uses _ _ _ _ c.loop-conj-test.false c.loop-conj.invariant

pub sift_tests-loop-test-preserved : goal.sift_tests-loop-test-preserved
sift_tests-loop-test-preserved g t c = sifted_on test_uses _ _ _ c.test-item.result c.loop-test-test.true c.test-item.is _ _ (c.in_ok-sift_test.ensures {u = tt}) c.loop-test.invariant

pub sift_tests-returns-in_err-sift_test : goal.sift_tests-returns-in_err-sift_test
sift_tests-returns-in_err-sift_test g t c =
    let p = err_from_is_err_and c.from_residual.result c.from_residual.ensures.1 in
    rw (p.1, p.2) (sifted_stop test_uses _ _ _ c.test-item.result c.loop-test-test.true c.test-item.is _ _ (c.in_err-sift_test.ensures {u = tt}) c.loop-test.invariant)

pub sift_tests-returns : goal.sift_tests-returns
sift_tests-returns g t c = sifted_end test_uses _ _ _ _ c.loop-test-test.false c.loop-test.invariant
