use Rattle.std.proofs.Common.{◌≡◌, drop}
use Rattle.std.specs.Prelude.{flat_map}
use Rattle.cga_check.specs.Uses.{conj_uses, test_uses}
use Rattle.cga_check.specs.Sifting.{sifted}
use Rattle.cga_check.proofs.sieve.cond.+cond.Given as goal

abbrev pub invariant-sift_conjs-loop-conj : goal.invariant-sift_conjs-loop-conj
invariant-sift_conjs-loop-conj g l = sifted (g.S.Sieve.is_caught l.sieve) (flat_map conj_uses (drop l.conj-index l.conjs)) ≡ sifted (g.S.Sieve.is_caught l.fn.sieve) (flat_map conj_uses l.fn.conjs)

abbrev pub invariant-sift_tests-loop-test : goal.invariant-sift_tests-loop-test
invariant-sift_tests-loop-test g l = sifted (g.S.Sieve.is_caught l.sieve) (flat_map test_uses (drop l.test-index l.tests)) ≡ sifted (g.S.Sieve.is_caught l.fn.sieve) (flat_map test_uses l.fn.tests)
