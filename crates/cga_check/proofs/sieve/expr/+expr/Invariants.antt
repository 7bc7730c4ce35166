use Rattle.std.proofs.Common.{◌≡◌, drop}
use Rattle.std.specs.Prelude.{flat_map}
use Rattle.cga_check.specs.Uses.{added_uses, scaled_uses}
use Rattle.cga_check.specs.Sifting.{sifted}
use Rattle.cga_check.proofs.sieve.expr.+expr.Given as goal

abbrev pub invariant-sift_all_added-loop-added : goal.invariant-sift_all_added-loop-added
invariant-sift_all_added-loop-added g l = sifted (g.S.Sieve.is_caught l.sieve) (flat_map added_uses (drop l.added-index l.rest)) ≡ sifted (g.S.Sieve.is_caught l.fn.sieve) (flat_map added_uses l.fn.rest)

abbrev pub invariant-sift_all_scaled-loop-scaled : goal.invariant-sift_all_scaled-loop-scaled
invariant-sift_all_scaled-loop-scaled g l = sifted (g.S.Sieve.is_caught l.sieve) (flat_map scaled_uses (drop l.scaled-index l.rest)) ≡ sifted (g.S.Sieve.is_caught l.fn.sieve) (flat_map scaled_uses l.fn.rest)
