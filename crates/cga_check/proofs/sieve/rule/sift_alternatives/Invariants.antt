use Rattle.std.proofs.Common.{◌≡◌, drop}
use Rattle.std.specs.Prelude.{flat_map}
use Rattle.cga_check.specs.Uses.{alternative_uses}
use Rattle.cga_check.specs.Sifting.{sifted}
use Rattle.cga_check.proofs.sieve.rule.sift_alternatives.Given as goal

abbrev pub invariant-loop-alternative : goal.invariant-loop-alternative
invariant-loop-alternative g l = sifted (g.S.Sieve.is_caught l.sieve) (flat_map alternative_uses (drop l.alternative-index l.alternatives)) ≡ sifted (g.S.Sieve.is_caught l.fn.sieve) (flat_map alternative_uses l.fn.alternatives)
