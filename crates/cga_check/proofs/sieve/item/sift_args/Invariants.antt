use Rattle.std.proofs.Common.{◌≡◌, drop}
use Rattle.std.specs.Prelude.{flat_map}
use Rattle.cga_check.specs.Uses.{expr_uses}
use Rattle.cga_check.specs.Sifting.{sifted}
use Rattle.cga_check.proofs.sieve.item.sift_args.Given as goal

abbrev pub invariant-loop-arg : goal.invariant-loop-arg
invariant-loop-arg g l = sifted (g.S.Sieve.is_caught l.sieve) (flat_map expr_uses (drop l.arg-index l.args)) ≡ sifted (g.S.Sieve.is_caught l.fn.sieve) (flat_map expr_uses l.fn.args)
