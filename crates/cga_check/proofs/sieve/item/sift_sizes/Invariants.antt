use Rattle.std.proofs.Common.{◌≡◌, drop}
use Rattle.std.specs.Prelude.{flat_map}
use Rattle.cga_check.specs.Uses.{size_uses}
use Rattle.cga_check.specs.Sifting.{sifted}
use Rattle.cga_check.proofs.sieve.item.sift_sizes.Given as goal

abbrev pub invariant-loop-size : goal.invariant-loop-size
invariant-loop-size g l = sifted (g.S.Sieve.is_caught l.sieve) (flat_map size_uses (drop l.size-index l.sizes)) ≡ sifted (g.S.Sieve.is_caught l.fn.sieve) (flat_map size_uses l.fn.sizes)
