use Rattle.std.proofs.Common.{◌≡◌, drop}
use Rattle.std.specs.Prelude.{flat_map}
use Rattle.cga_check.specs.Uses.{body_uses, item_uses}
use Rattle.cga_check.specs.Sifting.{sifted}
use Rattle.cga_check.proofs.sieve.item.+item.Given as goal

abbrev pub invariant-sift_items-loop-item : goal.invariant-sift_items-loop-item
invariant-sift_items-loop-item g l = sifted (g.S.Sieve.is_caught l.sieve) (flat_map item_uses (drop l.item-index l.items)) ≡ sifted (g.S.Sieve.is_caught l.fn.sieve) (flat_map item_uses l.fn.items)

abbrev pub invariant-sift_bodies-loop-body : goal.invariant-sift_bodies-loop-body
invariant-sift_bodies-loop-body g l = sifted (g.S.Sieve.is_caught l.sieve) (flat_map body_uses (drop l.body-index l.bodies)) ≡ sifted (g.S.Sieve.is_caught l.fn.sieve) (flat_map body_uses l.fn.bodies)
