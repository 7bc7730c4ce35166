-- In the order of ranks only one rank equals another: itself.
use Rattle.std.proofs.Common.{◌≡◌, List, refl}
use Rattle.std.specs.declared.cmp.Ordering.{Ordering}
use Rattle.std.specs.declared.cmp.Ordering.TheVariants.{Less, Equal, Greater}
use Rattle.std.specs.Ordering.{ordering_then}
use Rattle.std.specs.FinMap.{nat_cmp-IsAntisymmetric, slice_cmp-IsAntisymmetric}
use Rattle.cga_word.specs.declared.mode.Mode.{Mode}
use Rattle.cga_word.specs.declared.mode.Mode.TheVariants.{Breadth, Depth}
use Rattle.cga_order.specs.Rank.{Rank, rank_cmp, by_priority, by_place}
use Rattle.cga_order.specs.Stamp.{stamps_cmp}

both_equal : (a b : Ordering) → ordering_then a b ≡ Equal → (a ≡ Equal) × (b ≡ Equal)
both_equal Less b e = let x : Less ≡ Equal = e in cc
both_equal Equal b e = (refl, e)
both_equal Greater b e = let x : Greater ≡ Equal = e in cc

same_rank : (a b : Rank) → by_priority a b ≡ Equal → by_place a b ≡ Equal → a ≡ b
same_rank a b priority place =
    let parts = both_equal _ _ place in
    let names = slice_cmp-IsAntisymmetric nat_cmp-IsAntisymmetric in
    λ i. record {
      priority = nat_cmp-IsAntisymmetric a.priority b.priority priority i;
      lot = names a.lot b.lot parts.0 i;
      path = names a.path b.path parts.1 i;
    }

pub rank_exact : (mode : Mode) (a b : Rank) → rank_cmp mode a b ≡ Equal → a ≡ b
rank_exact Breadth a b e =
    let p = both_equal _ _ e in
    same_rank a b p.0 (both_equal _ _ p.1).1
rank_exact Depth a b e =
    let p = both_equal _ _ e in
    same_rank a b p.0 p.1

pub stamps_exact : (mode : Mode) (a b : List Rank) → stamps_cmp mode a b ≡ Equal → a ≡ b
stamps_exact mode = slice_cmp-IsAntisymmetric (rank_exact mode)
