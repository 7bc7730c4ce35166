-- Keys of one mode compare as their stamps.
use Rattle.std.proofs.Common.{◌≡◌, refl, ◌∙◌}
use Rattle.std.specs.declared.cmp.Ordering.{Ordering}
use Rattle.std.specs.declared.cmp.Ordering.TheVariants.{Less, Equal, Greater}
use Rattle.std.specs.Ordering.{ordering_then, nat_cmp}
use Rattle.cga_word.specs.declared.mode.Mode.{Mode}
use Rattle.cga_word.specs.declared.mode.Mode.TheVariants.{Breadth, Depth}
use Rattle.cga_order.specs.Chain.{Chain}
use Rattle.cga_order.specs.Stamp.{stamp_cmp, stamps_cmp}
use Rattle.cga_order.specs.declared.stamp_key.StampKey.{StampKey}
use Rattle.cga_order.specs.Key.{mode_number, chain_of_key, stamp_in, key_cmp}

then_equal : (o : Ordering) → ordering_then o Equal ≡ o
then_equal Less = refl
then_equal Equal = refl
then_equal Greater = refl

cmp_at : (m : Mode) (c d : Chain)
    → ordering_then (nat_cmp (mode_number m) (mode_number m))
    (ordering_then (stamps_cmp Breadth (stamp_in Breadth m c) (stamp_in Breadth m d))
    (stamps_cmp Depth (stamp_in Depth m c) (stamp_in Depth m d))) ≡ stamp_cmp m c d
cmp_at Breadth c d = then_equal (stamp_cmp Breadth c d)
cmp_at Depth c d = refl

-- keys of one mode compare as their chains' stamps in that mode
pub agrees : (mode : Mode) (a b : StampKey) → a.mode ≡ mode → b.mode ≡ mode
    → key_cmp a b ≡ stamp_cmp mode (chain_of_key a) (chain_of_key b)
agrees mode a b p q =
    (λ i. ordering_then (nat_cmp (mode_number (p i)) (mode_number (q i)))
    (ordering_then (stamps_cmp Breadth (stamp_in Breadth (p i) (chain_of_key a))
    (stamp_in Breadth (q i) (chain_of_key b))) (stamps_cmp Depth (stamp_in Depth (p i) (chain_of_key a))
    (stamp_in Depth (q i) (chain_of_key b))))) ∙ cmp_at mode (chain_of_key a) (chain_of_key b)
