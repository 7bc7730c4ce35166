-- The order of keys is total, and equality goes by it.
use Rattle.std.specs.Cmp.{IsTotalOrder, IsEquivalence, IsPartialEquivalence, IsPartialOrder, partial_equiv_from_equiv, partial_order_from_total, eq_by_cmp_equiv, then_total, on_total, nat_cmp_total}
use Rattle.std.specs.Ordering.{eq_by_cmp, as_partial_cmp}
use Rattle.cga_word.specs.declared.mode.Mode.TheVariants.{Breadth, Depth}
use Rattle.cga_order.specs.Total.{stamps_total}
use Rattle.cga_order.specs.Key.{mode_number, chain_of_key, stamp_in, key_cmp}

pub key_total : IsTotalOrder key_cmp
key_total =
    then_total (on_total (λ k. mode_number k.mode) nat_cmp_total)
    (then_total (on_total (λ k. stamp_in Breadth k.mode (chain_of_key k)) (stamps_total Breadth)) (on_total (λ k. stamp_in Depth k.mode (chain_of_key k)) (stamps_total Depth)))

pub key_equiv : IsEquivalence (eq_by_cmp key_cmp)
key_equiv = eq_by_cmp_equiv key_total

pub key_partial : IsPartialEquivalence (eq_by_cmp key_cmp)
key_partial = partial_equiv_from_equiv key_equiv

pub key_order : IsPartialOrder (eq_by_cmp key_cmp) (as_partial_cmp key_cmp)
key_order = partial_order_from_total key_total
