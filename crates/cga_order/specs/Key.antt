-- The order of keys: by mode, and in one mode by stamp.
use Rattle.std.specs.Prelude.{ℕ, List, []}
use Rattle.std.specs.declared.cmp.Ordering.{Ordering}
use Rattle.std.specs.Ordering.{nat_cmp, on, then_cmp}
use Rattle.cga_word.specs.declared.mode.Mode.{Mode}
use Rattle.cga_word.specs.declared.mode.Mode.TheVariants.{Breadth, Depth}
use Rattle.cga_order.specs.Rank.{Rank}
use Rattle.cga_order.specs.Chain.{Chain}
use Rattle.cga_order.specs.Stamp.{stamp, stamps_cmp}
use Rattle.cga_order.specs.declared.stamp_key.StampKey.{StampKey}

abbrev pub mode_number : Mode → ℕ
mode_number Breadth = 0
mode_number Depth = 1

abbrev pub chain_of_key : StampKey → Chain
chain_of_key k = record { lot = k.lot; path = k.path; priorities = k.priorities }

-- the stamp where the key is of this mode, and else nothing
abbrev pub stamp_in : Mode → Mode → Chain → List Rank
stamp_in Breadth Breadth chain = stamp Breadth chain
stamp_in Breadth Depth chain = []
stamp_in Depth Breadth chain = []
stamp_in Depth Depth chain = stamp Depth chain

abbrev pub key_cmp : StampKey → StampKey → Ordering
key_cmp =
    then_cmp (on (λ k. mode_number k.mode) nat_cmp)
    (then_cmp (on (λ k. stamp_in Breadth k.mode (chain_of_key k)) (stamps_cmp Breadth)) (on (λ k. stamp_in Depth k.mode (chain_of_key k)) (stamps_cmp Depth)))
