-- Ranks, stamps and chains are in total orders, in each mode.
use Rattle.std.specs.Prelude.{List, length}
use Rattle.std.specs.Cmp.{IsTotalOrder, then_total, on_total, nat_cmp_total}
use Rattle.std.specs.Cmp.Lexicographic.{lists_total, nat_list_cmp_total}
use Rattle.cga_word.specs.declared.mode.Mode.{Mode}
use Rattle.cga_word.specs.declared.mode.Mode.TheVariants.{Breadth, Depth}
use Rattle.cga_order.specs.Rank.{rank_cmp, by_priority, by_place}
use Rattle.cga_order.specs.Stamp.{stamp_cmp, stamps_cmp, stamp}

by_priority_total : IsTotalOrder by_priority
by_priority_total = on_total (λ r. r.priority) nat_cmp_total

by_place_total : IsTotalOrder by_place
by_place_total = then_total (on_total (λ r. r.lot) nat_list_cmp_total) (on_total (λ r. r.path) nat_list_cmp_total)

-- in each mode ranks are in a total order
pub rank_total : (mode : Mode) → IsTotalOrder (rank_cmp mode)
rank_total Breadth = then_total by_priority_total (then_total (on_total (λ r. length r.path) nat_cmp_total) by_place_total)
rank_total Depth = then_total by_priority_total by_place_total

-- in each mode lists of ranks, compared as stamps, are in a total order
pub stamps_total : (mode : Mode) → IsTotalOrder (stamps_cmp mode)
stamps_total mode = lists_total (rank_total mode)

-- in each mode chains, compared by their stamps, are in a total order
pub stamp_total : (mode : Mode) → IsTotalOrder (stamp_cmp mode)
stamp_total mode = on_total (stamp mode) (stamps_total mode)
