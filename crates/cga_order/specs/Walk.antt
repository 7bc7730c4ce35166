-- What the walk of `cmp_stamp` knows, from the deeper ends of two chains up to their roots.
use Rattle.std.specs.Prelude.{◌≡◌, ◌≢◌, ℕ, zero, suc, ◌+◌, ◌-◌, ◌<◌, ◌≤◌, List, [], ◌∷◌, length, take, slice_index, Option, Some, None}
use Rattle.std.specs.declared.cmp.Ordering.{Ordering}
use Rattle.std.specs.declared.cmp.Ordering.TheVariants.{Less, Equal, Greater}
use Rattle.std.specs.Ordering.{nat_cmp}
use Rattle.std.specs.Cmp.Lexicographic.{slice_cmp}
use Rattle.cga_word.specs.declared.mode.Mode.{Mode}
use Rattle.cga_order.specs.Rank.{Rank, rank_cmp}
use Rattle.cga_order.specs.Chain.{Chain, rank_at, ranks_down}
use Rattle.cga_order.specs.Stamp.{maxima}
use Rattle.cga_order.specs.declared.walk.Parting.{Parting}

-- two lists agree in so many elements, and in no more
pub record IsCommonLength (xs ys : List ℕ) (common : ℕ) : Type 0 where
  pub left : common ≤ length xs
  pub right : common ≤ length ys
  pub same : take common xs ≡ take common ys
  pub parts : common < length xs → common < length ys → slice_index xs common ≢ slice_index ys common

-- how the lots compare, and where the paths part
pub record IsParting (a b : Chain) (parting : Parting) : Type 0 where
  pub lots : parting.lots ≡ slice_cmp nat_cmp a.lot b.lot
  pub common : IsCommonLength a.path b.path parting.common

-- from the root down so many ranks of two chains are the same
pub record SharesRanks (a b : Chain) (shared : ℕ) : Type 0 where
  pub left : shared ≤ length a.priorities
  pub right : shared ≤ length b.priorities
  pub same : ranks_down a shared ≡ ranks_down b shared

-- so many ranks of a chain, from this depth on
abbrev pub ranks_run : Chain → ℕ → ℕ → List Rank
ranks_run chain depth zero = []
ranks_run chain depth (suc n) = rank_at chain depth ∷ ranks_run chain (depth + 1) n

-- the ranks of a chain from this depth on
abbrev pub ranks_from : Chain → ℕ → List Rank
ranks_from chain depth = ranks_run chain depth (length chain.priorities - depth)

-- the greatest rank from this depth on stands at that depth; there is none past the end
abbrev pub IsTop : Mode → Chain → ℕ → Option ℕ → Type 0
IsTop mode chain depth None = length chain.priorities ≤ depth
IsTop mode chain depth (Some top) =
    (depth ≤ top) × (top < length chain.priorities)
    × (rest : List Rank) × (maxima (rank_cmp mode) (ranks_from chain depth) ≡ rank_at chain top ∷ rest)

-- the greatest ranks compared, where none is the least
abbrev pub tops_cmp : Mode → Chain → Option ℕ → Chain → Option ℕ → Ordering
tops_cmp mode a None b None = Equal
tops_cmp mode a None b (Some j) = Less
tops_cmp mode a (Some i) b None = Greater
tops_cmp mode a (Some i) b (Some j) = rank_cmp mode (rank_at a i) (rank_at b j)

-- a top is a depth of the chain
abbrev pub IsWithin : Chain → Option ℕ → Type 0
IsWithin chain None = Unit {0}
IsWithin chain (Some top) = top < length chain.priorities
