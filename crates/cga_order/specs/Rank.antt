-- Ranks, and their order in each mode.
use Rattle.std.specs.Prelude.{ℕ, List, length}
use Rattle.std.specs.declared.cmp.Ordering.{Ordering}
use Rattle.std.specs.Ordering.{nat_cmp, on, then_cmp}
use Rattle.std.specs.Cmp.Lexicographic.{slice_cmp}
use Rattle.cga_word.specs.declared.mode.Mode.{Mode}
use Rattle.cga_word.specs.declared.mode.Mode.TheVariants.{Breadth, Depth}

-- the priority of a shape's symbol, the bytes of its lot's name, and its path from the lot's root
pub record Rank : Type 0 where
  pub priority : ℕ
  pub lot : List ℕ
  pub path : List ℕ

abbrev pub by_priority : Rank → Rank → Ordering
by_priority = on (λ r. r.priority) nat_cmp

-- a root has the depth 0
abbrev pub by_depth : Rank → Rank → Ordering
by_depth = on (λ r. length r.path) nat_cmp

-- lots by the bytes of their names, and in a lot by the path; a proper prefix is earlier
abbrev pub by_place : Rank → Rank → Ordering
by_place = then_cmp (on (λ r. r.lot) (slice_cmp nat_cmp)) (on (λ r. r.path) (slice_cmp nat_cmp))

-- smaller is earlier
abbrev pub rank_cmp : Mode → Rank → Rank → Ordering
rank_cmp Breadth = then_cmp by_priority (then_cmp by_depth by_place)
rank_cmp Depth = then_cmp by_priority by_place
