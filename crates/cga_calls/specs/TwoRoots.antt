-- A tree of two roots with two leaves each: 0 has 2 and 3 below it, 1 has 4 and 5.
use Rattle.std.specs.Prelude.{ℕ, ℤ, pos, List, [], ◌∷◌, true, nat_eq, nat_lt, ◌||◌, ◌&&◌, Some, if◌then◌else◌}
use Rattle.cga_frame.specs.Box.{Box}
use Rattle.cga_frame.specs.Points.{whole_point}
use Rattle.cga_index.specs.Tree.{TreeView}
use Rattle.cga_index.specs.declared.standing.Standing.{Standing}
use Rattle.cga_index.specs.declared.standing.Standing.TheVariants.{Hidden, Waiting, Finished}

-- a box along X, one unit high and deep
abbrev pub span : ℤ → ℤ → Box
span from to = record { low = whole_point from (pos 0) (pos 0); high = whole_point to (pos 1) (pos 1) }

-- the first root and its leaves lie from 0 to 10, the second ones from 20 to 30; the first two leaves overlap
abbrev pub box_at : ℕ → Box
box_at n =
    if nat_eq n 0 then span (pos 0) (pos 10)
    else if nat_eq n 1 then span (pos 20) (pos 30)
    else if nat_eq n 2 then span (pos 0) (pos 4)
    else if nat_eq n 3 then span (pos 3) (pos 10)
    else if nat_eq n 4 then span (pos 20) (pos 24)
    else span (pos 24) (pos 30)

abbrev pub leaves_of : ℕ → List ℕ
leaves_of n = if nat_eq n 0 then 2 ∷ 3 ∷ [] else if nat_eq n 1 then 4 ∷ 5 ∷ [] else []

abbrev pub depth_at : ℕ → ℕ
depth_at n = if nat_lt n 2 then 0 else 1

-- a root is done with its expansion and is hidden from its own leaves, and a leaf waits
abbrev pub standing_of : ℕ → ℕ → Standing
standing_of n by =
    if nat_eq n by || (nat_eq n 0 && (nat_eq by 2 || nat_eq by 3)) || (nat_eq n 1 && (nat_eq by 4 || nat_eq by 5)) then Hidden
    else if nat_lt n 2 then Finished
    else Waiting

-- all of them ask
abbrev pub two_roots : TreeView
two_roots = record {
  roots = 0 ∷ 1 ∷ [];
  children = leaves_of;
  own = box_at;
  hull = box_at;
  depth = depth_at;
  standing = standing_of;
  asks = λ n. true;
  asking_hull = λ n. Some (box_at n);
}
