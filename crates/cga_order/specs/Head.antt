-- The head of a chain: where its greatest rank stands, which is one depth in both modes.
use Rattle.std.specs.Prelude.{ℕ, ◌<◌, ◌≤◌, nat_le, if◌then◌else◌, List, length, slice_index}

-- the deepest depth that has the greatest of these priorities
pub record IsHead (priorities : List ℕ) (head : ℕ) : Type 0 where
  pub within : head < length priorities
  pub greatest : (depth : ℕ) → depth < length priorities → slice_index priorities depth ≤ slice_index priorities head
  pub deepest : (depth : ℕ) → head < depth → depth < length priorities
      → slice_index priorities depth < slice_index priorities head

-- the head where one more priority stands behind these: its own depth, unless a greater one is before it
abbrev pub child_head : List ℕ → ℕ → ℕ → ℕ
child_head priorities head own = if nat_le (slice_index priorities head) own then length priorities else head
