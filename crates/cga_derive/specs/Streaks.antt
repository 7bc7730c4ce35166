-- Boxes in a row, up to one of them, in one box.
use Rattle.std.specs.Prelude.{◌≡◌, ℕ, ◌≤◌, List, Some, map, length, slice_get, true}
use Rattle.cga_frame.specs.Box.{Box, box_of, holds}
use Rattle.cga_expand.specs.Children.{Member}
use Rattle.cga_derive.specs.declared.streak.Streak.{Streak}

-- it ends at this place, and its hull holds each of its boxes
pub record IsStreak (boxes : List Box) (last : ℕ) (streak : Streak) : Type 0 where
  pub begins : streak.first ≤ last
  pub held : (i : ℕ) (b : Box) → streak.first ≤ i → i ≤ last → slice_get boxes i ≡ Some b → holds streak.hull b ≡ true

-- at each place ends one
pub record AreStreaks (boxes : List Box) (streaks : List Streak) : Type 0 where
  pub size : length streaks ≡ length boxes
  pub each : (i : ℕ) (streak : Streak) → slice_get streaks i ≡ Some streak → IsStreak boxes i streak

-- these are the streaks of the members' boxes
abbrev pub IsBoxed : List Member → List Streak → Type 0
IsBoxed list streaks = AreStreaks (map (λ (m : Member). box_of m.shape.scope) list) streaks
