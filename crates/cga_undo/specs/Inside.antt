-- What holds of each history.
use Rattle.std.specs.Prelude.{ℕ, ◌+◌, ◌≤◌, List, length}
use Rattle.cga_shape.specs.declared.sources.Sources.{Sources}
use Rattle.cga_undo.specs.declared.limits.TheConstants.{MOST_KEPT}

-- each list has room for all that is ever kept
pub record IsKept (past future : List Sources) (past_room future_room : ℕ) : Type 0 where
  pub few : length past + length future ≤ MOST_KEPT
  pub room_before : MOST_KEPT ≤ past_room
  pub room_after : MOST_KEPT ≤ future_room
