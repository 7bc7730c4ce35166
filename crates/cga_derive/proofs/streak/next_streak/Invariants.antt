use Rattle.std.proofs.Common.{◌≤◌, List, [], ◌∷◌, ◌++◌, length}
use Rattle.cga_frame.specs.Box.{Box}
use Rattle.cga_derive.specs.Streaks.{AreStreaks, IsStreak}
use Rattle.cga_derive.proofs.streak.next_streak.Given as goal

abbrev pub invariant-loop-first : goal.invariant-loop-first
invariant-loop-first l = record {
  within : l.first ≤ length l.streaks;
  is : (boxes : List Box) → AreStreaks boxes l.streaks → IsStreak (boxes ++ l.fn.own ∷ []) (length boxes) (record { first = l.first; hull = l.hull });
}

abbrev pub decreases-loop-first : goal.decreases-loop-first
decreases-loop-first l = l.first
