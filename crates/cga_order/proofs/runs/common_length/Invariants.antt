use Rattle.std.proofs.Common.{length, ◌-◌, ◌≡◌, ◌≤◌, take}
use Rattle.cga_order.proofs.runs.common_length.Given as goal

abbrev pub invariant-loop-common : goal.invariant-loop-common
invariant-loop-common l = (l.common ≤ length l.xs) × (l.common ≤ length l.ys) × (take l.common l.xs ≡ take l.common l.ys)

abbrev pub decreases-loop-common : goal.decreases-loop-common
decreases-loop-common l = length l.xs - l.common
