use Rattle.std.proofs.Common.{◌-◌, ◌≡◌, ◌≤◌, take}
use Rattle.cga_order.proofs.runs.common_groups.Given as goal

abbrev pub invariant-loop-common : goal.invariant-loop-common
invariant-loop-common l = (l.common ≤ l.shorter) × (take l.common l.xs ≡ take l.common l.ys)

abbrev pub decreases-loop-common : goal.decreases-loop-common
decreases-loop-common l = l.shorter - l.common
