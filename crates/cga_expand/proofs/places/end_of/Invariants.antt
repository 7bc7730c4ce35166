use Rattle.std.proofs.Common.{◌≡◌, ◌≤◌, filter, length, take}
use Rattle.cga_check.specs.Groups.{is_of}
use Rattle.cga_expand.proofs.places.end_of.Given as goal

abbrev pub invariant-loop-end : goal.invariant-loop-end
invariant-loop-end l =
    (l.end ≤ length l.entries) × (filter (is_of l.symbol) (take l.end l.entries) ≡ filter (is_of l.symbol) l.entries)

abbrev pub decreases-loop-end : goal.decreases-loop-end
decreases-loop-end l = l.end
