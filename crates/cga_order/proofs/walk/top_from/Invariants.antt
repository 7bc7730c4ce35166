use Rattle.std.proofs.Common.{◌≤◌}
use Rattle.cga_word.specs.declared.mode.Mode.{Mode}
use Rattle.cga_order.specs.Seen.{chain_of}
use Rattle.cga_order.specs.Walk.{IsTop}
use Rattle.cga_order.proofs.walk.top_from.Given as goal

-- the top from the depth on is known
abbrev pub invariant-loop-depth : goal.invariant-loop-depth
invariant-loop-depth l = (l.from ≤ l.depth) × ((mode : Mode) → IsTop mode (chain_of l.chain) l.depth l.top_below)

abbrev pub decreases-loop-depth : goal.decreases-loop-depth
decreases-loop-depth l = l.depth
