use Rattle.std.proofs.Common.{◌≡◌}
use Rattle.cga_order.specs.Seen.{chain_of}
use Rattle.cga_order.specs.Walk.{IsTop}
use Rattle.cga_order.proofs.Tops.{order_from}
use Rattle.cga_order.proofs.walk.cmp_by_walk.Given as goal

-- the stamps are compared from the depth on, and the tops there are known
abbrev pub invariant-loop-depth : goal.invariant-loop-depth
invariant-loop-depth l =
    (l.order ≡ order_from l.mode (chain_of l.a) (chain_of l.b) l.depth)
    × IsTop l.mode (chain_of l.a) l.depth l.left
    × IsTop l.mode (chain_of l.b) l.depth l.right

abbrev pub decreases-loop-depth : goal.decreases-loop-depth
decreases-loop-depth l = l.depth
