use Rattle.std.proofs.Common.{◌-◌, length}
use Rattle.cga_kept_hulls.proofs.spares.Spares.provide.Given as goal

abbrev pub invariant-loop-alloc : goal.invariant-loop-alloc
invariant-loop-alloc l = Unit {0}

abbrev pub decreases-loop-alloc : goal.decreases-loop-alloc
decreases-loop-alloc l = l.count - length l.self.boxes.items
