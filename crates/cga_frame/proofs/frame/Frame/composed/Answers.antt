use Rattle.cga_frame.specs.Axes.{Frame}
use Rattle.cga_frame.proofs.Frames.{composed_is_frame}
use Rattle.cga_frame.proofs.frame.Frame.composed.Goals as goal

pub invariant_of-result : goal.invariant_of-result
invariant_of-result c =
    let f : Frame = record { x = c.self.inside.x; y = c.self.inside.y; z = c.self.inside.z } in
    let k = composed_is_frame (record { x = c.self.inside.x; y = c.self.inside.y; z = c.self.inside.z }) c.args.inner c.self.invariant c.along.ensures.frame in
    rw (c.flipped.ensures, c.flipped-2.ensures, c.flipped-3.ensures, c.along.ensures.value, c.along-2.ensures.value, c.along-3.ensures.value) k

pub returns-clause-frame : goal.returns-clause-frame
returns-clause-frame c = invariant_of-result c
