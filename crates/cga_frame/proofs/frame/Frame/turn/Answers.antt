use Rattle.cga_frame.proofs.Frames.{right_handed}
use Rattle.cga_frame.proofs.Turns.{turning}
use Rattle.cga_frame.proofs.frame.Frame.turn.Goals as goal

pub returns-clause-right_handed : goal.returns-clause-right_handed
returns-clause-right_handed c = right_handed c.composed.result c.composed.ensures.frame

pub returns-clause-rules : goal.returns-clause-rules
returns-clause-rules c = turning c.args.self c.args.axis c.composed.ensures.outer
