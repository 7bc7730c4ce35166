use Rattle.std.proofs.Common.{sym}
use Rattle.cga_solid.proofs.Halves.{half_ok, half_err}
use Rattle.cga_solid.proofs.corners.half.Goals as goal

pub returns-in-Ok : goal.returns-in-Ok
returns-in-Ok c = sym (half_ok c.args.size c.from.result c.in-Ok.half c.from.ensures (sym (c.in-Ok.ensures {u = tt})))

pub returns-in-Err : goal.returns-in-Err
returns-in-Err c = sym (half_err c.args.size c.from.result c.in-Err.field-0 c.from.ensures (sym (c.in-Err.ensures {u = tt})))
