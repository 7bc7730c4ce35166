use Rattle.std.proofs.Common.{sym}
use Rattle.cga_split.proofs.Shares.{quotient_ok, quotient_err}
use Rattle.cga_split.proofs.repeats.quotient.Goals as goal

pub returns-in-Ok : goal.returns-in-Ok
returns-in-Ok c = sym (quotient_ok c.args.number c.args.by c.in-Ok.quotient c.requires (sym (c.in-Ok.ensures {u = tt})))

pub returns-in-Err : goal.returns-in-Err
returns-in-Err c = sym (quotient_err c.args.number c.args.by c.in-Err.field-0 c.requires (sym (c.in-Err.ensures {u = tt})))
