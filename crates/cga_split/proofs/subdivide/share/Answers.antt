use Rattle.std.proofs.Common.{sym}
use Rattle.cga_split.proofs.Shares.{share_ok, share_err, share_sign}
use Rattle.cga_split.proofs.subdivide.share.Goals as goal

pub returns-in-Ok-div-clause-value : goal.returns-in-Ok-div-clause-value
returns-in-Ok-div-clause-value c =
    sym (share_ok c.args.rest c.args.factor c.args.total c.in-Ok.product (sym (c.in-Ok.ensures {u = tt}).value) c.requires.total c.in-Ok-div.length (sym (c.in-Ok-div.ensures {u = tt})))

pub returns-in-Ok-div-clause-sign : goal.returns-in-Ok-div-clause-sign
returns-in-Ok-div-clause-sign c =
    share_sign c.args.rest c.args.factor c.args.total c.in-Ok-div.length c.requires.rest c.requires.some c.requires.total
    (share_ok c.args.rest c.args.factor c.args.total c.in-Ok.product (sym (c.in-Ok.ensures {u = tt}).value) c.requires.total c.in-Ok-div.length (sym (c.in-Ok-div.ensures {u = tt})))

pub returns-in-Err-div-clause-value : goal.returns-in-Err-div-clause-value
returns-in-Err-div-clause-value c =
    sym (share_err c.args.rest c.args.factor c.args.total c.in-Ok.product (sym (c.in-Ok.ensures {u = tt}).value) c.requires.total c.in-Err-div.field-0 (sym (c.in-Err-div.ensures {u = tt})))
