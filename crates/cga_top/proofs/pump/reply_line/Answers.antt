use Rattle.std.proofs.Common.{◌≡◌, ◌∙◌, ap, sym}
use Rattle.cga_script.specs.Lines.{Line}
use Rattle.cga_script.specs.Pending.{ready_line}
use Rattle.cga_top.specs.Replies.{effect}
use Rattle.cga_top.proofs.Lived.{begun_none, same_line}
use Rattle.cga_top.proofs.pump.reply_line.Goals as goal

pub returns-in-Ok-Some-clause-ok : goal.returns-in-Ok-Some-clause-ok
returns-in-Ok-Some-clause-ok g c = λ s at.
    let same = same_line c.args.lines.now _ _ c.line.ensures c.is_long.ensures in
    let asks = rw c.in-Ok-Some.field-0-is at (c.in-Ok-Some.ensures s at) in
    c.reply_by_lots.ensures.ok s (ready_line c.args.lines.now) c.args.expansions.now at (ap (effect s) (sym same) ∙ asks)

pub returns-in-Ok-Some-clause-err : goal.returns-in-Ok-Some-clause-err
returns-in-Ok-Some-clause-err g c = λ s told here.
    let same = same_line c.args.lines.now _ _ c.line.ensures c.is_long.ensures in
    let asks = rw c.in-Ok-Some.field-0-is at (c.in-Ok-Some.ensures s here.at) in
    c.reply_by_lots.ensures.err s (ready_line c.args.lines.now) told here (ap (effect s) (sym same) ∙ asks)

pub returns-in-Err-clause-err : goal.returns-in-Err-clause-err
returns-in-Err-clause-err g c = λ s told here. begun_none told s _ _
