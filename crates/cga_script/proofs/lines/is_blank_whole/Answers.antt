use Rattle.cga_script.proofs.Blanks.{short_is}
use Rattle.cga_script.proofs.lines.is_blank_whole.Goals as goal

pub returns-then-line-le-LINE_LIMIT : goal.returns-then-line-le-LINE_LIMIT
returns-then-line-le-LINE_LIMIT c = short_is c.args.line.now c.is_blank.result c.if-line-le-LINE_LIMIT.true c.is_blank.ensures
