use Rattle.std.proofs.Common.{◌∙◌}
use Rattle.cga_top.proofs.report.report_text.Goals as goal

pub returns-in-Ok : goal.returns-in-Ok
returns-in-Ok c = λ s at. c.into_list.ensures ∙ rw c.new-out.ensures.bytes at (c.in-Ok.ensures.ok s at)
