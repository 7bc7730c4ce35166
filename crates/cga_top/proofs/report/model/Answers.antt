use Rattle.cga_top.specs.declared.report.Report.TheVariants.{Model}
use Rattle.cga_top.proofs.Reporting.{ok_says}
use Rattle.cga_top.proofs.report.model.Goals as goal

pub returns : goal.returns
returns c = λ s at. ok_says s Model c.args.name c.report_text.result (c.report_text.ensures s at)
