use Rattle.cga_top.specs.declared.report.Report.TheVariants.{Print}
use Rattle.cga_top.proofs.Reporting.{ok_says}
use Rattle.cga_top.proofs.report.print.Goals as goal

pub returns : goal.returns
returns c = λ s at. ok_says s Print c.args.name c.report_text.result (c.report_text.ensures s at)
