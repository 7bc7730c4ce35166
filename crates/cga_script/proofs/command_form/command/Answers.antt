use Rattle.std.proofs.Common.{sym, subst}
use Rattle.std.specs.Prelude.{IfOk}
use Rattle.cga_script.specs.Commands.{CommandTells}
use Rattle.cga_script.specs.declared.version.Version.{Version}
use Rattle.cga_script.specs.declared.version.Version.TheVariants.{One, Two}
use Rattle.cga_script.proofs.OneCommand.{as_given}
use Rattle.cga_script.proofs.command_form.command.Goals as goal

pub returns-in-One : goal.returns-in-One
returns-in-One c =
    subst (λ (v : Version). IfOk c.read_line.result (λ told. CommandTells v (record { bytes = c.args.line.now; long = c.args.long }) told)) (sym c.in-One.is)
    (as_given One c.args.line.now c.args.long c.read_line.result c.if-long.false c.read_line.ensures)

pub returns-in-Two : goal.returns-in-Two
returns-in-Two c =
    subst (λ (v : Version). IfOk c.read_line-in-Two.result (λ told. CommandTells v (record { bytes = c.args.line.now; long = c.args.long }) told)) (sym c.in-Two.is)
    (as_given Two c.args.line.now c.args.long c.read_line-in-Two.result c.if-long.false c.read_line-in-Two.ensures)
