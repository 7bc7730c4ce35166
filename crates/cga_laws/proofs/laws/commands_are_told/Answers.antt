use Rattle.cga_top.proofs.Door.{command_told}
use Rattle.cga_laws.proofs.laws.commands_are_told.Goals as goal

pub returns : goal.returns
returns c = command_told
