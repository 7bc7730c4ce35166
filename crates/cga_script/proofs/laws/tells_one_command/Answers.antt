use Rattle.cga_script.proofs.OneCommand.{one_command}
use Rattle.cga_script.proofs.laws.tells_one_command.Goals as goal

pub returns : goal.returns
returns c = one_command
