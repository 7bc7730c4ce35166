use Rattle.cga_check.proofs.Valid.{symbols_agree}
use Rattle.cga_check.proofs.laws.symbols_agree.Goals as goal

pub returns : goal.returns
returns c = symbols_agree
