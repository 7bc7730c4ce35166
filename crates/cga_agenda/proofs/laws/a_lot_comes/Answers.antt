use Rattle.cga_agenda.proofs.OneLot.{comes}
use Rattle.cga_agenda.proofs.laws.a_lot_comes.Goals as goal

pub returns : goal.returns
returns c = comes
