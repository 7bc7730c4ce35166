use Rattle.cga_rework.proofs.More.{over_none}
use Rattle.cga_rework.proofs.Loop.{loop_done}
use Rattle.cga_rework.proofs.laws.loop_is_exact.Goals as goal

pub returns : goal.returns
returns g c = record {
  over = λ shapes old new laws budget over. over_none shapes new laws.is budget over;
  done = λ shapes old new laws start started once last budget calls since ended before was. loop_done shapes old new laws start started once last budget calls since ended before was;
}
