use Rattle.cga_top.proofs.Lived.{begun_all}
use Rattle.cga_top.proofs.pump.reply_to.Goals as goal

pub returns-in-Err-send_on-clause-err : goal.returns-in-Err-send_on-clause-err
returns-in-Err-send_on-clause-err g c = λ s here. begun_all g.W.Talker.told s _ _ _ _ _ _ _ (c.in-Ok.ensures.ok s here) c.send_on.ensures.bytes
