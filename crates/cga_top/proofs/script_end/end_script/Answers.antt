use Rattle.cga_top.proofs.Lived.{finished, unfinished_end, unfinished_line}
use Rattle.cga_top.proofs.script_end.end_script.Goals as goal

pub returns-in-Err-clause-err : goal.returns-in-Err-clause-err
returns-in-Err-clause-err g c = λ s rest st k. unfinished_line g.W.Talker.told s _ _ _ (c.in-Err.ensures.err s rest st k)

pub returns-in-Ok-end_block-clause-ok : goal.returns-in-Ok-end_block-clause-ok
returns-in-Ok-end_block-clause-ok g c = λ s rest st k. finished g.W.Talker.told s _ _ _ _ _ _ _ (c.in-Ok.ensures.ok s rest st k) (λ t at. c.in-Ok-end_block.ensures.ok t at)

pub returns-in-Err-end_block-clause-err : goal.returns-in-Err-end_block-clause-err
returns-in-Err-end_block-clause-err g c = λ s rest st k. unfinished_end g.W.Talker.told s _ _ _ _ _ _ _ (c.in-Ok.ensures.ok s rest st k) (λ t at. c.in-Err-end_block.ensures.err t at)
