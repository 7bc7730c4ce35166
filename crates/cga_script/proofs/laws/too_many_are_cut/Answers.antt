use Rattle.cga_script.proofs.KeptLots.{all_kept, told_whole}
use Rattle.cga_script.proofs.laws.too_many_are_cut.Goals as goal

pub returns-clause-told : goal.returns-clause-told
returns-clause-told c = told_whole

pub returns-clause-few : goal.returns-clause-few
returns-clause-few c = all_kept c.too_many_are_cut.ensures.few
