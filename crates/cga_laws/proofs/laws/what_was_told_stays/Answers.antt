use Rattle.cga_laws.proofs.Staying.{outputs_stay, replies_begin_output, replies_stay}
use Rattle.cga_laws.proofs.laws.what_was_told_stays.Goals as goal

pub returns-clause-replies : goal.returns-clause-replies
returns-clause-replies c = replies_stay

pub returns-clause-output : goal.returns-clause-output
returns-clause-output c = replies_begin_output

pub returns-clause-whole : goal.returns-clause-whole
returns-clause-whole c = outputs_stay
