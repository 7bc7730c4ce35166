use Rattle.cga_update.proofs.Edits.{is_edit}
use Rattle.cga_update.proofs.laws.sources_make_edits.Goals as goal

pub returns : goal.returns
returns c = is_edit
