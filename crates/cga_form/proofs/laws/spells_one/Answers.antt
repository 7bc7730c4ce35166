use Rattle.cga_form.proofs.Lines.{form_unique}
use Rattle.cga_form.proofs.laws.spells_one.Goals as goal

pub returns : goal.returns
returns g c = form_unique g.F.Form.pieces g.F.Form.reader c.is_form.ensures
