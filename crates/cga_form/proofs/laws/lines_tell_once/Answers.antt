use Rattle.cga_form.proofs.Lines.{form_unique}
use Rattle.cga_form.proofs.OnceBlocks.{once_lines}
use Rattle.cga_form.proofs.laws.lines_tell_once.Goals as goal

pub returns : goal.returns
returns g c = once_lines g.G.Form.pieces (form_unique g.G.Form.pieces g.G.Form.reader c.is_form.ensures) g.G.Gather.says
