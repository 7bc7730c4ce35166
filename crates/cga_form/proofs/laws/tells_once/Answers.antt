use Rattle.cga_form.proofs.Lines.{form_unique}
use Rattle.cga_form.proofs.OnceLines.{once_line}
use Rattle.cga_form.proofs.OnceBlocks.{once_block}
use Rattle.cga_form.proofs.laws.tells_once.Goals as goal

pub returns-clause-line : goal.returns-clause-line
returns-clause-line g c = once_line g.F.Form.pieces (form_unique g.F.Form.pieces g.F.Form.reader c.is_form.ensures)

pub returns-clause-in_block : goal.returns-clause-in_block
returns-clause-in_block g c = once_block g.F.Form.pieces (form_unique g.F.Form.pieces g.F.Form.reader c.is_form.ensures)
