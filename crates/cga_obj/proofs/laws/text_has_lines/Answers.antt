use Rattle.cga_obj.proofs.DeltaLines as lines
use Rattle.cga_obj.proofs.laws.text_has_lines.Goals as goal

pub returns : goal.returns
returns c = lines.text_has_lines
