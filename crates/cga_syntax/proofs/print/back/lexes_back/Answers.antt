use Rattle.cga_syntax.proofs.Back.{text_read}
use Rattle.cga_syntax.proofs.print.back.lexes_back.Goals as goal

pub returns : goal.returns
returns c = text_read
