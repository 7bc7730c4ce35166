use Rattle.cga_obj.proofs.DeltaTells as tells
use Rattle.cga_obj.proofs.laws.text_tells_instance.Goals as goal

pub returns : goal.returns
returns c = tells.text_tells_instance
