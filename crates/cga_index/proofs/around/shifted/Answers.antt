use Rattle.cga_index.proofs.Widening.{shifted_is}
use Rattle.cga_index.proofs.around.shifted.Goals as goal

pub returns : goal.returns
returns c = shifted_is c.args.by c.args.point c.in_ok-add.field-0 c.in_ok-add-2.field-0 c.in_ok-add-3.field-0 c.in_ok-add.ensures.value c.in_ok-add-2.ensures.value c.in_ok-add-3.ensures.value
