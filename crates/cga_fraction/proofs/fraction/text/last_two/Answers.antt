use Rattle.std.proofs.Common.{sym}
use Rattle.cga_fraction.proofs.Texts.{last_pair}
use Rattle.cga_fraction.proofs.fraction.text.last_two.Goals as goal

pub returns : goal.returns
returns c = sym (last_pair c.args.number)
