use Rattle.std.proofs.Common.{subst}
use Rattle.std.specs.Prelude.{IsTrue}
use Rattle.cga_split.specs.Subdiv.{is_positive}
use Rattle.cga_split.specs.declared.part_size.PartSize.{PartSize}
use Rattle.cga_split.proofs.Shares.{positive_sign}
use Rattle.cga_split.proofs.subdivide.length_of.Goals as goal

pub returns-in-Absolute-clause-sign : goal.returns-in-Absolute-clause-sign
returns-in-Absolute-clause-sign c = positive_sign c.in-Absolute.length (subst (λ (s : PartSize). IsTrue (is_positive s)) c.in-Absolute.is c.requires.some)
