use Rattle.std.proofs.Common.{rules}
use Rattle.cga_script.proofs.Kept.{kept_is}
use Rattle.cga_script.proofs.lines.extend_kept.Goals as goal

pub returns-clause-items : goal.returns-clause-items
returns-clause-items c = kept_is _ _ _ _ 4098 _ c.in-Ok.ensures.items c.first-part.ensures (search rules) (search rules)
