use Rattle.std.proofs.Common.{ap, ◌∙◌}
use Rattle.cga_shape.specs.Runs.{joined}
use Rattle.cga_shape.proofs.Runs.{joined-more}
use Rattle.cga_shape.proofs.lots.begun.Goals as goal

pub returns-then-len-lt-MOST_OF_RUN : goal.returns-then-len-lt-MOST_OF_RUN
returns-then-len-lt-MOST_OF_RUN c = ap joined c.in-Some.ensures.items ∙ joined-more c.pop.new.self.items c.in-Some.last
