use Rattle.cga_script.proofs.Feeds.{ends_line}
use Rattle.cga_script.proofs.lines.Lines.finish.Goals as goal

pub returns-clause-last : goal.returns-clause-last
returns-clause-last c = λ rest part. ends_line rest _ _ _ part c.end_line.ensures.ready c.end_line.ensures.line
