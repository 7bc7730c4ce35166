use Rattle.cga_script.proofs.Feeds.{cuts_line, goes_on}
use Rattle.cga_script.proofs.lines.Lines.feed.Goals as goal

pub returns-in-Some-clause-cut : goal.returns-in-Some-clause-cut
returns-in-Some-clause-cut c = λ rest part.
    let found = c.in-Some.ensures {u = tt} in
    cuts_line rest _ _ _ c.in-Some.end part found.0 found.1 found.2 c.keep.ensures

pub returns-in-None-clause-cut : goal.returns-in-None-clause-cut
returns-in-None-clause-cut c = λ rest part. goes_on rest _ _ _ part (c.in-None.ensures {u = tt}) c.keep-in-None.ensures
