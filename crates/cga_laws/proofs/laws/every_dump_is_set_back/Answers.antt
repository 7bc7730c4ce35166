use Rattle.cga_laws.proofs.Spelled.{states_are_spelled}
use Rattle.cga_laws.proofs.Undoing.{states_are_within}
use Rattle.cga_laws.proofs.laws.every_dump_is_set_back.Goals as goal
use Rattle.cga_laws.specs.Undos.{state_after}
use Rattle.cga_top.specs.Replies.{budget_of}

pub returns-clause-spelled : goal.returns-clause-spelled
returns-clause-spelled c = states_are_spelled c.dump_reads_back.ensures.spelled

pub returns-clause-back : goal.returns-clause-back
returns-clause-back c = λ decimals lines text at.
    let s = state_after decimals lines in
    let (sound, fits) = states_are_within decimals lines in
    c.dumps_are_set_back.ensures s.sources (budget_of s.version) text (states_are_spelled c.dump_reads_back.ensures.spelled decimals lines) sound fits at
