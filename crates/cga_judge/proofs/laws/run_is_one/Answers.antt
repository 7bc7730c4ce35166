use Rattle.std.proofs.Common.{sym, ◌∙◌}
use Rattle.cga_judge.proofs.Runs.{one}
use Rattle.cga_judge.proofs.laws.run_is_one.Goals as goal

pub returns : goal.returns
returns c = λ sources steps other (n, quiet_n, is_n) (m, quiet_m, is_m). is_n ∙ (one sources n m quiet_n quiet_m ∙ sym is_m)
