use Rattle.std.proofs.Common.{◌∙◌, arith}
use Rattle.cga_city.specs.declared.limits.TheConstants.{BUDGET_TWO}
use Rattle.cga_top.proofs.Bills.{new_ready}
use Rattle.cga_top.proofs.Steps.{on_ok}
use Rattle.cga_top.proofs.turns.begin_second.Goals as goal

pub returns-clause-ready : goal.returns-clause-ready
returns-clause-ready c = on_ok c.accepted.result _ (new_ready _ BUDGET_TWO (omega arith) (c.put-2.ensures ∙ c.new-2.ensures) (c.put-3.ensures ∙ c.new-3.ensures) (c.put.ensures ∙ c.in_ok-new.ensures) c.put-5.ensures)
