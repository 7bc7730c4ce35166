use Rattle.std.proofs.Common.{refl, arith}
use Rattle.cga_city.specs.declared.limits.TheConstants.{BUDGET}
use Rattle.cga_top.proofs.Bills.{new_ready}
use Rattle.cga_top.proofs.session.new_session.Goals as goal

pub returns-clause-ready : goal.returns-clause-ready
returns-clause-ready c = new_ready _ BUDGET (omega arith) c.new-2.ensures c.new-3.ensures c.in_ok-history.ensures refl
