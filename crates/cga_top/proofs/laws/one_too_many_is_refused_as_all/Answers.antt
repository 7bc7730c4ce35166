use Rattle.cga_top.proofs.TooMany.{fault_is_same, rules_give_same, city_gives_same}
use Rattle.cga_top.proofs.laws.one_too_many_is_refused_as_all.Goals as goal

pub returns-clause-fault : goal.returns-clause-fault
returns-clause-fault c = fault_is_same c.too_many_are_cut.ensures.few

pub returns-clause-rules : goal.returns-clause-rules
returns-clause-rules c = rules_give_same c.too_many_are_cut.ensures.few

pub returns-clause-city : goal.returns-clause-city
returns-clause-city c = city_gives_same c.too_many_are_cut.ensures.few
