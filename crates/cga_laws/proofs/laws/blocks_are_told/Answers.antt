use Rattle.cga_top.proofs.Door.{city_told, rules_told}
use Rattle.cga_laws.proofs.laws.blocks_are_told.Goals as goal

pub returns-clause-rules : goal.returns-clause-rules
returns-clause-rules c = rules_told

pub returns-clause-city : goal.returns-clause-city
returns-clause-city c = city_told
