use Rattle.std.proofs.Common.{subst}
use Rattle.cga_script.specs.CityLines.{CityKept}
use Rattle.cga_top.proofs.Closing.{city_closed, city_faulty, city_printed}
use Rattle.cga_top.proofs.open_block.city_edit.Goals as goal

pub returns-in-Ok-clause-told : goal.returns-in-Ok-clause-told
returns-in-Ok-clause-told c = λ lines read. city_closed c.one_too_many_is_refused_as_all.ensures.city lines c.in-Ok.sources
    (subst (CityKept lines) c.in-Ok.is (c.in_ok-sources.ensures lines read))

pub returns-in-Err-clause-told : goal.returns-in-Err-clause-told
returns-in-Err-clause-told c = λ lines read. city_faulty lines c.in-Err.fault
    (subst (CityKept lines) c.in-Err.is (c.in_ok-sources.ensures lines read))

pub returns-in-Ok-clause-written : goal.returns-in-Ok-clause-written
returns-in-Ok-clause-written c = city_printed c.requires.0 c.in-Ok.sources
    (subst (CityKept c.requires.0) c.in-Ok.is (c.in_ok-sources.ensures c.requires.0 c.requires.1))
