use Rattle.cga_script.proofs.Printable.{put_prints, city_prints}
use Rattle.cga_script.proofs.laws.may_be_printed.Goals as goal

pub returns-clause-put : goal.returns-clause-put
returns-clause-put c = put_prints

pub returns-clause-city : goal.returns-clause-city
returns-clause-city c = city_prints
