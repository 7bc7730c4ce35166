use Rattle.cga_script.proofs.CitySpelled.{city_spelled}
use Rattle.cga_script.proofs.DumpBack.{dump_back}
use Rattle.cga_script.proofs.laws.dump_reads_back.Goals as goal

pub returns-clause-spelled : goal.returns-clause-spelled
returns-clause-spelled c = city_spelled

pub returns-clause-back : goal.returns-clause-back
returns-clause-back c = dump_back
