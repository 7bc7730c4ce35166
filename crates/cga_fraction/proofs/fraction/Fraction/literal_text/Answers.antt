use Rattle.std.proofs.Common.{rules}
use Rattle.cga_fraction.proofs.Literals.{written_shortest}
use Rattle.cga_fraction.proofs.fraction.Fraction.literal_text.Goals as goal

pub returns-clause-shortest : goal.returns-clause-shortest
returns-clause-shortest c = written_shortest c.args.self _ (search rules) c.requires
