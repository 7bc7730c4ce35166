use Rattle.cga_check.proofs.Reading.{still_read}
use Rattle.cga_check.proofs.symbols.Symbols.read.Goals as goal

pub invariant_of-self-2 : goal.invariant_of-self-2
invariant_of-self-2 c = record { table = still_read c.self.inside.grammar.now c.self.inside.read c.insert.new.self c.args.symbol c.said_of-found.result c.said_of-found.ensures c.self.invariant.table c.in_ok-insert.ensures.updates; latest = c.self.invariant.latest }
