use Rattle.std.proofs.Common.{ap}
use Rattle.cga_queue.specs.Agenda.{AgendaView}
use Rattle.cga_update.proofs.begin.begun.Goals as goal

pub begin-requires-clause-fresh : goal.begin-requires-clause-fresh
begin-requires-clause-fresh g c = record {
  mode = ap (λ (x : AgendaView). x.mode) c.new.ensures;
  remembered = c.new-2.ensures;
  symbols = c.new-3.ensures;
  grammars = c.new-4.ensures;
  log = c.new-5.ensures.items;
  gone = c.new-6.ensures.items;
  come = c.new-7.ensures.items;
  rules = c.new-8.ensures;
}
