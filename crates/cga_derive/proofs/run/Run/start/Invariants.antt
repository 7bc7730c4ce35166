use Rattle.std.proofs.Common.{◌≡◌}
use Rattle.cga_derive.specs.Streaks.{IsBoxed}
use Rattle.cga_derive.specs.Run.{HasKeys}
use Rattle.cga_derive.proofs.Starting.{roots_up, root_sites_up}
use Rattle.cga_derive.proofs.run.Run.start.Given as goal

abbrev pub invariant-loop-lot : goal.invariant-loop-lot
invariant-loop-lot l = record {
  list : l.list.items ≡ roots_up l.sources.lots l.lot-index;
  keys : HasKeys l.sources (root_sites_up l.sources.lots l.lot-index) l.waiting.entries;
  symbols : l.symbols ≡ l.sources.grammar;
  boxed : IsBoxed l.list.items l.streaks.items;
}
