use Rattle.std.proofs.Common.{◌≡◌, ◌++◌, length}
use Rattle.cga_shape.specs.declared.sources.Sources.{Sources}
use Rattle.cga_expand.specs.Children.{placed_from}
use Rattle.cga_derive.specs.Streaks.{IsBoxed}
use Rattle.cga_derive.specs.Run.{KeepsKeys, sited_children}
use Rattle.cga_derive.proofs.run.Run.place_all.Given as goal

abbrev pub invariant-loop-child : goal.invariant-loop-child
invariant-loop-child l = record {
  index : l.index ≡ length l.yielded;
  list : l.self.list.items ≡ l.fn.self.list.items ++ placed_from l.parent.lot l.parent.path l.own 0 l.yielded;
  keys : (sources : Sources) → l.fn.self.symbols ≡ sources.grammar → KeepsKeys sources l.parent (sited_children l.parent l.own 0 l.yielded) l.fn.self.list.items l.fn.self.waiting.entries l.self.waiting.entries;
  symbols : l.self.symbols ≡ l.fn.self.symbols;
  boxed : IsBoxed l.self.list.items l.self.streaks.items;
}
