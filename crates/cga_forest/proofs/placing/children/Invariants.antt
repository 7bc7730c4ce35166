use Rattle.std.proofs.Common.{◌≡◌, ◌++◌, drop}
use Rattle.cga_forest.specs.Placing.{children_from}
use Rattle.cga_forest.proofs.placing.children.Given as goal

abbrev pub invariant-loop-index : goal.invariant-loop-index
invariant-loop-index l = record {
  made : l.made.items ++ children_from l.fn.symbols l.parent l.index (drop l.index l.emitted) ≡ children_from l.fn.symbols l.parent 0 l.emitted;
  symbols : l.symbols ≡ l.fn.symbols;
}
