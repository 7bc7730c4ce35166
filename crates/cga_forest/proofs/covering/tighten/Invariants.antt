use Rattle.cga_forest.specs.Blocks.{AreCovered}
use Rattle.cga_forest.specs.View.{at, hulls_of}
use Rattle.cga_forest.proofs.covering.tighten.Given as goal

abbrev pub invariant-loop-group : goal.invariant-loop-group
invariant-loop-group l = AreCovered l.blocks l.roots.list (λ c. hulls_of (at l.store c))
