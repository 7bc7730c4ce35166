use Rattle.cga_forest.specs.Blocks.{AreCovered}
use Rattle.cga_forest.specs.View.{at, hulls_of}
use Rattle.cga_forest.proofs.covering.renew_loose.Given as goal

abbrev pub invariant-loop-block : goal.invariant-loop-block
invariant-loop-block l = AreCovered l.blocks l.roots.list (λ c. hulls_of (at l.store c))
