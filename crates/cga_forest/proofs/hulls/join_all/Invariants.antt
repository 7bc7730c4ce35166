use Rattle.std.proofs.Common.{◌≡◌}
use Rattle.cga_kept_hulls.specs.Hull.{over}
use Rattle.cga_forest.specs.View.{at, hulls_of}
use Rattle.cga_forest.proofs.hulls.join_all.Given as goal

abbrev pub invariant-loop-place : goal.invariant-loop-place
invariant-loop-place l = l.hulls ≡ over (λ c. hulls_of (at l.store c)) l.fn.hulls l.ids l.place
