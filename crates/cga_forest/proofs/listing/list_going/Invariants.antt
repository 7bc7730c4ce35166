use Rattle.std.proofs.Common.{◌≡◌, ◌++◌}
use Rattle.cga_forest.specs.View.{at, kids}
use Rattle.cga_forest.specs.Tree.{stay_of}
use Rattle.cga_forest.specs.Gathered.{found, going}
use Rattle.cga_forest.proofs.listing.list_going.Given as goal

abbrev pub invariant-loop-place : goal.invariant-loop-place
invariant-loop-place l = l.list.items ≡ l.fn.list.items ++ found (λ c. at l.store c) (going (λ d. kids (at l.store d)) l.left (λ k w. stay_of (at l.store k) w) (kids (at l.store l.id)) l.news l.place)
