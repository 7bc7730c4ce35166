use Rattle.std.proofs.Common.{◌≡◌, ◌++◌, ◌∷◌, ◌-◌, take}
use Rattle.std.specs.List.{flat_map}
use Rattle.cga_forest.specs.View.{at, kids}
use Rattle.cga_forest.specs.Gathered.{below, found}
use Rattle.cga_forest.proofs.listing.+list_below.Given as goal

abbrev pub decreases-list_below : goal.decreases-list_below
decreases-list_below l = l.left

abbrev pub invariant-loop-place : goal.invariant-loop-place
invariant-loop-place l = l.list.items ≡ l.fn.list.items ++ found (λ c. at l.store c) (l.id ∷ flat_map (below (λ d. kids (at l.store d)) (l.left - 1)) (take l.place (kids (at l.store l.id))))
