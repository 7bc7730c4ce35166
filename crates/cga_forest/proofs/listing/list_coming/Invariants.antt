use Rattle.std.proofs.Common.{◌≡◌, ◌++◌, ◌+◌, ◌≤◌, length}
use Rattle.cga_forest.specs.View.{at, kids}
use Rattle.cga_forest.specs.Gathered.{coming, found}
use Rattle.cga_forest.proofs.listing.list_coming.Given as goal

abbrev pub invariant-loop-place : goal.invariant-loop-place
invariant-loop-place l = record {
  items : l.list.items ≡ l.fn.list.items ++ found (λ c. at l.store c) (coming (kids (at l.store l.id)) l.children l.place);
  room : length l.list.items + length l.children ≤ l.list.cap + l.place;
}
