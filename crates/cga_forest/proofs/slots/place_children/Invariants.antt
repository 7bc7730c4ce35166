use Rattle.std.proofs.Common.{◌≡◌, ◌+◌, ◌++◌, ◌≤◌, length}
use Rattle.std.specs.Vec.Iter.{into_iter_items, into_iter_len}
use Rattle.cga_forest.specs.View.{at, kids, HasRoom}
use Rattle.cga_forest.specs.Tree.{IsPlaced, depth_at}
use Rattle.cga_forest.proofs.slots.place_children.Given as goal

abbrev pub invariant-loop-new : goal.invariant-loop-new
invariant-loop-new l = record {
  placed : IsPlaced (λ c. at l.fn.store c) (λ c. at l.store c) l.id (depth_at (at l.fn.store l.id) + 1) l.marking (kids (at l.fn.store l.id)) l.fn.news.items l.made.items;
  front : l.yielded ++ into_iter_items l.new-iterator ≡ l.fn.news.items;
  size : into_iter_len l.new-iterator ≡ length (into_iter_items l.new-iterator);
  counted : length l.made.items ≡ length l.yielded;
  room : HasRoom l.store (length (into_iter_items l.new-iterator));
  space : length l.fn.news.items ≤ l.made.cap;
}
