use Rattle.std.proofs.Common.{◌≡◌}
use Rattle.cga_update.specs.Queue.{chains_of}
use Rattle.cga_queue.proofs.Door.{FirstHave}
use Rattle.cga_update.proofs.Bounding.{EntryUpTo}
use Rattle.cga_update.proofs.asking.last_of_all.Given as goal

abbrev pub invariant-loop-place : goal.invariant-loop-place
invariant-loop-place l = record {
  before : l.before ≡ l.fn.before;
  after : l.after ≡ l.fn.after;
  all : FirstHave (EntryUpTo l.mode (chains_of l.nodes.forest.now) l.fn.before l.fn.after l.last) l.dependents.nodes l.place;
}
