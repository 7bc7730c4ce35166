use Rattle.std.proofs.Common.{◌≡◌, ◌+◌, length}
use Rattle.cga_marked.specs.Map.{AreUndoable, undone}
use Rattle.cga_marked.proofs.marked_map.take_back_all.Given as goal

abbrev pub invariant-loop : goal.invariant-loop
invariant-loop l = record {
  shelf : undone l.steps.items (record { entries = l.map.entries; shown = l.shown }) ≡ undone l.fn.steps.items (record { entries = l.fn.map.entries; shown = l.fn.shown });
  ready : AreUndoable l.steps.items (record { entries = l.map.entries; shown = l.shown });
  left : l.counter + length l.steps.items ≡ length l.fn.steps.items;
  cap : l.steps.cap ≡ l.fn.steps.cap;
}
