use Rattle.std.proofs.Common.{◌≡◌}
use Rattle.cga_depend.specs.Changed.{KeepsNoted}
use Rattle.cga_depend.proofs.Noted.{FirstNoted}
use Rattle.cga_depend.proofs.changed.Grammars.note_all.Given as goal

abbrev pub invariant-loop-entry : goal.invariant-loop-entry
invariant-loop-entry l = record {
  noted : FirstNoted l.fn.self.before l.fn.self.after l.entries l.entry-index l.list.items;
  kept : KeepsNoted l.fn.self.before l.fn.self.after l.fn.list.items l.list.items;
  grammars : l.self ≡ l.fn.self;
}
