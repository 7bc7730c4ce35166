use Rattle.std.proofs.Common.{refl, sym, ◌∙◌, ap, subst}
use Rattle.std.specs.Prelude.{Option}
use Rattle.cga_marked.specs.Marked.{KeepsBooks}
use Rattle.cga_marked.specs.Slab.{SlabView, at, slot, OnlyTouched, Relates}
use Rattle.cga_marked.proofs.Books.{some_same, written}
use Rattle.cga_marked.proofs.Room.{room_kept}
use Rattle.cga_marked.proofs.Slots.{relates_some, when_touched}
use Rattle.cga_marked.proofs.marked_slab.MarkedSlab.change.Goals as goal

pub change-requires : goal.change-requires
change-requires g c = record { touched = λ on. subst (λ (s : Option g.row.E.Denot). OnlyTouched g.E.Marked.touched s) (sym (ap (λ (v : SlabView g.row.E.Denot). at v c.args.id) c.self.view_is ∙ c.touch_for.ensures.here)) (when_touched g.E.Marked.touched g.E.Marked.touching g.met.E.Marked.marks.touches c.args.marking (at c.args.self.now c.args.id) on) }

pub invariant_of-self : goal.invariant_of-self
invariant_of-self g c = written c.self.invariant c.change.new.self.slots c.args.id c.change.ensures.others c.change.ensures.books

pub returns-clause-here : goal.returns-clause-here
returns-clause-here g c = subst (λ (s : Option g.row.E.Denot). Relates (g.C.Change.changes c.args.marking c.args.change) s (slot c.change.new.self.slots c.args.id)) (ap (λ (v : SlabView g.row.E.Denot). at v c.args.id) c.self.view_is ∙ c.touch_for.ensures.here) c.change.ensures.here

pub returns-clause-room : goal.returns-clause-room
returns-clause-room g c more h = room_kept _ _ _ _ c.self.view_is _ _ _ (some_same c.self.invariant c.change.new.self.slots c.args.id c.change.ensures.others (relates_some (KeepsBooks g.E.Marked.touched g.E.Marked.aside g.E.Marked.plain) _ _ c.change.ensures.books)) c.change.ensures.capacity refl more (c.touch_for.ensures.room more h)
