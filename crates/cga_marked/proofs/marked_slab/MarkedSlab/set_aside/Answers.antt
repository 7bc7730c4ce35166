use Rattle.std.proofs.Common.{refl, sym, ◌∙◌, ap, arith, subst}
use Rattle.std.specs.Prelude.{Option}
use Rattle.cga_marked.specs.Slab.{SlabView, at, OnlyTouched}
use Rattle.cga_marked.proofs.Books.{hide_fits, hide_books, hide_still, hide_room}
use Rattle.cga_marked.proofs.Room.{room_kept}
use Rattle.cga_marked.proofs.Slots.{map_touched}
use Rattle.cga_marked.proofs.marked_slab.MarkedSlab.set_aside.Goals as goal

pub overflow_add-self : goal.overflow_add-self
overflow_add-self g c =
    let m = g.met.E.Marked.marks in
    let on = subst (λ (s : Option g.row.E.Denot). OnlyTouched g.E.Marked.touched s) (sym (ap (λ (v : SlabView g.row.E.Denot). at v c.args.id) c.self.view_is ∙ c.touch.ensures.here)) (map_touched g.E.Marked.touched g.E.Marked.touching m.touches (at c.args.self.now c.args.id)) in
    let f = hide_fits c.self.invariant c.hide.new.self.slots c.args.id c.hide.ensures.others m c.hide.ensures.here on (sym c.hide.ensures.fresh ∙ c.if-hide.true) in
    let s = c.self.inside.touched.small in omega arith

pub invariant_of-self : goal.invariant_of-self
invariant_of-self g c =
    let m = g.met.E.Marked.marks in
    let on = subst (λ (s : Option g.row.E.Denot). OnlyTouched g.E.Marked.touched s) (sym (ap (λ (v : SlabView g.row.E.Denot). at v c.args.id) c.self.view_is ∙ c.touch.ensures.here)) (map_touched g.E.Marked.touched g.E.Marked.touching m.touches (at c.args.self.now c.args.id)) in
    hide_books c.self.invariant c.hide.new.self.slots c.args.id c.hide.ensures.others m c.hide.ensures.here on (sym c.hide.ensures.fresh ∙ c.if-hide.true)

pub invariant_of-self-else-hide : goal.invariant_of-self-else-hide
invariant_of-self-else-hide g c = hide_still c.self.invariant c.hide.new.self.slots c.args.id c.hide.ensures.others g.met.E.Marked.marks c.hide.ensures.here (sym c.hide.ensures.fresh ∙ c.if-hide.false)

pub returns-then-hide-clause-room : goal.returns-then-hide-clause-room
returns-then-hide-clause-room g c more h = room_kept _ _ _ _ c.self.view_is _ _ _ (hide_room c.self.invariant c.hide.new.self.slots c.args.id c.hide.ensures.others g.met.E.Marked.marks c.hide.ensures.here) c.hide.ensures.capacity refl more (c.touch.ensures.room more h)

pub returns-else-hide-clause-room : goal.returns-else-hide-clause-room
returns-else-hide-clause-room g c more h = room_kept _ _ _ _ c.self.view_is _ _ _ (hide_room c.self.invariant c.hide.new.self.slots c.args.id c.hide.ensures.others g.met.E.Marked.marks c.hide.ensures.here) c.hide.ensures.capacity refl more (c.touch.ensures.room more h)
