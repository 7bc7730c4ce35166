use Rattle.std.proofs.Common.{refl, sym, ◌∙◌, arith}
use Rattle.cga_marked.proofs.Books.{touch_fits, touch_books, touch_still, touch_room}
use Rattle.cga_marked.proofs.Room.{room_kept}
use Rattle.cga_marked.proofs.marked_slab.MarkedSlab.touch.Goals as goal

pub push_reserved-requires : goal.push_reserved-requires
push_reserved-requires g c = let f = touch_fits c.self.invariant c.touch.new.self.slots c.args.id c.touch.ensures.others g.met.E.Marked.marks c.touch.ensures.here (sym c.touch.ensures.fresh ∙ c.if-touch.true) in omega arith

pub invariant_of-self : goal.invariant_of-self
invariant_of-self g c = rw (c.push_reserved.ensures.items, c.push_reserved.ensures.capacity) (touch_books c.self.invariant c.touch.new.self.slots c.args.id c.touch.ensures.others g.met.E.Marked.marks c.touch.ensures.here (sym c.touch.ensures.fresh ∙ c.if-touch.true))

pub invariant_of-self-else-touch : goal.invariant_of-self-else-touch
invariant_of-self-else-touch g c = touch_still c.self.invariant c.touch.new.self.slots c.args.id c.touch.ensures.others g.met.E.Marked.marks c.touch.ensures.here (sym c.touch.ensures.fresh ∙ c.if-touch.false)

pub returns-then-touch-clause-room : goal.returns-then-touch-clause-room
returns-then-touch-clause-room g c = room_kept _ _ _ _ c.self.view_is _ _ _ (touch_room c.self.invariant c.touch.new.self.slots c.args.id c.touch.ensures.others g.met.E.Marked.marks c.touch.ensures.here) c.touch.ensures.capacity c.push_reserved.ensures.capacity

pub returns-else-touch-clause-room : goal.returns-else-touch-clause-room
returns-else-touch-clause-room g c = room_kept _ _ _ _ c.self.view_is _ _ _ (touch_room c.self.invariant c.touch.new.self.slots c.args.id c.touch.ensures.others g.met.E.Marked.marks c.touch.ensures.here) c.touch.ensures.capacity refl
