use Rattle.std.proofs.Common.{◌≤◌, refl, arith, ap, sym, ◌∙◌}
use Rattle.std.specs.Prelude.{is_some}
use Rattle.cga_marked.specs.Count.{tally}
use Rattle.cga_marked.specs.Slab.{passes}
use Rattle.cga_marked.proofs.Books.{listed_books, joined_books}
use Rattle.cga_marked.proofs.Room.{len_tally, room_from, room_less, few_passing, one_more}
use Rattle.cga_marked.proofs.marked_slab.MarkedSlab.add.Goals as goal

pub insert_reserved-id-requires : goal.insert_reserved-id-requires
insert_reserved-id-requires g c = let r = room_from _ _ _ _ c.self.view_is 1 c.requires.room in let a = r.0 in let b = len_tally c.self.inside.entries in omega arith

pub push_reserved-requires : goal.push_reserved-requires
push_reserved-requires g c = let r = room_from _ _ _ _ c.self.view_is 1 c.requires.room in let a = r.1 in let f = few_passing g.E.Marked.touched c.self.inside.entries.slots in let k = c.self.invariant.counted in omega arith

pub invariant_of-self : goal.invariant_of-self
invariant_of-self g c =
    let r = room_from _ _ _ _ c.self.view_is 1 c.requires.room in let a = r.1 in
    let n = one_more c.self.inside.entries.slots c.insert_reserved-id.new.self.slots c.insert_reserved-id.result c.args.entry c.insert_reserved-id.ensures.was_vacant c.insert_reserved-id.ensures.updates.changed c.insert_reserved-id.ensures.updates.others in
    let fits : tally is_some c.insert_reserved-id.new.self.slots ≤ c.self.inside.touched.cap = omega arith in
    rw (c.push_reserved.ensures.items, c.push_reserved.ensures.capacity) (listed_books c.self.invariant c.insert_reserved-id.new.self.slots c.insert_reserved-id.result c.insert_reserved-id.ensures.updates.others c.args.entry c.insert_reserved-id.ensures.updates.changed
    (c.requires.touched ∙ c.if-marking.true) (ap (passes g.E.Marked.touched) c.insert_reserved-id.ensures.was_vacant) (ap (passes g.E.Marked.aside) c.insert_reserved-id.ensures.was_vacant ∙ sym c.requires.shown) fits)

pub invariant_of-self-else-marking : goal.invariant_of-self-else-marking
invariant_of-self-else-marking g c =
    let r = room_from _ _ _ _ c.self.view_is 1 c.requires.room in let a = r.1 in
    let n = one_more c.self.inside.entries.slots c.insert_reserved-id.new.self.slots c.insert_reserved-id.result c.args.entry c.insert_reserved-id.ensures.was_vacant c.insert_reserved-id.ensures.updates.changed c.insert_reserved-id.ensures.updates.others in
    let fits : tally is_some c.insert_reserved-id.new.self.slots ≤ c.self.inside.touched.cap = omega arith in
    joined_books c.self.invariant c.insert_reserved-id.new.self.slots c.insert_reserved-id.result c.insert_reserved-id.ensures.updates.others c.args.entry c.insert_reserved-id.ensures.updates.changed
    fits (c.requires.touched ∙ c.if-marking.false) (c.requires.plain c.if-marking.false) (ap (passes g.E.Marked.touched) c.insert_reserved-id.ensures.was_vacant) (ap (passes g.E.Marked.aside) c.insert_reserved-id.ensures.was_vacant ∙ sym c.requires.shown)

pub returns-then-marking-clause-room : goal.returns-then-marking-clause-room
returns-then-marking-clause-room g c = room_less _ _ _ _ c.self.view_is _ _ _ (one_more c.self.inside.entries.slots c.insert_reserved-id.new.self.slots c.insert_reserved-id.result c.args.entry c.insert_reserved-id.ensures.was_vacant c.insert_reserved-id.ensures.updates.changed c.insert_reserved-id.ensures.updates.others) c.insert_reserved-id.ensures.capacity c.push_reserved.ensures.capacity

pub returns-else-marking-clause-room : goal.returns-else-marking-clause-room
returns-else-marking-clause-room g c = room_less _ _ _ _ c.self.view_is _ _ _ (one_more c.self.inside.entries.slots c.insert_reserved-id.new.self.slots c.insert_reserved-id.result c.args.entry c.insert_reserved-id.ensures.was_vacant c.insert_reserved-id.ensures.updates.changed c.insert_reserved-id.ensures.updates.others) c.insert_reserved-id.ensures.capacity refl
