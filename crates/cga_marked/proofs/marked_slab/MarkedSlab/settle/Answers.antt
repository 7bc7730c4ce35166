use Rattle.std.proofs.Common.{sym, ◌∙◌, ap, subst, ℕ, List}
use Rattle.std.specs.Prelude.{is_some}
use Rattle.cga_marked.specs.Slab.{slot, Listed}
use Rattle.cga_marked.proofs.Books.{is_listed, swept}
use Rattle.cga_marked.proofs.Sweep.{calm_after, some_after}
use Rattle.cga_marked.proofs.marked_slab.MarkedSlab.settle.Goals as goal

pub settle_listed-requires : goal.settle_listed-requires
settle_listed-requires g c = record { listed = subst (λ (xs : List ℕ). Listed g.E.Marked.touched g.E.Marked.plain c.self.inside.entries.slots xs) (sym c.as_slice.ensures.value) (is_listed c.self.invariant c.self.inside.entries.slots) }

pub invariant_of-self : goal.invariant_of-self
invariant_of-self g c =
    let m = g.met.E.Marked.marks in
    let now = λ (id : ℕ). c.give_back.ensures id ∙ c.settle_listed.ensures.each id in
    rw (c.clear.ensures.items, c.clear.ensures.capacity) (swept c.self.invariant c.give_back.new.entries.slots
    (λ id e t. calm_after g.E.Marked.touched g.E.Marked.plain g.E.Marked.settled m.settled_calm m.settles (slot c.self.inside.entries.slots id) e (sym (now id) ∙ t))
    m.shown
    (λ id h. some_after g.E.Marked.touched g.E.Marked.plain g.E.Marked.settled m.settled_calm m.settles (slot c.self.inside.entries.slots id) (sym (ap is_some (now id)) ∙ h)))
