use Rattle.std.proofs.Common.{ap, arith, ◌≡◌}
use Rattle.std.specs.Prelude.{not}
use Rattle.cga_marked.specs.Count.{tally}
use Rattle.cga_marked.specs.Slab.{SlabView, passes}
use Rattle.cga_marked.proofs.Room.{split_shown, len_tally}
use Rattle.cga_marked.proofs.marked_slab.MarkedSlab.shown.Goals as goal

pub overflow_sub-result : goal.overflow_sub-result
overflow_sub-result g c = let a = split_shown g.E.Marked.aside c.self.inside.entries.slots in let b = len_tally c.self.inside.entries in let d = c.self.invariant.asides in let e = c.len.ensures in omega arith

pub returns : goal.returns
returns g c = let a = split_shown g.E.Marked.aside c.self.inside.entries.slots in let b = len_tally c.self.inside.entries in let d = c.self.invariant.asides in let e = c.len.ensures in
    let f : tally (passes (λ e. not (g.E.Marked.aside e))) c.self.inside.entries.slots ≡ tally (passes (λ e. not (g.E.Marked.aside e))) c.args.self.now.slots = ap (λ (v : SlabView g.row.E.Denot). tally (passes (λ e. not (g.E.Marked.aside e))) v.slots) c.self.view_is in omega arith
