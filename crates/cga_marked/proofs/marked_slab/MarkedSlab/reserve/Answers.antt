use Rattle.std.proofs.Common.{ap, arith, ◌≡◌}
use Rattle.std.specs.Prelude.{is_some}
use Rattle.slab.specs.Slab.{Slab, slab_len}
use Rattle.cga_marked.specs.Count.{tally}
use Rattle.cga_marked.proofs.Room.{few_passing, len_tally}
use Rattle.cga_marked.proofs.marked_slab.MarkedSlab.reserve.Goals as goal

pub overflow_sub-wanted : goal.overflow_sub-wanted
overflow_sub-wanted g c =
    let a = few_passing g.E.Marked.touched c.self.inside.entries.slots in let b = len_tally c.self.inside.entries in
    let d = c.self.invariant.counted in let e = c.in_ok-reserve.ensures.room in
    let f : slab_len c.reserve.new.self ≡ slab_len c.self.inside.entries = ap (λ (s : Slab g.row.E.Denot). slab_len s) c.in_ok-reserve.ensures.rest_kept in omega arith

pub returns-clause-room : goal.returns-clause-room
returns-clause-room g c =
    let a = few_passing g.E.Marked.touched c.self.inside.entries.slots in let b = len_tally c.reserve.new.self in
    let d = c.self.invariant.counted in let e = c.in_ok-reserve.ensures.room in
    let k = c.in_ok-reserve-2.ensures.ok in
    let f : tally is_some c.reserve.new.self.slots ≡ tally is_some c.self.inside.entries.slots = ap (λ (s : Slab g.row.E.Denot). tally is_some s.slots) c.in_ok-reserve.ensures.rest_kept in record { entries = omega arith; listed = omega arith }
