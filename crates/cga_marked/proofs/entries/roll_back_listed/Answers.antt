use Rattle.std.proofs.Common.{refl, ◌∙◌}
use Rattle.cga_marked.proofs.Sweep.{get_at, swept_start, swept_next, swept_end}
use Rattle.cga_marked.proofs.entries.roll_back_listed.Goals as goal

pub loop-id-init : goal.loop-id-init
loop-id-init g c =
    let m = g.met.E.Marked.marks in
    record { swept = swept_start g.E.Marked.touched g.E.Marked.plain g.E.Marked.rolled m.rolled_calm m.rolls c.args.entries.now.slots c.args.entries.now.slots c.args.list.now; capacity = refl }

pub loop-id-preserved : goal.loop-id-preserved
loop-id-preserved g c =
    let m = g.met.E.Marked.marks in
    record {
      swept = swept_next g.E.Marked.touched g.E.Marked.plain g.E.Marked.rolled m.rolled_calm m.rolls c.args.entries.now.slots c.loop-id.entries.slots c.args.list.now c.roll_back.new.self.slots c.loop-id.id-index _ (get_at c.args.list.now c.loop-id.id-index c.loop-id-test.true) c.loop-id.invariant.swept c.roll_back.ensures.here c.roll_back.ensures.others;
      capacity = c.roll_back.ensures.capacity ∙ c.loop-id.invariant.capacity;
    }

pub returns-clause-each : goal.returns-clause-each
returns-clause-each g c =
    let m = g.met.E.Marked.marks in
    swept_end g.E.Marked.touched g.E.Marked.plain g.E.Marked.rolled m.rolled_calm m.rolls c.args.entries.now.slots c.loop-id.entries.slots c.args.list.now c.requires.listed c.loop-id.id-index c.loop-id-test.false c.loop-id.invariant.swept
