use Rattle.std.proofs.Common.{inr, refl}
use Rattle.cga_queue.proofs.LinesTold.{opened, some_within}
use Rattle.cga_queue.proofs.lines.cmp_firsts.Goals as goal

pub returns-in-Some : goal.returns-in-Some
returns-in-Some c =
    let z = opened c.args.late.now.items c.in-Some.other.now (some_within c.args.late.now.items _ c.args.late.now.ok.0 (c.in-Some.ensures.variant.0 refl)) c.in-Some.ensures.lookup in
    inr (c.in-Some.other.now, z.0, z.1, c.cmp_first.ensures)
