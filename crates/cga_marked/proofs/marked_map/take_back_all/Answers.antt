use Rattle.std.proofs.Common.{◌∙◌, sym, arith}
use Rattle.cga_marked.proofs.Shelf.{no_steps, none_left}
use Rattle.cga_marked.proofs.marked_map.take_back_all.Goals as goal

pub returns-clause-shelf : goal.returns-clause-shelf
returns-clause-shelf c =
    let left = c.loop.invariant.left in
    let all = c.loop-test.false in
    let n = c.len-end.ensures in
    sym c.loop.invariant.shelf ∙ no_steps c.loop.steps.items _ (none_left c.loop.steps.items (omega (arith, left, all, n)))
