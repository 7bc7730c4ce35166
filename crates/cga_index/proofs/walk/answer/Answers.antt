use Rattle.std.proofs.Common.{◌∙◌, ◌*◌, arith}
use Rattle.cga_index.specs.Tree.{answer_over, all_nodes}
use Rattle.cga_index.proofs.Levels.{end_found, reads_within}
use Rattle.cga_index.proofs.walk.answer.Goals as goal

pub loop-group-preserved : goal.loop-group-preserved
loop-group-preserved g c =
    let inv = c.loop-group.invariant in
    let more = inv.1 in
    let counted = c.visit_group-found.ensures.counted in
    (inv.0 ∙ c.visit_group-found.ensures.found, omega (arith, more, counted))

pub returns-clause-found : goal.returns-clause-found
unfolding answer_over all_nodes
returns-clause-found g c =
    let v = g.H.HullTree.view c.args.tree.now in
    end_found v c.args.node c.args.target 257 v.roots (256 * c.loop-group.group) c.loop-group.found _ (omega (arith, c.loop-group-test.false, c.roots.ensures)) c.loop-group.invariant.0

pub returns-clause-counted : goal.returns-clause-counted
returns-clause-counted g c =
    let v = g.H.HullTree.view c.args.tree.now in
    reads_within v c.requires.laws c.args.node _ _ (256 * c.loop-group.group) c.requires.node (omega (arith, c.loop-group-test.false, c.roots.ensures)) c.loop-group.invariant.1
