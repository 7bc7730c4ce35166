use Rattle.std.proofs.Common.{◌*◌, ◌+◌, arith}
use Rattle.cga_index.specs.Tree.{reads}
use Rattle.cga_index.proofs.Blocks.{run_counted, run_found}
use Rattle.cga_index.proofs.walk.visit_group.Goals as goal

pub returns-then-not-group_touches-clause-found : goal.returns-then-not-group_touches-clause-found
returns-then-not-group_touches-clause-found g c =
    run_found (g.H.HullTree.view c.args.tree.now) c.requires.laws c.args.by c.args.target (256 * c.args.group) 256 (256 * (c.args.group + 1)) c.args.area.now c.args.before (omega arith) c.requires.area (c.group_touches.ensures c.if-not-group_touches.true)

pub returns-then-not-group_touches-clause-counted : goal.returns-then-not-group_touches-clause-counted
returns-then-not-group_touches-clause-counted g c =
    let v = g.H.HullTree.view c.args.tree.now in
    run_counted (reads v c.args.by 257) v.roots (256 * c.args.group) 256 (256 * (c.args.group + 1)) _ (omega arith)

pub returns-then-is_full-clause-counted : goal.returns-then-is_full-clause-counted
returns-then-is_full-clause-counted g c =
    let v = g.H.HullTree.view c.args.tree.now in
    run_counted (reads v c.args.by 257) v.roots (256 * c.args.group) 256 (256 * (c.args.group + 1)) _ (omega arith)
