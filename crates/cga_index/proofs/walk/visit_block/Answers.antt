use Rattle.std.proofs.Common.{◌∙◌, ◌*◌, ◌+◌, ◌-◌, ap, arith, drop}
use Rattle.std.specs.List.{flat_map}
use Rattle.cga_index.specs.Occlusion.{join}
use Rattle.cga_index.specs.Tree.{answer_over, below, reads, total}
use Rattle.cga_index.proofs.Blocks.{at_end, run_counted, run_found}
use Rattle.cga_index.proofs.Levels.{full_joined, step_found, step_counted}
use Rattle.cga_index.proofs.walk.visit_block.Goals as goal

pub returns-then-not-block_touches-clause-found : goal.returns-then-not-block_touches-clause-found
returns-then-not-block_touches-clause-found g c =
    run_found (g.H.HullTree.view c.args.tree.now) c.requires.laws c.args.by c.args.target (16 * c.args.block) 16 (16 * (c.args.block + 1)) c.args.area.now c.args.before (omega arith) c.requires.area (c.block_touches.ensures c.if-not-block_touches.true)

pub returns-then-not-block_touches-clause-counted : goal.returns-then-not-block_touches-clause-counted
returns-then-not-block_touches-clause-counted g c =
    let v = g.H.HullTree.view c.args.tree.now in
    run_counted (reads v c.args.by 257) v.roots (16 * c.args.block) 16 (16 * (c.args.block + 1)) _ (omega arith)

pub loop-place-preserved : goal.loop-place-preserved
loop-place-preserved g c =
    let v = g.H.HullTree.view c.args.tree.now in
    let inv = c.loop-place.invariant in (
      step_found v c.args.by c.args.target 257 v.roots c.loop-place.place c.root_of-root.result c.loop-place.found c.visit-found.result _ c.root_of-root.ensures.at c.visit-found.ensures.found inv.0,
      step_counted (reads v c.args.by 257) v.roots c.loop-place.place c.root_of-root.result c.loop-place.tests _ _ c.root_of-root.ensures.at c.visit-found.ensures.counted inv.1,
    )

pub returns-clause-found : goal.returns-clause-found
returns-clause-found g c =
    let v = g.H.HullTree.view c.args.tree.now in
    let b = c.block_end-place-end.ensures in
    let begun = b.begun in
    let past = c.loop-place-test.false in
    let up = c.loop-place.auto.place-end in
    let same = at_end v.roots c.args.block (16 * c.args.block) c.block_end-place-end.result c.loop-place.place c.roots-roots.result c.roots-roots.ensures (omega arith) b.most b.within b.whole (omega (arith, begun, past, up begun)) in
    c.loop-place.invariant.0 ∙ ap (λ t. join c.loop-place.found (answer_over v c.args.by c.args.target (flat_map (below v 257) t))) same

pub returns-clause-counted : goal.returns-clause-counted
returns-clause-counted g c =
    let v = g.H.HullTree.view c.args.tree.now in
    let b = c.block_end-place-end.ensures in
    let begun = b.begun in
    let past = c.loop-place-test.false in
    let up = c.loop-place.auto.place-end in
    let same = at_end v.roots c.args.block (16 * c.args.block) c.block_end-place-end.result c.loop-place.place c.roots-roots.result c.roots-roots.ensures (omega arith) b.most b.within b.whole (omega (arith, begun, past, up begun)) in
    let s = ap (total (reads v c.args.by 257)) same in
    let i = c.loop-place.invariant.1 in omega (arith, s, i)

pub returns-then-is_full-clause-counted : goal.returns-then-is_full-clause-counted
returns-then-is_full-clause-counted g c =
    let v = g.H.HullTree.view c.args.tree.now in
    run_counted (reads v c.args.by 257) v.roots (16 * c.args.block) 16 (16 * (c.args.block + 1)) _ (omega arith)

pub returns-then-is_full-2-clause-found : goal.returns-then-is_full-2-clause-found
returns-then-is_full-2-clause-found g c =
    let v = g.H.HullTree.view c.args.tree.now in
    let inv = c.loop-place.invariant in
    step_found v c.args.by c.args.target 257 v.roots c.loop-place.place c.root_of-root.result
    c.loop-place.found c.visit-found.result _ c.root_of-root.ensures.at c.visit-found.ensures.found inv.0
    ∙ full_joined c.visit-found.result (answer_over v c.args.by c.args.target (flat_map (below v 257) (drop (c.loop-place.place + 1) v.roots)))
    (answer_over v c.args.by c.args.target (flat_map (below v 257) (drop (16 * (c.args.block + 1)) v.roots))) (c.is_full-in-loop-place.ensures.full c.if-is_full-2.true)

pub returns-then-is_full-2-clause-counted : goal.returns-then-is_full-2-clause-counted
returns-then-is_full-2-clause-counted g c =
    let v = g.H.HullTree.view c.args.tree.now in
    let inv = c.loop-place.invariant in
    let here = c.loop-place-test.true in
    let most = c.block_end-place-end.ensures.most in
    let left = 16 * (c.args.block + 1) - (c.loop-place.place + 1) in
    let more = run_counted (reads v c.args.by 257) v.roots (c.loop-place.place + 1) left (16 * (c.args.block + 1)) c.visit-found.new.tests
    (omega (arith, here, most)) in
    omega (
      arith,
      more,
      step_counted (reads v c.args.by 257) v.roots c.loop-place.place c.root_of-root.result c.loop-place.tests _ _
          c.root_of-root.ensures.at c.visit-found.ensures.counted inv.1,
    )
