use Rattle.std.proofs.Common.{◌∙◌, ◌+◌, ◌++◌, ◌*◌, ap, arith, sym}
use Rattle.std.specs.List.{flat_map}
use Rattle.cga_index.specs.Tree.{askers, below}
use Rattle.cga_index.proofs.Askers.{list_step}
use Rattle.cga_index.proofs.Blocks.{at_end, run_listed}
use Rattle.cga_index.proofs.listing.list_block.Goals as goal

pub returns-then-not-block_asks : goal.returns-then-not-block_asks
returns-then-not-block_asks g c =
    run_listed (g.H.HullTree.view c.args.tree.now) c.requires.laws c.args.area.now (16 * c.args.block) 16 (16 * (c.args.block + 1)) c.args.out.now.items (omega arith) (c.block_asks.ensures c.if-not-block_asks.true)

pub loop-place-preserved : goal.loop-place-preserved
loop-place-preserved g c =
    let v = g.H.HullTree.view c.args.tree.now in
    list_step v c.args.area.now 257 v.roots c.loop-place.place c.root_of-root.result c.loop-place.out.items c.list_from.new.out.items _ c.root_of-root.ensures.at c.in_ok-list_from.ensures c.loop-place.invariant

pub returns : goal.returns
returns g c =
    let v = g.H.HullTree.view c.args.tree.now in
    let b = c.block_end-place-end.ensures in
    let begun = b.begun in
    let past = c.loop-place-test.false in
    let up = c.loop-place.auto.place-end in
    let same = at_end v.roots c.args.block (16 * c.args.block) c.block_end-place-end.result c.loop-place.place c.roots-roots.result c.roots-roots.ensures (omega arith) b.most b.within b.whole (omega (arith, begun, past, up begun)) in
    ap (λ t. c.loop-place.out.items ++ askers v c.args.area.now (flat_map (below v 257) t)) (sym same) ∙ c.loop-place.invariant
