use Rattle.std.proofs.Common.{◌≡◌, ◌∙◌, ◌+◌, true, false, arith, sym, drop}
use Rattle.std.specs.List.{flat_map}
use Rattle.cga_index.specs.Occlusion.{join}
use Rattle.cga_index.specs.Tree.{answer_over, below, reads}
use Rattle.cga_index.proofs.Levels.{visit_found, visit_counted, visit_full, visit_fewer, full_stays, none_below, touched, step_found, step_counted, end_found, visit_leaf, visit_alone}
use Rattle.cga_index.proofs.Levels.{passed_by, held_back, none_full, unheld}
use Rattle.cga_index.proofs.walk.+visit.Goals as goal

pub visit-returns-clause-found : goal.visit-returns-clause-found
visit-returns-clause-found g t c =
    let low = c.requires.laws.shallow c.args.node c.requires.node in
    visit_found (g.H.HullTree.view c.args.tree.now) c.args.by c.args.target c.args.left c.args.node c.args.before _ _ (omega (arith, low, c.requires.left))
    c.look-first.ensures.found c.visit_children.ensures.found

pub visit-returns-clause-counted : goal.visit-returns-clause-counted
visit-returns-clause-counted g t c =
    let low = c.requires.laws.shallow c.args.node c.requires.node in
    visit_counted (g.H.HullTree.view c.args.tree.now) c.args.by c.args.left c.args.node _ _ _ (omega (arith, low, c.requires.left))
    (touched (g.H.HullTree.view c.args.tree.now) c.args.by c.args.node c.args.area.now c.touches.result _ c.requires.area c.touches.ensures c.if-not-touches.false) c.look-first.ensures.counted c.visit_children.ensures.counted

pub visit-returns-then-not-touches-clause-found : goal.visit-returns-then-not-touches-clause-found
visit-returns-then-not-touches-clause-found g t c =
    passed_by c.args.before _ (none_below (g.H.HullTree.view c.args.tree.now) c.requires.laws c.args.by c.args.target c.args.left c.args.node c.requires.node
    (touched (g.H.HullTree.view c.args.tree.now) c.args.by c.args.node c.args.area.now c.touches.result _ c.requires.area c.touches.ensures c.if-not-touches.true))

pub visit-returns-then-children-eq0-clause-found : goal.visit-returns-then-children-eq0-clause-found
visit-returns-then-children-eq0-clause-found g t c =
    let low = c.requires.laws.shallow c.args.node c.requires.node in
    visit_leaf (g.H.HullTree.view c.args.tree.now) c.args.by c.args.target c.args.left c.args.node c.args.before c.look.result
    (omega (arith, low, c.requires.left)) (omega (arith, c.children.ensures, c.if-children-eq0.true)) c.look.ensures.found

pub visit-returns-then-children-eq0-clause-counted : goal.visit-returns-then-children-eq0-clause-counted
visit-returns-then-children-eq0-clause-counted g t c =
    let low = c.requires.laws.shallow c.args.node c.requires.node in
    visit_alone (g.H.HullTree.view c.args.tree.now) c.args.by c.args.left c.args.node _ _ (omega (arith, low, c.requires.left)) c.look.ensures.counted

pub visit_children-loop-place-preserved : goal.visit_children-loop-place-preserved
visit_children-loop-place-preserved g t c =
    let v = g.H.HullTree.view c.args.tree.now in
    let inv = c.loop-place.invariant in (
      step_found v c.args.by c.args.target c.args.left (v.children c.args.node) c.loop-place.place c.child_of-child.result c.loop-place.found c.visit-found.result _ c.child_of-child.ensures.at c.visit-found.ensures.found inv.0,
      step_counted (reads v c.args.by c.args.left) (v.children c.args.node) c.loop-place.place c.child_of-child.result c.loop-place.tests _ _ c.child_of-child.ensures.at c.visit-found.ensures.counted inv.1,
    )

pub visit_children-returns-clause-found : goal.visit_children-returns-clause-found
visit_children-returns-clause-found g t c =
    let v = g.H.HullTree.view c.args.tree.now in
    end_found v c.args.by c.args.target c.args.left (v.children c.args.node) c.loop-place.place c.loop-place.found _ (omega (arith, c.loop-place-test.false, c.children-place-end.ensures)) c.loop-place.invariant.0

pub visit-returns-then-is_full-clause-found : goal.visit-returns-then-is_full-clause-found
visit-returns-then-is_full-clause-found g t c =
    let low = c.requires.laws.shallow c.args.node c.requires.node in
    visit_full (g.H.HullTree.view c.args.tree.now) c.args.by c.args.target c.args.left c.args.node c.args.before c.look-first.result
    (omega (arith, low, c.requires.left)) c.look-first.ensures.found (c.is_full.ensures.full c.if-is_full.true)

pub visit-returns-then-is_full-clause-counted : goal.visit-returns-then-is_full-clause-counted
visit-returns-then-is_full-clause-counted g t c =
    let low = c.requires.laws.shallow c.args.node c.requires.node in
    visit_fewer (g.H.HullTree.view c.args.tree.now) c.args.by c.args.left c.args.node _ _ (omega (arith, low, c.requires.left))
    (touched (g.H.HullTree.view c.args.tree.now) c.args.by c.args.node c.args.area.now c.touches.result _ c.requires.area c.touches.ensures c.if-not-touches.false) c.look-first.ensures.counted

pub visit_children-returns-then-is_full-clause-found : goal.visit_children-returns-then-is_full-clause-found
visit_children-returns-then-is_full-clause-found g t c =
    let v = g.H.HullTree.view c.args.tree.now in
    let inv = c.loop-place.invariant in
    let cs = v.children c.args.node in
    full_stays c.visit-found.result (answer_over v c.args.by c.args.target (flat_map (below v c.args.left) (drop (c.loop-place.place + 1) cs)))
    (join c.args.before (answer_over v c.args.by c.args.target (flat_map (below v c.args.left) cs))) (c.is_full.ensures.full c.if-is_full.true)
    (step_found v c.args.by c.args.target c.args.left cs c.loop-place.place c.child_of-child.result
    c.loop-place.found c.visit-found.result _ c.child_of-child.ensures.at c.visit-found.ensures.found inv.0)

pub visit_children-returns-then-is_full-clause-counted : goal.visit_children-returns-then-is_full-clause-counted
visit_children-returns-then-is_full-clause-counted g t c =
    let v = g.H.HullTree.view c.args.tree.now in
    let inv = c.loop-place.invariant in
    omega (
      arith,
      step_counted (reads v c.args.by c.args.left) (v.children c.args.node) c.loop-place.place c.child_of-child.result
          c.loop-place.tests _ _ c.child_of-child.ensures.at c.visit-found.ensures.counted inv.1,
    )

pub visit-returns-then-not-holds-clause-found : goal.visit-returns-then-not-holds-clause-found
visit-returns-then-not-holds-clause-found g t c =
    let v = g.H.HullTree.view c.args.tree.now in
    held_back c.args.before (answer_over v c.args.by c.args.target (below v c.args.left c.args.node))
    (λ e. let x : true ≡ false = sym (c.is_nothing.ensures.other e) ∙ c.if-not-is_nothing.true in cc)
    (none_full v c.requires.laws c.args.by c.args.target c.args.left c.args.node c.requires.node
    (unheld v c.args.by c.args.node c.hull.result c.args.area.now c.holds.result c.hull.ensures c.requires.area
    c.holds.ensures.value c.if-not-holds.true))
