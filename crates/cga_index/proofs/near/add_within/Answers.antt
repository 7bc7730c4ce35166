use Rattle.std.proofs.Common.{sym, ap, subst, ◌∙◌, ◌+◌, ◌++◌, ◌∷◌, []}
use Rattle.std.specs.List.{list_any}
use Rattle.cga_fraction.proofs.Door.{slice_get_from_get_or}
use Rattle.cga_frame.specs.Box.{meets}
use Rattle.cga_index.specs.Near.{AddsThese}
use Rattle.cga_index.proofs.NearAskers.{NearFirst, all_within, in_walk, passed, pushed}
use Rattle.cga_index.proofs.near.add_within.Goals as goal
use Rattle.cga_index.proofs.near.add_within.Goals.{then-meets_one+in_ok-push, else-meets_one}

pub own_box-own-requires : goal.own_box-own-requires
own_box-own-requires g c =
    let ids = c.as_slice-id-items.result.now in
    record { node = in_walk (g.H.HullTree.view c.args.tree.now) c.args.around.now c.in_ok-askers.askers ids c.loop-id.id-index c.id-item.result c.as_slice-id-items.ensures c.in_ok-askers.ensures (slice_get_from_get_or ids c.loop-id.id-index c.id-item.result c.loop-id-test.true c.id-item.is) }

pub loop-id-preserved : goal.loop-id-preserved
loop-id-preserved g c =
    let v = g.H.HullTree.view c.args.tree.now in
    let areas = c.args.areas.now in
    let ids = c.as_slice-id-items.result.now in
    let at = slice_get_from_get_or ids c.loop-id.id-index c.id-item.result c.loop-id-test.true c.id-item.is in
    let told = c.meets_one.ensures ∙ ap (λ b. list_any (meets b) areas) c.own_box-own.ensures.value in
    elim c.if-meets_one.branch [
      | then-meets_one+in_ok-push w ↦
          pushed v areas ids c.loop-id.id-index c.id-item.result c.args.near.now.items c.loop-id.near.items c.if-meets_one.near.items at (sym told ∙ w.if-meets_one.true)
          (◌∙◌ {c = c.loop-id.near.items ++ c.id-item.result ∷ []} (ap (λ n. n.items) w.near-is) w.in_ok-push.ensures.items) c.loop-id.invariant
      | else-meets_one w ↦
          subst (λ n. AddsThese (NearFirst v areas ids (c.loop-id.id-index + 1)) c.args.near.now.items n.items) (sym w.near-is)
          (passed v areas ids c.loop-id.id-index c.id-item.result c.args.near.now.items c.loop-id.near.items at (sym told ∙ w.if-meets_one.false) c.loop-id.invariant)
    ]

pub returns : goal.returns
returns g c = all_within (g.H.HullTree.view c.args.tree.now) c.args.areas.now c.args.around.now c.in_ok-askers.askers c.as_slice-id-items.result.now c.loop-id.id-index c.args.near.now.items c.loop-id.near.items c.as_slice-id-items.ensures c.in_ok-askers.ensures c.loop-id-test.false c.loop-id.invariant
