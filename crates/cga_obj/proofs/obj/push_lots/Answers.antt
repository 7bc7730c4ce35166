use Rattle.std.proofs.Common.{◌∙◌, ◌+◌, arith, sym, subst, length, drop, ◌≤◌, ℕ}
use Rattle.std.proofs.lemmas.List.Elements.{All-drop}
use Rattle.std.proofs.lemmas.List.Sums.{prefix_len-le-length}
use Rattle.std.specs.Prelude.{IsOk}
use Rattle.cga_shape.specs.declared.drawn.Drawn.{Drawn}
use Rattle.cga_solid.specs.Solids.{check_solid_of}
use Rattle.cga_obj.specs.Lots.{AreSolid, is_of}
use Rattle.cga_obj.proofs.Runs.{FirstRun, drop_first, no_lot, one_lot, run_from}
use Rattle.cga_obj.proofs.obj.push_lots.Goals as goal

pub split_at-requires : goal.split_at-requires
split_at-requires g c = subst (λ (n : ℕ). n ≤ length c.loop-lot.rest.now) (sym c.own_count.ensures) (prefix_len-le-length (is_of c.lot-item.result) c.loop-lot.rest.now)

pub loop-lot-preserved : goal.loop-lot-preserved
loop-lot-preserved g c =
    let run : FirstRun c.lot-item.result (drop (c.loop-lot.lot-index + 1) c.args.lots.now) c.loop-lot.rest.now c.split_at.result.0.now c.split_at.result.1.now =
    rw (c.split_at.ensures.front, c.split_at.ensures.back) (run_from c.args.lots.now c.loop-lot.lot-index c.lot-item.result c.loop-lot.rest.now c.own_count.result c.loop-lot-test.true (sym c.lot-item.is) c.loop-lot.invariant.distinct c.loop-lot.invariant.order c.own_count.ensures) in
    record {
      text = rw c.in_ok-before.ensures.count (one_lot (g.M.Meshes.mesh_of c.args.meshes.now) _ _ _ _ _ c.loop-lot.rest.now _ _ _ _ (drop_first c.args.lots.now _ _ c.loop-lot-test.true (sym c.lot-item.is)) run c.in_ok-before.ensures.text ∙ c.loop-lot.invariant.text);
      order = run.order;
      distinct = run.distinct;
      solid = subst AreSolid (sym c.split_at.ensures.back) (All-drop (λ (d : Drawn). IsOk (check_solid_of d.primitive d.scope)) c.own_count.result c.loop-lot.rest.now c.loop-lot.invariant.solid);
      room = omega (arith, c.in_ok-before.ensures.room, c.split_at.ensures.front_len, c.split_at.ensures.back_len, c.loop-lot.invariant.room);
    }

pub returns : goal.returns
returns g c = no_lot (g.M.Meshes.mesh_of c.args.meshes.now) _ _ c.args.lots.now _ c.loop-lot.rest.now _ _ c.loop-lot-test.false c.loop-lot.invariant.text
