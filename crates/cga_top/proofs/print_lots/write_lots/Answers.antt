use Rattle.std.proofs.Common.{◌∙◌, arith}
use Rattle.cga_top.specs.Prints.{in_lots}
use Rattle.cga_top.proofs.OwnLots.{each_own}
use Rattle.cga_top.proofs.LotTexts.{apart_more, lots_all, lots_begin, lots_on, lots_some}
use Rattle.cga_top.proofs.print_lots.write_lots.Goals as goal

pub returns-in-Err-clause-err : goal.returns-in-Err-clause-err
returns-in-Err-clause-err g c =
    let decimals = c.args.session.now.decimals in
    let city = c.args.session.now.city in
    let inv = c.loop-lot.invariant in
    lots_some (g.M.Meshes.mesh_of c.args.meshes.now) decimals (in_lots city) (each_own city) c.args.lots.now c.loop-lot.lot-index c.lot-item.result c.loop-lot.before 0 _ _ _
    inv.come c.loop-lot-test.true c.lot-item.is inv.apart c.in-Err.ensures.err

pub loop-lot-preserved : goal.loop-lot-preserved
loop-lot-preserved g c =
    let decimals = c.args.session.now.decimals in
    let city = c.args.session.now.city in
    let inv = c.loop-lot.invariant in
    record {
      come = lots_on (g.M.Meshes.mesh_of c.args.meshes.now) decimals (in_lots city) (each_own city) c.args.lots.now c.loop-lot.lot-index c.lot-item.result c.loop-lot.before c.in-Ok.after _ _ _
          inv.come c.loop-lot-test.true c.lot-item.is inv.apart c.in-Ok.ensures.count c.in-Ok.ensures.ok;
      apart = apart_more c.args.lots.now c.loop-lot.lot-index c.lot-item.result c.loop-lot-test.true c.lot-item.is inv.apart;
      room = omega (arith, inv.room, c.in-Ok.ensures.room);
      calm = c.in-Ok.ensures.faults ∙ inv.calm;
    }

pub returns-clause-ok : goal.returns-clause-ok
returns-clause-ok g c =
    lots_all (g.M.Meshes.mesh_of c.args.meshes.now) c.args.session.now.decimals (in_lots c.args.session.now.city) c.args.lots.now c.loop-lot.lot-index c.loop-lot.before _ _ c.loop-lot.invariant.come c.loop-lot-test.false
