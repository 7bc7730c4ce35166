use Rattle.std.proofs.Common.{◌+◌, arith, refl}
use Rattle.cga_update.proofs.InLoops.{item_at}
use Rattle.cga_update.proofs.Lots.{fewer_by_name, more_by_name}
use Rattle.cga_update.proofs.lookup.name_run.Goals as goal

pub loop-lot-init : goal.loop-lot-init
loop-lot-init c = λ lots n at named. fewer_by_name lots n (n + 0) c.args.named.now.entries (omega arith) named

pub loop-lot-preserved : goal.loop-lot-preserved
loop-lot-preserved c = λ lots n at named.
    let i = c.loop-lot.lot-index in
    let item = item_at c.args.run.now c.args.run.now refl i c.lot-item.result c.loop-lot-test.true c.lot-item.is in
    let more =
    more_by_name lots c.loop-lot.named.entries c.insert.new.self.entries (n + i) c.lot-item.result (at i c.lot-item.result item)
    (λ name. c.in_ok-insert.ensures.updates.0 name) (c.loop-lot.invariant lots n at named) in
    fewer_by_name lots (n + i + 1) (n + (i + 1)) c.insert.new.self.entries (omega arith) more

pub returns : goal.returns
returns c = λ lots n at named. fewer_by_name lots (n + c.loop-lot.lot-index) _ c.loop-lot.named.entries (omega (arith, c.loop-lot-test.false)) (c.loop-lot.invariant lots n at named)
