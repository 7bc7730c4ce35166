use Rattle.std.proofs.Common.{sym, subst, take_all}
use Rattle.std.specs.List.{AllZip}
use Rattle.cga_fraction.proofs.Door.{IsSome_from_Some as some_is}
use Rattle.cga_forest.specs.Tree.{node_at}
use Rattle.cga_trace.specs.Order.{IsStepOf, IsTurn}
use Rattle.cga_trace.proofs.Turning.{steps_more, zip_more}
use Rattle.cga_trace.proofs.tracing.steps_of.Goals as goal

pub step_at-requires : goal.step_at-requires
step_at-requires c =
    let v = c.args.forest.now in
    let t = c.turn-item.result in
    let (d, inner, chain) = subst (IsTurn v) (sym c.turn-item.is) (c.requires.turns c.loop-turn.turn-index t c.loop-turn-test.true) in
    record { here = some_is (node_at v t.id) d inner.0 }

pub loop-turn-preserved : goal.loop-turn-preserved
loop-turn-preserved c =
    let v = c.args.forest.now in
    let i = c.loop-turn.turn-index in
    let t = c.turn-item.result in
    let step = c.in_ok-step.step in
    let was = c.loop-turn.steps.items in
    let new = c.push.new.self.items in
    let items = c.in_ok-push.ensures.items in
    let lt = c.loop-turn-test.true in
    let (d, inner, chain) = subst (IsTurn v) (sym c.turn-item.is) (c.requires.turns i t lt) in
    let own : IsStepOf v t step = (d, inner, chain, c.in_ok-step.ensures d inner.0) in
    record {
      steps = zip_more (IsStepOf v) c.args.turns.now i t lt c.turn-item.is was new step items c.loop-turn.invariant.steps own;
      fields = steps_more was new step items c.loop-turn.invariant.fields c.is_step.ensures;
    }

pub returns-clause-steps : goal.returns-clause-steps
returns-clause-steps c =
    let all = take_all c.loop-turn.turn-index c.args.turns.now c.loop-turn-test.false in
    subst (λ l. AllZip (IsStepOf c.args.forest.now) l c.loop-turn.steps.items) all c.loop-turn.invariant.steps
