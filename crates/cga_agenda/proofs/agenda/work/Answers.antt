use Rattle.std.proofs.Common.{◌+◌, ◌<◌, ◌≤◌, ◌⊎◌, inl, inr, Bool, true, false, Some, None, ap, arith}
use Rattle.cga_agenda.specs.Loop.{calls_of, calls_told, children_told}
use Rattle.cga_agenda.proofs.Loop.{first_each, next_each, ends_over, ends_done, ends_early, told}
use Rattle.cga_agenda.proofs.agenda.work.Goals as goal

calls_most : (b : Bool) → calls_of b ≤ 1
calls_most true = omega arith
calls_most false = omega arith

pub loop-turned-init : goal.loop-turned-init
loop-turned-init g c = (
  first_each (g.W.Worker.means c.args.worker.now) (g.W.Worker.means c.args.worker.now) (g.W.Worker.means c.args.worker.now) c.args.roots c.args.expansions.now c.from-known.result c.from-known.ensures,
  omega (arith, c.if-known-from.false, c.from.ensures),
  omega arith,
  g.met.W.Worker.keeps_itself c.args.worker.now,
  omega arith,
  omega arith,
  omega arith,
  omega arith,
)

pub returns-then-known-from-clause-ended : goal.returns-then-known-from-clause-ended
returns-then-known-from-clause-ended g c =
    let was = g.W.Worker.means c.args.worker.now in
    ends_early was was was c.args.roots c.args.expansions.now 0 c.from-known.result c.args.expansions.now c.args.budget
    (inl (omega (arith, c.if-known-from.true, c.from.ensures)))
    (first_each was was was c.args.roots c.args.expansions.now c.from-known.result c.from-known.ensures)

pub returns-then-known-from-2-clause-ended : goal.returns-then-known-from-2-clause-ended
returns-then-known-from-2-clause-ended g c =
    let was = g.W.Worker.means c.args.worker.now in
    let now = g.W.Worker.means c.loop-turned.worker in
    let after = g.W.Worker.means c.turn.new.self in
    let turn = told was now after c.args.roots c.args.expansions.now c.loop-turned.expansions c.turn.new.expansions (children_told c.in_ok-turned.field-0) (Some c.in-Some.turned.children) (ap children_told c.in-Some.is) c.in_ok-turned.ensures.turned in
    let next = next_each was now after c.args.roots c.args.expansions.now c.loop-turned.turns c.loop-turned.known c.loop-turned.expansions c.turn.new.expansions c.loop-turned.invariant.0 c.in-Some.turned.children c.from-known-in-Some.result c.from-known-in-Some.ensures turn in
    let more : (c.args.budget < c.loop-turned.known + c.from-known-in-Some.result) ⊎ (c.args.budget < c.loop-turned.turns + 1) = elim c.then-known-from-2.either [
      | inl lt ↦ inl (omega (arith, lt, c.from-in-Some.ensures))
      | inr h ↦ inr (omega (arith, h.1))
    ] in
    ends_early was after after c.args.roots c.args.expansions.now (c.loop-turned.turns + 1) (c.loop-turned.known + c.from-known-in-Some.result) c.turn.new.expansions c.args.budget more next

pub loop-turned-preserved : goal.loop-turned-preserved
loop-turned-preserved g c =
    let was = g.W.Worker.means c.args.worker.now in
    let now = g.W.Worker.means c.loop-turned.worker in
    let after = g.W.Worker.means c.turn.new.self in
    let turn = told was now after c.args.roots c.args.expansions.now c.loop-turned.expansions c.turn.new.expansions (children_told c.in_ok-turned.field-0) (Some c.in-Some.turned.children) (ap children_told c.in-Some.is) c.in_ok-turned.ensures.turned in (
      next_each was now after c.args.roots c.args.expansions.now c.loop-turned.turns c.loop-turned.known c.loop-turned.expansions c.turn.new.expansions c.loop-turned.invariant.0 c.in-Some.turned.children c.from-known-in-Some.result c.from-known-in-Some.ensures turn,
      omega (arith, c.if-known-from-2.false, c.from-in-Some.ensures),
      omega (arith, c.loop-turned.invariant.2, c.if-turns-budget.false),
      g.met.W.Worker.keeps_on c.args.worker.now c.loop-turned.worker c.turn.new.self c.loop-turned.invariant.3 c.turn.ensures.kept,
      omega (arith, c.loop-turned.invariant.4, c.turn.ensures.counted),
      omega (arith, c.loop-turned.invariant.5, c.turn.ensures.once),
      omega (arith, c.loop-turned.invariant.6, c.calls-calls.ensures, ap calls_told c.in-Some.is, c.in_ok-turned.ensures.called),
      omega (arith, c.loop-turned.invariant.7, c.calls-calls.ensures, calls_most c.in-Some.turned.expanded),
    )

pub returns-then-count-budget-clause-ended : goal.returns-then-count-budget-clause-ended
returns-then-count-budget-clause-ended g c =
    let was = g.W.Worker.means c.args.worker.now in
    let now = g.W.Worker.means c.loop-turned.worker in
    let after = g.W.Worker.means c.turn.new.self in
    let idle = told was now after c.args.roots c.args.expansions.now c.loop-turned.expansions c.turn.new.expansions (children_told c.in_ok-turned.field-0) None (ap children_told c.in_default.is) c.in_ok-turned.ensures.turned in
    ends_over was now after c.args.roots c.args.expansions.now c.loop-turned.turns c.loop-turned.known c.loop-turned.expansions c.turn.new.expansions c.loop-turned.invariant.0 c.args.budget c.count.result idle c.count.ensures c.if-count-budget.true

pub returns-clause-ended : goal.returns-clause-ended
returns-clause-ended g c =
    let was = g.W.Worker.means c.args.worker.now in
    let now = g.W.Worker.means c.loop-turned.worker in
    let after = g.W.Worker.means c.turn.new.self in
    let idle = told was now after c.args.roots c.args.expansions.now c.loop-turned.expansions c.turn.new.expansions (children_told c.in_ok-turned.field-0) None (ap children_told c.in_default.is) c.in_ok-turned.ensures.turned in
    ends_done was now after c.args.roots c.args.expansions.now c.loop-turned.turns c.loop-turned.known c.loop-turned.expansions c.turn.new.expansions c.loop-turned.invariant.0 c.args.budget c.count.result idle c.count.ensures c.loop-turned.calls (omega (arith, c.if-count-budget.false))

pub returns-clause-called : goal.returns-clause-called
returns-clause-called g c = omega (arith, c.loop-turned.invariant.6, ap calls_told c.in_default.is, c.in_ok-turned.ensures.called)
