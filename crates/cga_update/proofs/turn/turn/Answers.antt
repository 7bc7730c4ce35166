use Rattle.std.proofs.Common.{inl, inr}
use Rattle.cga_forest.specs.Tree.{node_at}
use Rattle.cga_update.proofs.DueNodes.{due_of}
use Rattle.cga_update.proofs.Idle.{turn_idle}
use Rattle.cga_update.proofs.Turning.{turn_means}
use Rattle.cga_update.proofs.Quiet.{quiet_means}
use Rattle.cga_update.proofs.turn.turn.Goals as goal

pub returns-in-None-clause-turned : goal.returns-in-None-clause-turned
returns-in-None-clause-turned g c = λ edit s means. turn_idle c.args.work.now c.take.new.agenda edit s means c.in-None.ensures.passed c.in-None.ensures.none c.args.expansions.now

pub turn_of-requires : goal.turn_of-requires
turn_of-requires g c =
    let least = c.in-Some.ensures.taken in
    let due = due_of (node_at c.args.work.now.forest c.in-Some.id) least.0 least.1.here in
    record { here = (due.0, due.1, due.2) }

pub returns-in_ok-turn_of-in-Some-clause-turned : goal.returns-in_ok-turn_of-in-Some-clause-turned
returns-in_ok-turn_of-in-Some-clause-turned g c = λ edit s means.
    let was = c.args.work.now in
    let rest = c.take.new.agenda in
    let less = c.forget.new.self in
    let forgot = c.forget.ensures in
    let least = c.in-Some.ensures.taken in
    let turned = c.in_ok-turn_of-in-Some.field-0 in
    let done = c.in_ok-turn_of-in-Some.ensures in
    elim (done.turned (record { mode = means.mode; symbols = means.symbols; rules = means.rules; grammars = means.grammars; plain = means.plain })) [
      | inl placing ↦ turn_means was c.turn_of.new.work rest c.in-Some.id least.0 turned edit s means c.laws.ensures least.1 less forgot placing c.args.expansions.now c.turn_of.new.expansions done.called
      | inr quiet ↦ quiet_means was c.turn_of.new.work rest c.in-Some.id least.0 edit s means least.1 less forgot turned quiet c.args.expansions.now c.turn_of.new.expansions done.called
    ]
