use Rattle.std.proofs.Common.{length, arith, ◌∙◌}
use Rattle.cga_derive.proofs.Stepping.{nothing-waits, none_left}
use Rattle.cga_derive.proofs.Working.{in-turn, place_within}
use Rattle.cga_derive.proofs.run.Run.next.Goals as goal

pub returns-in_default-clause-step : goal.returns-in_default-clause-step
returns-in_default-clause-step g c = λ n under.
    nothing-waits c.args.sources.now n c.args.self.now.list.items c.args.self.now.waiting.entries under.after
    (none_left c.pop_first.result (length c.args.self.now.waiting.entries) c.in_default.is c.pop_first.ensures.variant)

pub turn-requires-clause-within : goal.turn-requires-clause-within
turn-requires-clause-within g c =
    let n = c.requires.underway.0 in
    let under = c.requires.underway.1 in
    let list = c.args.self.now.list.items in
    let turn = in-turn c.args.sources.now n c.in-Some.key c.in-Some.place list c.args.self.now.waiting.entries c.pop_first.new.self.entries under.after c.in-Some.ensures.removal c.in-Some.ensures.all_above in
    omega (arith, place_within c.args.sources.now c.requires.names n c.in-Some.key c.in-Some.place list c.pop_first.new.self.entries turn, c.args.self.now.list.ok.0)

pub returns-clause-step : goal.returns-clause-step
returns-clause-step g c = λ n under.
    c.in_ok-step.ensures.told n (in-turn c.args.sources.now n c.in-Some.key c.in-Some.place c.args.self.now.list.items c.args.self.now.waiting.entries c.pop_first.new.self.entries under.after c.in-Some.ensures.removal c.in-Some.ensures.all_above)

pub returns-clause-underway : goal.returns-clause-underway
returns-clause-underway g c = λ n under. record {
  after = c.in_ok-step.ensures.turn n (in-turn c.args.sources.now n c.in-Some.key c.in-Some.place c.args.self.now.list.items c.args.self.now.waiting.entries c.pop_first.new.self.entries under.after c.in-Some.ensures.removal c.in-Some.ensures.all_above);
  symbols = c.turn.ensures.symbols ∙ under.symbols;
  boxed = c.in_ok-step.ensures.boxed;
}
