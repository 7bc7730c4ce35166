use Rattle.std.proofs.Common.{ap, refl, subst, sym, ◌∙◌}
use Rattle.std.specs.Prelude.{IsSome}
use Rattle.cga_forest.specs.Tree.{node_at}
use Rattle.cga_update.specs.declared.work.Work.{Work}
use Rattle.cga_update.proofs.TurnOf.{AsksOf, HasFacts, expanded_turn, placed_turn, quiet_turn}
use Rattle.cga_update.proofs.turn.turn_of.Goals as goal

pub facts_at-requires : goal.facts_at-requires
facts_at-requires g c = record { here = subst (λ (w : Work). IsSome (node_at w.forest c.args.id)) (sym c.said_at.ensures.same) (rw c.requires.here.1 refl) }

pub expand_at-requires : goal.expand_at-requires
expand_at-requires g c =
    let rest = c.facts_at.ensures.same ∙ c.said_at.ensures.same in
    record { here = (c.requires.here.0, ap (λ (w : Work). node_at w.forest c.args.id) rest ∙ c.requires.here.1, c.requires.here.2) }

pub place_again-requires : goal.place_again-requires
place_again-requires g c =
    let rest = c.facts_at.ensures.same ∙ c.said_at.ensures.same in
    record { here = (c.requires.here.0, ap (λ (w : Work). node_at w.forest c.args.id) rest ∙ c.requires.here.1, c.requires.here.2) }

pub returns-then-must_expand-clause-turned : goal.returns-then-must_expand-clause-turned
returns-then-must_expand-clause-turned g c =
    let rest = c.facts_at.ensures.same ∙ c.said_at.ensures.same in
    let facts = subst (λ (w : Work). HasFacts w c.args.id c.in_ok-facts.facts) c.said_at.ensures.same c.in_ok-facts.ensures.facts in
    let asks = subst (λ (w : Work). AsksOf w c.args.id c.in_ok-said.said c.asked-answers.result) rest c.asked-answers.ensures in
    expanded_turn c.args.work.now c.args.id c.in_ok-said.said c.in_ok-facts.facts c.asked-answers.result c.must_expand.result c.requires.here c.in_ok-said.ensures.told facts asks
    c.facts_at.new.work rest c.expand_at.new.work c.expand_at.result c.must_expand.ensures.changed c.if-must_expand.true c.expand_at.ensures.placed

pub returns-then-asks_right-clause-turned : goal.returns-then-asks_right-clause-turned
returns-then-asks_right-clause-turned g c =
    let rest = c.facts_at.ensures.same ∙ c.said_at.ensures.same in
    let facts = subst (λ (w : Work). HasFacts w c.args.id c.in_ok-facts.facts) c.said_at.ensures.same c.in_ok-facts.ensures.facts in
    let asks = subst (λ (w : Work). AsksOf w c.args.id c.in_ok-said.said c.asked-answers.result) rest c.asked-answers.ensures in
    quiet_turn c.args.work.now c.args.id c.in_ok-said.said c.in_ok-facts.facts c.asked-answers.result c.must_expand.result c.requires.here c.in_ok-said.ensures.told facts asks
    c.facts_at.new.work rest c.asks_right.result c.must_expand.ensures.same c.if-must_expand.false c.if-work.true c.asks_right.ensures c.if-asks_right.true

pub returns-clause-turned : goal.returns-clause-turned
returns-clause-turned g c =
    let rest = c.facts_at.ensures.same ∙ c.said_at.ensures.same in
    let facts = subst (λ (w : Work). HasFacts w c.args.id c.in_ok-facts.facts) c.said_at.ensures.same c.in_ok-facts.ensures.facts in
    let asks = subst (λ (w : Work). AsksOf w c.args.id c.in_ok-said.said c.asked-answers.result) rest c.asked-answers.ensures in
    placed_turn c.args.work.now c.args.id c.in_ok-said.said c.in_ok-facts.facts c.asked-answers.result c.must_expand.result c.requires.here c.in_ok-said.ensures.told facts asks
    c.facts_at.new.work rest c.place_again.new.work c.place_again.result c.must_expand.ensures.same c.if-must_expand.false c.place_again.ensures.placed
