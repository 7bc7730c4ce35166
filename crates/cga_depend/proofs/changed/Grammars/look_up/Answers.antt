use Rattle.std.proofs.Common.{sym, ap, subst, ◌∙◌}
use Rattle.std.specs.Option.{option_copied}
use Rattle.cga_depend.specs.Both.{BothGrammars}
use Rattle.cga_depend.specs.Changed.{AreFacts}
use Rattle.cga_depend.proofs.Noted.{still_known}
use Rattle.cga_depend.proofs.changed.Grammars.look_up.Goals as goal

pub invariant_of-self-2 : goal.invariant_of-self-2
invariant_of-self-2 c = record {
  rules = c.self.invariant.rules;
  apart = c.self.invariant.apart;
  facts = still_known c.self.inside.before.now c.self.inside.after.now c.self.inside.known c.insert.new.self c.args.symbol c.facts_of-facts.result c.facts_of-facts.ensures c.self.invariant.facts c.in_ok-insert.ensures.updates;
  kept = c.self.invariant.kept;
}

pub returns-clause-facts : goal.returns-clause-facts
returns-clause-facts c = subst (λ (g : BothGrammars). AreFacts g.before g.after c.args.symbol c.facts_of-facts.result) c.self.view_is c.facts_of-facts.ensures

pub returns-in-Some-clause-facts : goal.returns-in-Some-clause-facts
returns-in-Some-clause-facts c = subst (λ (g : BothGrammars). AreFacts g.before g.after c.args.symbol c.in-Some.facts.now) c.self.view_is (c.self.invariant.facts c.args.symbol c.in-Some.facts.now (sym c.get.ensures.value ∙ ap option_copied c.in-Some.is))
