use Rattle.std.proofs.Common.{sym, ap, subst, ◌∙◌, List, nat_eq}
use Rattle.std.specs.Map.{lookup}
use Rattle.std.specs.Option.{option_copied}
use lib.Pointwise.{pointwise}
use Rattle.cga_check.proofs.Door.{still_right}
use Rattle.cga_rule.specs.declared.grammar.Entry.{Entry}
use Rattle.cga_rule.specs.declared.grammar.Grammar.{Grammar}
use Rattle.cga_expand.specs.Places.{AreAround}
use Rattle.cga_expand.proofs.by_place.RulesByPlace.read.Goals as goal

pub returns-in-Some-clause-places : goal.returns-in-Some-clause-places
returns-in-Some-clause-places c =
    subst (λ (g : Grammar). AreAround g.rules c.args.symbol c.in-Some.found.now) c.self.view_is
    (c.self.invariant.table c.args.symbol c.in-Some.found.now (sym c.get.ensures.value ∙ ap option_copied c.in-Some.is))

pub invariant_of-self : goal.invariant_of-self
invariant_of-self c = record {
  table = λ name found is. c.self.invariant.table name found (ap (lookup (pointwise nat_eq name)) (sym c.in_err-insert.ensures.err) ∙ is);
  latest = c.self.invariant.latest;
}

pub invariant_of-self-2 : goal.invariant_of-self-2
invariant_of-self-2 c =
    let around = subst (λ (es : List Entry). AreAround es c.args.symbol c.places_of-found.result) c.as_slice.ensures c.places_of-found.ensures in record {
      table = still_right (AreAround c.self.inside.grammar.now.rules) c.self.inside.read c.insert.new.self c.args.symbol c.places_of-found.result around c.self.invariant.table c.in_ok-insert.ensures.updates;
      latest = c.self.invariant.latest;
    }

pub returns-clause-places : goal.returns-clause-places
returns-clause-places c =
    subst (λ (g : Grammar). AreAround g.rules c.args.symbol c.places_of-found.result) c.self.view_is
    (subst (λ (es : List Entry). AreAround es c.args.symbol c.places_of-found.result) c.as_slice.ensures c.places_of-found.ensures)
