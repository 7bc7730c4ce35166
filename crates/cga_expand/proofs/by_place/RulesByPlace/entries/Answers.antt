use Rattle.std.proofs.Common.{sym, ap, subst, ◌∙◌, List}
use Rattle.cga_check.specs.Groups.{rules_of}
use Rattle.cga_rule.specs.declared.grammar.Entry.{Entry}
use Rattle.cga_rule.specs.declared.grammar.Grammar.{Grammar}
use Rattle.cga_expand.specs.Places.{AreAround}
use Rattle.cga_expand.proofs.Around.{same_rules}
use Rattle.cga_expand.proofs.by_place.RulesByPlace.entries.Goals as goal

pub between-requires : goal.between-requires
between-requires c =
    let around = subst (λ (es : List Entry). AreAround es c.args.symbol c.in-Some.places) (sym c.as_slice-entries.ensures) (c.self.invariant.latest c.args.symbol c.in-Some.places (sym c.in-Some.ensures)) in
    (around.order, around.within)

pub returns-in-Some : goal.returns-in-Some
returns-in-Some c =
    let symbol = c.args.symbol in
    let entries = c.as_slice-entries.result.now in
    let around = subst (λ (es : List Entry). AreAround es symbol c.in-Some.places) (sym c.as_slice-entries.ensures) (c.self.invariant.latest symbol c.in-Some.places (sym c.in-Some.ensures)) in
    ap (λ (es : List Entry). rules_of es symbol) c.between.ensures
    ∙ same_rules symbol entries _ around.all
    ∙ ap (λ (es : List Entry). rules_of es symbol) c.as_slice-entries.ensures
    ∙ ap (λ (g : Grammar). rules_of g.rules symbol) c.self.view_is
