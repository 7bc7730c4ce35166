use Rattle.std.proofs.Common.{sym, ap, subst, ◌∙◌, List}
use Rattle.cga_rule.specs.declared.grammar.Entry.{Entry}
use Rattle.cga_rule.specs.declared.grammar.Grammar.{Grammar}
use Rattle.cga_check.specs.Latest.{AreKept}
use Rattle.cga_check.proofs.Door.{still_kept}
use Rattle.cga_expand.specs.Places.{AreAround}
use Rattle.cga_expand.proofs.by_place.RulesByPlace.find.Goals as goal

pub invariant_of-self : goal.invariant_of-self
invariant_of-self c =
    let entries = c.self-2.inside.grammar.now.rules in
    let same = ap (λ (g : Grammar). g.rules) (c.self-2.view_is ∙ c.in_ok-found.ensures.grammar) in
    let found = c.in_ok-found.found in
    let is = subst (λ (es : List Entry). AreAround es c.args.symbol found) (sym same) c.in_ok-found.ensures.places in record {
      table = c.self-2.invariant.table;
      latest = subst (AreKept (AreAround entries)) (sym c.note.ensures) (still_kept (AreAround entries) c.self-2.inside.latest c.args.symbol found is c.self-2.invariant.latest);
    }
