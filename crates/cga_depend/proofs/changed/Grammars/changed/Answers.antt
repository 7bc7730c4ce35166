use Rattle.std.proofs.Common.{◌≡◌, ◌∙◌, ℕ, Some, ap, inr, slice_get, subst}
use Rattle.cga_rule.specs.declared.grammar.Entry.{Entry}
use Rattle.cga_depend.specs.Agreement.{IsSameSetting}
use Rattle.cga_depend.specs.Both.{BothGrammars}
use Rattle.cga_depend.specs.Changed.{IsNoted, KeepsNoted}
use Rattle.cga_depend.proofs.Told.{grammar_told}
use Rattle.cga_depend.proofs.Noted.{all_noted, noted_in, same_itself}
use Rattle.cga_depend.proofs.changed.Grammars.changed.Goals as goal

pub returns-then-eq-clause-listed : goal.returns-then-eq-clause-listed
returns-then-eq-clause-listed c = λ symbol.
    let same = grammar_told c.self.inside.before.now c.self.inside.after.now c.self.inside.same_rules c.eq.result c.self.invariant.rules c.eq.ensures c.if-self.true c.if-eq.true in
    inr (subst (λ (g : BothGrammars). IsSameSetting g.before g.after symbol) c.self.view_is
    (same_itself c.self.inside.before.now c.self.inside.after.now same symbol))

pub returns-clause-listed : goal.returns-clause-listed
returns-clause-listed c =
    let both = c.args.self.now in
    let first = c.note_all.new.list.items in
    let list = c.note_all-2.new.list.items in
    let same = c.note_all.ensures.grammars in
    let kept = subst (λ (g : BothGrammars). KeepsNoted g.before g.after first list) same c.in_ok-note_all-2.ensures.kept in
    let noted = subst (λ (g : BothGrammars). (i : ℕ) (e : Entry) → slice_get c.as_slice-2.result.now i ≡ Some e → IsNoted g.before g.after list e.rule.symbol) same c.in_ok-note_all-2.ensures.noted in
    let before = c.as_slice.ensures ∙ ap (λ (g : BothGrammars). g.before.rules) c.self.view_is in
    let after = c.as_slice-2.ensures ∙ ap (λ (g : BothGrammars). g.after.rules) c.self.view_is in
    all_noted both.before both.after list
    (λ i e at. kept e.rule.symbol (noted_in both.before both.after both.before.rules _ first before c.in_ok-note_all.ensures.noted i e at))
    (noted_in both.before both.after both.after.rules _ list after noted)
