use Rattle.std.proofs.Common.{◌∙◌, sym, ap, eq-eqb, rules}
use Rattle.std.specs.Prelude.{unwrap_or}
use borrow.Author.Tests.{eqb-true}
use Rattle.cga_depend.proofs.Rules.{same_priority, with_same_rules}
use Rattle.cga_depend.proofs.changed.facts_of.Goals as goal

pub returns-then-same_rules : goal.returns-then-same_rules
returns-then-same_rules c =
    let same = c.requires.rules c.if-same_rules.true in record {
      setting = with_same_rules c.args.old.now c.args.new.now c.args.symbol same c.same_values.result c.same_values.ensures;
      priorities = (λ h. ap (λ o. unwrap_or o 0) (same_priority c.args.old.now c.args.new.now c.args.symbol same), λ h. search rules);
    }

pub returns : goal.returns
returns c =
    let before = c.unwrap_or-before.ensures ∙ ap (λ o. unwrap_or o 0) c.symbol_priority.ensures in
    let after = c.unwrap_or-after.ensures ∙ ap (λ o. unwrap_or o 0) c.symbol_priority-2.ensures in record {
      setting = c.same_setting.ensures;
      priorities = (
        λ same. sym before ∙ (eqb-true c.unwrap_or-before.result c.unwrap_or-after.result same ∙ after),
        λ same. eq-eqb c.unwrap_or-before.result c.unwrap_or-after.result (before ∙ (same ∙ sym after)),
      );
    }
