use Rattle.std.proofs.Common.{◌≡◌, ap, subst, sym, ◌∙◌, nat_eq, None, Some}
use lib.Pointwise.{pointwise}
use Rattle.indexmap.specs.IndexMap.{get}
use Rattle.std.specs.Map.{lookup}
use Rattle.cga_check.specs.Latest.{value_of}
use Rattle.cga_depend.specs.Ends.{AreApart}
use Rattle.cga_depend.proofs.Told.{rules_told}
use Rattle.cga_depend.proofs.changed.Grammars.new.Goals as goal

pub invariant_of-result : goal.invariant_of-result
invariant_of-result c = record {
  rules = rules_told c.args.before.now.rules c.args.after.now.rules c.eq.result c.eq.ensures;
  apart = subst (λ xs. AreApart xs c.args.after.now.attributes c.between.result.old.now c.between.result.new.now) c.as_slice.ensures
      (subst (λ ys. AreApart c.as_slice.result.now ys c.between.result.old.now c.between.result.new.now) c.as_slice-2.ensures c.between.ensures);
  facts = λ symbol facts found.
      let none : get (pointwise nat_eq) c.new.result symbol ≡ None = ap (lookup (pointwise nat_eq symbol)) c.new.ensures.empty in
      absurd (let bad : None ≡ Some facts = sym none ∙ found in cc);
  kept = λ name value found. absurd (let bad : None ≡ Some value = sym (ap (λ l. value_of l name) c.new-2.ensures) ∙ found in cc);
}
