use Rattle.std.proofs.Common.{◌≡◌, ℕ, None, arith, subst}
use Rattle.std.specs.Prelude.{Err}
use Rattle.cga_derivation.specs.Derivation.{derive}
use Rattle.cga_expand.specs.Derivation.{derivation_of}
use Rattle.cga_update.specs.declared.update_refused.UpdateRefused.{UpdateRefused}
use Rattle.cga_update.specs.Updates.{WhereOver}
use Rattle.cga_update.proofs.Modes.{empties, names_of_none, never_over, roots_of_none}
use Rattle.cga_update.proofs.updating.empty.Goals as goal

pub invariant_of-to_nothing : goal.invariant_of-to_nothing
invariant_of-to_nothing g c = record {
  old_names = c.args.renewal.old_names;
  names = names_of_none c.args.renewal.old.now c.in_ok-nothing.nothing c.in_ok-nothing.ensures;
  roots = roots_of_none c.args.renewal.old.now c.in_ok-nothing.nothing c.in_ok-nothing.ensures;
  told = tt;
}

pub returns-in-Ok-clause-exact : goal.returns-in-Ok-clause-exact
returns-in-Ok-clause-exact g c = (empties c.args.renewal.old.now c.in_ok-nothing.nothing c.in_ok-nothing.ensures c.in-Ok._touched c.rework.new.changes c.in-Ok.ensures.exact).1

pub returns-in-Ok-clause-spent : goal.returns-in-Ok-clause-spent
returns-in-Ok-clause-spent g c =
    let none = (empties c.args.renewal.old.now c.in_ok-nothing.nothing c.in_ok-nothing.ensures c.in-Ok._touched c.rework.new.changes c.in-Ok.ensures.exact).0 in
    let spent = c.in-Ok.ensures.spent in
    omega (arith, none, spent)

pub unreachable-requires : goal.unreachable-requires
unreachable-requires g c =
    never_over c.args.renewal.old.now c.in_ok-nothing.nothing c.in_ok-nothing.ensures
    (subst (λ (e : UpdateRefused). WhereOver {A = ℕ} (Err e) (derive (derivation_of c.in_ok-nothing.nothing) 0 ≡ None)) c.in-Err-OverBudget.field-0-is c.in-Err-OverBudget.ensures.over)
