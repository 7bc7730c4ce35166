-- A name alone comes to its number, and uses itself.
use Rattle.std.proofs.Common.{◌≡◌, ℕ, List, [], ◌∷◌, ◌++◌, false, Ok, ap, ◌∙◌}
use Rattle.cga_fraction.specs.Results.{and_then}
use Rattle.cga_rule.specs.declared.expr.Term.{roll-Term}
use Rattle.cga_rule.specs.declared.expr.Factor.{roll-Factor}
use Rattle.cga_rule.specs.declared.expr.Primary.TheVariants.{Named}
use Rattle.cga_rule.specs.declared.expr.Primary.TheFolds.{fold-roll-Expr, fold-roll-Term, fold-roll-Factor}
use Rattle.cga_check.specs.Uses.{Uses}
use Rattle.cga_check.specs.Uses as used
use Rattle.cga_check.proofs.Door as uses
use Rattle.cga_check.specs.declared.usage.Use.TheVariants as named_use
use Rattle.cga_expr.specs.Names.{Known, number_of}
use Rattle.cga_expr.specs.Arithmetic.{Computed, signed}
use Rattle.cga_expr.specs.Value.{Meaning, Marked}
use Rattle.cga_expr.specs.Value as value
use Rattle.cga_expr.proofs.Door.{primary_Named}
use Rattle.cga_touched.specs.Heights.{named}

module _ (name : List ℕ) where
  factor_value : (k : Known)
      → value.factor_value (roll-Factor (record { minus = false; primary = Named name })) k ≡ Ok (number_of k name)
  unfolding value.primary_value value.added_value value.expr_value value.factor_value value.scaled_value value.term_value
  factor_value k =
      ap (λ (m : Meaning). m k) (fold-roll-Factor Meaning Marked Meaning Meaning Marked Meaning value.primary_step
      value.added_step value.expr_step value.factor_step value.scaled_step value.term_step (record { minus = false; primary = Named name }))
      ∙ ap (λ (r : Computed). and_then r (λ x. Ok (signed false x))) (primary_Named name k)

  term_value : (k : Known)
      → value.term_value (roll-Term
      (record { first = roll-Factor (record { minus = false; primary = Named name }); rest = [] })) k ≡ Ok
      (number_of k name)
  unfolding value.primary_value value.added_value value.expr_value value.factor_value value.scaled_value value.term_value
  term_value k =
      ap (λ (m : Meaning). m k) (fold-roll-Term Meaning Marked Meaning Meaning Marked Meaning value.primary_step
      value.added_step value.expr_step value.factor_step value.scaled_step value.term_step
      (record { first = roll-Factor (record { minus = false; primary = Named name }); rest = [] }))
      ∙ ap (λ (r : Computed). and_then r (λ x. Ok x)) (factor_value k)

  named_value : (k : Known) → value.expr_value (named name) k ≡ Ok (number_of k name)
  unfolding value.primary_value value.added_value value.expr_value value.factor_value value.scaled_value value.term_value
  named_value k =
      ap (λ (m : Meaning). m k) (fold-roll-Expr Meaning Marked Meaning Meaning Marked Meaning value.primary_step
      value.added_step value.expr_step value.factor_step value.scaled_step value.term_step
      (record { first = roll-Term (record { first = roll-Factor (record { minus = false; primary = Named name }); rest = [] }); rest = [] }))
      ∙ ap (λ (r : Computed). and_then r (λ x. Ok x)) (term_value k)

  pub named_is : value.expr_value (named name) ≡ (λ k. Ok (number_of k name))
  named_is = λ i k. named_value k i

  -- ---- and names itself

  factor_uses : used.factor_uses (roll-Factor (record { minus = false; primary = Named name })) ≡ named_use.Named name ∷ []
  unfolding used.only used.primary_uses used.added_uses used.expr_uses used.factor_uses used.scaled_uses used.term_uses
  factor_uses =
      fold-roll-Factor Uses Uses Uses Uses Uses Uses used.primary_step used.added_step used.expr_step used.factor_step used.scaled_step used.term_step (record { minus = false; primary = Named name })
      ∙ uses.primary_Named name

  term_uses : used.term_uses (roll-Term (record { first = roll-Factor (record { minus = false; primary = Named name }); rest = [] })) ≡ named_use.Named name ∷ []
  unfolding used.only used.primary_uses used.added_uses used.expr_uses used.factor_uses used.scaled_uses used.term_uses
  term_uses =
      fold-roll-Term Uses Uses Uses Uses Uses Uses used.primary_step used.added_step used.expr_step
      used.factor_step used.scaled_step used.term_step (record { first = roll-Factor (record { minus = false; primary = Named name }); rest = [] })
      ∙ ap (λ (us : Uses). us ++ []) factor_uses

  pub named_uses : used.expr_uses (named name) ≡ named_use.Named name ∷ []
  unfolding used.only used.primary_uses used.added_uses used.expr_uses used.factor_uses used.scaled_uses used.term_uses
  named_uses =
      fold-roll-Expr Uses Uses Uses Uses Uses Uses used.primary_step used.added_step used.expr_step
      used.factor_step used.scaled_step used.term_step
      (record { first = roll-Term (record { first = roll-Factor (record { minus = false; primary = Named name }); rest = [] }); rest = [] })
      ∙ ap (λ (us : Uses). us ++ []) term_uses
