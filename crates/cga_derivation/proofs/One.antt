-- A derivation ends in one configuration.
use Rattle.std.proofs.Common.{◌≡◌, ℕ, ◌+◌, ◌-◌, ◌≤◌, ◌<◌, List, sym, ap, ◌∙◌, subst, inl, inr, Option, Some, arith, length}
use Rattle.std.specs.Prelude.{nat_lt, MatchOption}
use Rattle.std.proofs.lemmas.Bool.Decides.{nat_tests}
use Rattle.cga_order.specs.declared.placed.Placed.{Placed}
use Rattle.std.proofs.lemmas.Bool.{cases_Bool as either}
use Rattle.cga_derivation.specs.Derivation.{Derivation, IsDerivation, reached, derive, NothingWaits, IsDerived}
use Rattle.cga_derivation.proofs.Budget.{settled-reached}
use Rattle.cga_derivation.proofs.Derive.{says}

module _ {N A F P : Type 0} (derivation : Derivation N A F P) (laws : IsDerivation derivation) where
  same_end : (n m : ℕ) → NothingWaits derivation (reached derivation n) → NothingWaits derivation (reached derivation m)
      → reached derivation n ≡ reached derivation m
  same_end n m quiet_n quiet_m = elim (either (nat_lt n m)) [
    | inl t ↦
        let lt : n < m = grind (arith, nat_tests) in
        let gap : (m - n) + n ≡ m = omega arith in
        sym (settled-reached derivation n (m - n) quiet_n) ∙ ap (reached derivation) gap
    | inr t ↦
        let ge : m ≤ n = grind (arith, nat_tests) in
        let gap : (n - m) + m ≡ n = omega arith in
        sym (sym (settled-reached derivation m (n - m) quiet_m) ∙ ap (reached derivation) gap)
  ]

  -- two lists in which a derivation ends are equal
  pub one : (list other : List (Placed N F P)) → IsDerived derivation list → IsDerived derivation other → list ≡ other
  one list other (n, e, q) (m, f, r) = e ∙ (same_end n m (subst (NothingWaits derivation) e q) (subst (NothingWaits derivation) f r) ∙ sym f)

  -- what `derive` says of its answer
  abbrev pub Says : ℕ → Option (List (Placed N F P)) → Type 0
  Says budget answer =
      MatchOption answer
      ((n : ℕ) × (budget < length (reached derivation n)))
      (λ list. ((m : ℕ) → length (reached derivation m) ≤ budget) × ((n : ℕ) × (n ≤ budget) × (list ≡ reached derivation n) × NothingWaits derivation list))

  -- the list that a derivation gives within a budget is one in which it ends
  pub within : (budget : ℕ) (list : List (Placed N F P)) → derive derivation budget ≡ Some list
      → IsDerived derivation list
  within budget list e =
      let h : Says budget (Some list) = subst (Says budget) e (says derivation laws budget) in
      (h.1.0, h.1.2, h.1.3)
