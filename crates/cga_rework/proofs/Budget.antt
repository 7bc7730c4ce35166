-- How many members a derivation comes to.
use Rattle.std.proofs.Common.{◌≡◌, ℕ, ◌+◌, ◌-◌, ◌≤◌, ◌<◌, ◌⊎◌, List, length, refl, sym, ap, ◌∙◌, subst, inl, inr, Option, Some, None, arith}
use Rattle.std.specs.Prelude.{nat_lt}
use Rattle.std.proofs.lemmas.Bool.Decides.{nat_tests}
use Rattle.cga_order.specs.declared.placed.Placed.{Placed}
use Rattle.cga_derivation.proofs.Door.{Says, reached-longer, says, settled-reached}
use Rattle.std.proofs.lemmas.Bool.{cases_Bool as either}
use Rattle.cga_derivation.specs.Derivation.{Derivation, IsDerivation, reached, derive, NothingWaits}

module _ {N A F P : Type 0} (derivation : Derivation N A F P) (laws : IsDerivation derivation) where
  pub derived_or_none : (budget : ℕ)
      → (derive derivation budget ≡ None)
      ⊎ (((m : ℕ) → length (reached derivation m) ≤ budget)
      × ((n : ℕ) × NothingWaits derivation (reached derivation n)))
  derived_or_none budget = by (derive derivation budget) refl (says derivation laws budget)
    where
      by : (o : Option (List (Placed N F P))) → derive derivation budget ≡ o → Says derivation laws budget o
          → (derive derivation budget ≡ None)
          ⊎ (((m : ℕ) → length (reached derivation m) ≤ budget)
          × ((n : ℕ) × NothingWaits derivation (reached derivation n)))
      by None e h = inl e
      by (Some list) e h = inr (h.0, (h.1.0, subst (NothingWaits derivation) h.1.2 h.1.3))

  module _ (n : ℕ) (settled : NothingWaits derivation (reached derivation n)) where
    longest : (m : ℕ) → length (reached derivation m) ≤ length (reached derivation n)
    longest m = elim (either (nat_lt m n)) [
      | inl t ↦
          let lt : m < n = grind (arith, nat_tests) in
          let gap : (n - m) + m ≡ n = omega arith in
          subst (λ j. length (reached derivation m) ≤ length (reached derivation j)) gap (reached-longer derivation m (n - m))
      | inr t ↦
          let ge : n ≤ m = grind (arith, nat_tests) in
          let gap : (m - n) + n ≡ m = omega arith in
          let same : length (reached derivation m) ≡ length (reached derivation n) = ap (λ j. length (reached derivation j)) (sym gap) ∙ ap length (settled-reached derivation n (m - n) settled) in
          omega (arith, same)
    ]

    pub over_to : (budget : ℕ) → derive derivation budget ≡ None → budget < length (reached derivation n)
    over_to budget none =
        let h : Says derivation laws budget None = subst (Says derivation laws budget) none (says derivation laws budget) in
        let long = longest h.0 in
        let more = h.1 in
        omega (arith, long, more)

    pub over_from : (budget : ℕ) → budget < length (reached derivation n) → derive derivation budget ≡ None
    over_from budget lt = elim (derived_or_none budget) [
      | inl none ↦ none
      | inr (all, w) ↦ let le = all n in absurd (omega (arith, le, lt))
    ]
