-- The answers of a shape at its own step, in a run of so many steps that nothing waits.
use Rattle.std.proofs.Common.{◌≡◌, ℕ, zero, suc, ◌+◌, ◌-◌, ◌≤◌, ◌<◌, false, sym, ap, ◌∙◌, subst, inl, inr, Some, arith}
use Rattle.std.specs.Prelude.{nat_lt}
use Rattle.std.proofs.lemmas.Bool.Decides.{nat_tests}
use Rattle.cga_order.specs.World.{Has}
use Rattle.cga_order.specs.declared.placed.Placed.{Placed}
use Rattle.cga_order.specs.declared.placed.Kind.TheVariants.{Waiting}
use Rattle.cga_derivation.proofs.Door.{first_of-Has, first_of-passes, settled-reached}
use Rattle.cga_order.proofs.Door.{waits}
use Rattle.std.proofs.lemmas.Bool.{and_parts as both, cases_Bool as either}
use Rattle.cga_derivation.specs.Derivation.{Derivation, is_next, next_of, asked, reached, NothingWaits}
use Rattle.cga_rework.specs.Touched.{Answered}
use Rattle.cga_rework.proofs.Runs.{AnsweredTo}
use Rattle.cga_fraction.proofs.Door.{lt_from_nat_lt}

module _ {N A F P : Type 0} (derivation : Derivation N A F P) where
  pub answered_at : (n : ℕ) (s : N) (a : A) → AnsweredTo derivation n s a → Answered derivation s a
  answered_at zero s a h = absurd h
  answered_at (suc n) s a h = elim h [ inl f ↦ (n, f.0, f.1, f.2, f.3) | inr r ↦ answered_at n s a r ]

  within : (n k : ℕ) → k < n → (s : N) (a : A) (m : Placed N F P) → next_of derivation (reached derivation k) ≡ Some m
      → m.shape ≡ s → asked derivation (reached derivation k) s ≡ a → AnsweredTo derivation n s a
  within zero k lt s a m e f g = absurd (omega (arith, lt))
  within (suc n) k lt s a m e f g = elim (either (nat_lt k n)) [
    | inl t ↦ inr (within n k (grind (arith, nat_tests)) s a m e f g)
    | inr t ↦
        let same : k ≡ n = last k n lt t in
        inl (m, subst (λ j. next_of derivation (reached derivation j) ≡ Some m) same e, f, subst (λ j. asked derivation (reached derivation j) s ≡ a) same g)
  ]
    where
      last : (i j : ℕ) → i < suc j → nat_lt i j ≡ false → i ≡ j
      last i j lt t = grind (arith, nat_tests)

  pub answered_by : (n : ℕ) → NothingWaits derivation (reached derivation n) → (s : N) (a : A) → Answered derivation s a
      → AnsweredTo derivation n s a
  answered_by n quiet s a (k, m, e, f, g) = elim (either (nat_lt k n)) [
    | inl t ↦ within n k (lt_from_nat_lt k n t) s a m e f g
    | inr t ↦
        let gap : (k - n) + n ≡ k = more k n t in
        let same : reached derivation k ≡ reached derivation n = ap (reached derivation) (sym gap) ∙ settled-reached derivation n (k - n) quiet in
        let passes = both _ _ (first_of-passes (is_next derivation (reached derivation k)) (reached derivation k) m e) in
        let here = waits (reached derivation k) m.shape m.kind (first_of-Has (is_next derivation (reached derivation k)) (reached derivation k) m e) passes.0 in
        absurd (quiet m.shape (subst (λ l. Has l m.shape Waiting) same here))
  ]
    where
      more : (i j : ℕ) → nat_lt i j ≡ false → (i - j) + j ≡ i
      more i j t = let le : j ≤ i = grind (arith, nat_tests) in omega arith
