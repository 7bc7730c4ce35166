-- Members of lists, and tests of them.
use Rattle.std.proofs.Common.{◌≡◌, ℕ, zero, suc, ◌≤◌, List, [], ◌∷◌, Bool, true, false, not, ◌||◌, refl, ap, sym, ◌∙◌, subst, ◌⊎◌, inl, inr, arith}
use Rattle.std.specs.List.{list_any}
use Rattle.cga_order.specs.World.{Has, Among}
use Rattle.cga_order.specs.declared.placed.Placed.{Placed}
use Rattle.cga_order.specs.declared.placed.Kind.{Kind}
use Rattle.cga_touched.specs.Count.{passes_to}
use Rattle.cga_touched.proofs.Words.{not_so, both, pair}
pub use Rattle.std.proofs.lemmas.Bool.{cases_Bool as decide, not_from_false as is_not}
pub use Rattle.cga_fraction.proofs.Door.{false_from_not as is_false, true-and-false as not_both}

module _ {X : Type 0} where
  -- an element that passes
  pub any_found : (test : X → Bool) (xs : List X) → list_any test xs ≡ true → (x : X) × Among x xs × (test x ≡ true)
  any_found test [] h = not_so h
  any_found test (x ∷ xs) h = by (any_found test xs) (test x) refl h
    where
      by : (list_any test xs ≡ true → (y : X) × Among y xs × (test y ≡ true)) → (b : Bool) → test x ≡ b
          → (b || list_any test xs) ≡ true → (y : X) × Among y (x ∷ xs) × (test y ≡ true)
      by more true e g = (x, inl refl, e)
      by more false e g = let w = more g in (w.0, inr w.1, w.2)

  pub any_by : (test : X → Bool) (xs : List X) (x : X) → Among x xs → test x ≡ true → list_any test xs ≡ true
  any_by test [] x h t = absurd h
  any_by test (y ∷ xs) x h t = elim h [
    | inl e ↦ ap (λ b. b || list_any test xs) (ap test e ∙ t)
    | inr r ↦ later (test y) (any_by test xs x r t)
  ]
    where
      later : (b : Bool) → list_any test xs ≡ true → (b || list_any test xs) ≡ true
      later true e = refl
      later false e = e

module _ {N F P : Type 0} where
  pub Among-Has : (ms : List (Placed N F P)) (m : Placed N F P) → Among m ms → Has ms m.shape m.kind
  Among-Has [] m h = h
  Among-Has (x ∷ ms) m h = elim h [ inl e ↦ inl (ap (λ y. y.shape) e, ap (λ y. y.kind) e) | inr r ↦ inr (Among-Has ms m r) ]

  pub Has-Among : (ms : List (Placed N F P)) (n : N) (k : Kind F P) → Has ms n k
      → Among (record { shape = n; kind = k }) ms
  Has-Among [] n k h = h
  Has-Among (x ∷ ms) n k h = elim h [ inl e ↦ inl (λ i. record { shape = e.0 i; kind = e.1 i }) | inr r ↦ inr (Has-Among ms n k r) ]

-- ---- each number up to one

pub passes_at : (test : ℕ → Bool) (n : ℕ) → passes_to test n ≡ true → (i : ℕ) → i ≤ n → test i ≡ true
passes_at test zero h i le = let e : 0 ≡ i = omega (arith, le) in subst (λ j. test j ≡ true) e h
passes_at test (suc n) h i le =
    let w = both (test (suc n)) (passes_to test n) h in
    elim (at_or_below i n le) [ inl e ↦ subst (λ j. test j ≡ true) (sym e) w.0 | inr l ↦ passes_at test n w.1 i l ]
  where
    at_or_below : (i n : ℕ) → i ≤ suc n → (i ≡ suc n) ⊎ (i ≤ n)
    at_or_below i n le = grind arith

pub passes_all : (test : ℕ → Bool) (n : ℕ) → ((i : ℕ) → i ≤ n → test i ≡ true) → passes_to test n ≡ true
passes_all test zero h = h 0 (omega arith)
passes_all test (suc n) h =
    pair (test (suc n)) (passes_to test n) (h (suc n) (omega arith)) (passes_all test n (λ i le. let l : i ≤ suc n = omega (arith, le) in h i l))
