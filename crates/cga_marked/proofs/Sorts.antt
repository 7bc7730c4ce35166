-- The number of the entries of a sort, as one slot changes.
use Rattle.std.proofs.Common.{◌≡◌, ◌≢◌, inl, inr, ℕ, zero, suc, ◌+◌, ◌≤◌, List, [], ◌∷◌, Bool, true, false, refl, ap, sym, ◌∙◌, arith, cond}
use Rattle.std.specs.Prelude.{Option, Some, None, is_some, slice_index_or}
use Rattle.cga_marked.specs.Count.{tally}
use Rattle.cga_marked.specs.Slab.{slot}
use Rattle.cga_marked.specs.Sorts.{sort_of, sorted}
use Rattle.cga_marked.specs.declared.sort.Sort.{Sort}
use Rattle.cga_marked.specs.declared.sort.Sort.TheVariants.{Other}
use Rattle.cga_marked.proofs.Count.{tally_mono, tally_same, tally_more}
use Rattle.cga_marked.proofs.Slots.{nat_cases}

tally_has : {X : Type 0} (p : Option X → Bool) → p None ≡ false → (xs : List (Option X)) (k : ℕ)
    → p (slice_index_or xs k None) ≡ true → 1 ≤ tally p xs
tally_has p pn [] k on = let z : false ≡ true = sym pn ∙ on in absurd (cc)
tally_has p pn (x ∷ xs) zero on = rw on (omega arith)
tally_has p pn (x ∷ xs) (suc k) on = let r = tally_has p pn xs k on in omega (arith, r)

-- one slot changes, of which it is told whether it passed and whether it does
module _ {X : Type 0} (p : Option X → Bool) (pn : p None ≡ false) (xs ys : List (Option X)) (k : ℕ) (others : (c : ℕ) → c ≢ k → slice_index_or ys c None ≡ slice_index_or xs c None) where
  as_many : p (slice_index_or ys k None) ≡ p (slice_index_or xs k None) → tally p ys ≡ tally p xs
  as_many same = tally_same p pn xs ys (λ c. elim (nat_cases c k) [
    | inl q ↦ ap (λ (i : ℕ). p (slice_index_or ys i None)) q ∙ same ∙ ap (λ (i : ℕ). p (slice_index_or xs i None)) (sym q)
    | inr n ↦ ap p (others c n)
  ])

  tally_step : (a b : Bool) → p (slice_index_or xs k None) ≡ a → p (slice_index_or ys k None) ≡ b
      → (cond a 1 0 ≤ tally p xs) × (tally p xs + cond b 1 0 ≡ tally p ys + cond a 1 0)
  tally_step true true was is = (tally_has p pn xs k was, (let e = as_many (is ∙ sym was) in omega (arith, e)))
  tally_step false false was is = (omega arith, (let e = as_many (is ∙ sym was) in omega (arith, e)))
  tally_step false true was is = (omega arith, (let e = tally_more p pn xs ys k was is (λ c n. ap p (others c n)) in omega (arith, e)))
  tally_step true false was is = (tally_has p pn xs k was, (let e = tally_more p pn ys xs k is was (λ c n. sym (ap p (others c n))) in omega (arith, e)))

module _ {E : Type 0} (sort : E → Sort) (test : Sort → Bool) (none : test Other ≡ false) where
  sorted_some : (s : Option E) → test (sort_of sort s) ≡ true → is_some s ≡ true
  sorted_some None on = let z : false ≡ true = sym none ∙ on in absurd (cc)
  sorted_some (Some e) on = refl

  pub few_sorted : (slots : List (Option E)) → sorted test sort slots ≤ tally is_some slots
  few_sorted slots = tally_mono (λ s. test (sort_of sort s)) is_some none slots slots refl (λ c on. sorted_some (slot slots c) on)

  -- lists whose slots are the same have as many of a sort
  pub sorted_same : (old now : List (Option E)) → ((c : ℕ) → slot now c ≡ slot old c)
      → sorted test sort now ≡ sorted test sort old
  sorted_same old now same = tally_same (λ s. test (sort_of sort s)) none old now (λ c. ap (λ s. test (sort_of sort s)) (same c))

  -- a number is right before the change of a slot
  pub recount : (old now : List (Option E)) (id : ℕ) → ((c : ℕ) → c ≢ id → slot now c ≡ slot old c) → (was is : Sort)
      → was ≡ sort_of sort (slot old id) → is ≡ sort_of sort (slot now id) → (n : ℕ) → n ≡ sorted test sort old
      → (cond (test was) 1 0 ≤ n) × (n + cond (test is) 1 0 ≡ sorted test sort now + cond (test was) 1 0)
  recount old now id others was is before after n right =
      let s = tally_step (λ s. test (sort_of sort s)) none old now id others (test was) (test is) (sym (ap test before)) (sym (ap test after)) in
      (omega (arith, right, s.0), omega (arith, right, s.1))

  -- and what is made of it is right after it
  pub sorted_from : (old now : List (Option E)) (id : ℕ) → ((c : ℕ) → c ≢ id → slot now c ≡ slot old c)
      → (was is : Sort) → was ≡ sort_of sort (slot old id) → is ≡ sort_of sort (slot now id)
      → (n : ℕ) → n ≡ sorted test sort old → (m : ℕ) → m + cond (test was) 1 0 ≡ n + cond (test is) 1 0
      → m ≡ sorted test sort now
  sorted_from old now id others was is before after n right m made =
      let r = recount old now id others was is before after n right in
      omega (arith, r.1, made)
