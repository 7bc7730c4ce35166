-- Lists that stand one behind the other, and lists of what passes a test.
use Rattle.std.proofs.Common.{◌≡◌, ℕ, zero, suc, ◌+◌, List, [], ◌∷◌, ◌++◌, length, filter, Bool, true, false, cond, refl, sym, ap, ◌∙◌, subst, inl, inr, Some, arith}
use Rattle.std.specs.Prelude.{slice_get}
use Rattle.std.proofs.lemmas.Bool.{cases_Bool as either}
use Rattle.cga_order.specs.World.{Has}
use Rattle.cga_order.specs.declared.placed.Placed.{Placed}
use Rattle.cga_order.specs.declared.placed.Kind.{Kind}

module _ {X : Type 0} where
  pub get-right : (xs ys : List X) (i j : ℕ) (y : X) → slice_get ys j ≡ Some y → i ≡ length xs + j
      → slice_get (xs ++ ys) i ≡ Some y
  get-right [] ys i j y e q = let same : i ≡ j = omega (arith, q) in ap (slice_get ys) same ∙ e
  get-right (z ∷ xs) ys zero j y e q = absurd (omega (arith, q))
  get-right (z ∷ xs) ys (suc i) j y e q = get-right xs ys i j y e (omega (arith, q))

module _ {N F P : Type 0} (test : N → Bool) where
  abbrev passing : List (Placed N F P) → List (Placed N F P)
  passing xs = filter (λ m. test m.shape) xs

  pub Has-filter : (xs : List (Placed N F P)) (n : N) (k : Kind F P) → Has xs n k → test n ≡ true → Has (passing xs) n k
  Has-filter [] n k h e = absurd h
  Has-filter (x ∷ xs) n k h e = elim h [
    | inl w ↦ subst (λ l. Has l n k) (sym (ap (λ b. cond b (x ∷ passing xs) (passing xs)) (ap test w.0 ∙ e))) (inl w)
    | inr r ↦ elim (test x.shape) as (λ b. Has (cond b (x ∷ passing xs) (passing xs)) n k) [
      | true ↦ inr (Has-filter xs n k r e)
      | false ↦ Has-filter xs n k r e
    ]
  ]

  pub filter-Has : (xs : List (Placed N F P)) (n : N) (k : Kind F P) → Has (passing xs) n k
      → Has xs n k × (test n ≡ true)
  filter-Has [] n k h = absurd h
  filter-Has (x ∷ xs) n k h = elim (either (test x.shape)) [
    | inl t ↦ elim (subst (λ l. Has l n k) (ap (λ b. cond b (x ∷ passing xs) (passing xs)) t) h) [
      | inl w ↦ (inl w, ap test (sym w.0) ∙ t)
      | inr r ↦ let w = filter-Has xs n k r in (inr w.0, w.1)
    ]
    | inr f ↦ let w = filter-Has xs n k (subst (λ l. Has l n k) (ap (λ b. cond b (x ∷ passing xs) (passing xs)) f) h) in (inr w.0, w.1)
  ]

  -- where all pass, none is left out
  pub filter_all : (xs : List (Placed N F P)) → ((n : N) (k : Kind F P) → Has xs n k → test n ≡ true) → passing xs ≡ xs
  filter_all [] h = refl
  filter_all (x ∷ xs) h = ap (λ b. cond b (x ∷ passing xs) (passing xs)) (h x.shape x.kind (inl (refl, refl))) ∙ ap (λ l. x ∷ l) (filter_all xs (λ n k g. h n k (inr g)))
