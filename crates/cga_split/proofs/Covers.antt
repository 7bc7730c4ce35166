-- Rising cuts cover.
use Rattle.std.proofs.Common.{◌≡◌, ℕ, subst, zero, suc, List, [], ◌∷◌, refl, ap, inl, inr}
use Rattle.std.specs.Prelude.{IsTrue, slice_get, Some}
use Rattle.cga_fraction.specs.Rat.{Rat, zero_rat}
use Rattle.cga_fraction.specs.Order.{rat_le, rat_lt}
use Rattle.cga_split.specs.Cuts.{neighbours, Between, StrictlyBetween, Cover}
use Rattle.cga_fraction.proofs.Door.{le_refl, le_total, le_trans, lt_asym, lt_of_le_lt}

-- each cut is at most the next
abbrev pub Rises : Rat → List Rat → Type 0
Rises c [] = Unit {0}
Rises c (d ∷ ds) = IsTrue (rat_le c d) × Rises d ds

abbrev pub last_of : Rat → List Rat → Rat
last_of c [] = c
last_of c (d ∷ ds) = last_of d ds

first_below_last : (c : Rat) (ds : List Rat) → Rises c ds → IsTrue (rat_le c (last_of c ds))
first_below_last c [] r = le_refl c
first_below_last c (d ∷ ds) r = le_trans c d (last_of d ds) r.0 (first_below_last d ds r.1)

Found : Rat → List (Rat × Rat) → Type 0
Found x ps = (i : ℕ) × (p : Rat × Rat) × (slice_get ps i ≡ Some p) × Between x p

find_in : (x c d : Rat) (ds : List Rat) → Rises c (d ∷ ds) → IsTrue (rat_le c x) → IsTrue (rat_le x (last_of d ds))
    → Found x (neighbours (c ∷ d ∷ ds))
unfolding Found
find_in x c d [] r h k = (0, (c, d), refl, (h, k))
find_in x c d (e ∷ ds) r h k =
    elim (le_total x d) [
      | inl below ↦ (0, (c, d), refl, (h, below))
      | inr above ↦ let f = find_in x d e ds r.1 above k in (suc f.0, f.1, f.2, f.3)
    ]

within : (x c : Rat) (ds : List Rat) → Rises c ds → (i : ℕ) (p : Rat × Rat) → slice_get (neighbours (c ∷ ds)) i ≡ Some p
    → Between x p → IsTrue (rat_le c x) × IsTrue (rat_le x (last_of c ds))
within x c [] r i p e b = absurd (cc)
within x c (d ∷ ds) r zero p e b =
    let q : ◌≡◌ {A = Rat × Rat} p (c, d) = cc in
    let g = subst (λ (w : Rat × Rat). Between x w) q b in
    (g.0, le_trans x d (last_of d ds) g.1 (first_below_last d ds r.1))
within x c (d ∷ ds) r (suc i) p e b =
    let w = within x d ds r.1 i p e b in (le_trans c d x r.0 w.0, w.1)

strictly_within : (x c : Rat) (ds : List Rat) → Rises c ds → (i : ℕ) (p : Rat × Rat)
    → slice_get (neighbours (c ∷ ds)) i ≡ Some p → StrictlyBetween x p → IsTrue (rat_lt c x)
strictly_within x c [] r i p e b = absurd (cc)
strictly_within x c (d ∷ ds) r zero p e b =
    let q : ◌≡◌ {A = Rat × Rat} p (c, d) = cc in
    let g = subst (λ (w : Rat × Rat). StrictlyBetween x w) q b in g.0
strictly_within x c (d ∷ ds) r (suc i) p e b = lt_of_le_lt c d x r.0 (strictly_within x d ds r.1 i p e b)

alone : (x c : Rat) (ds : List Rat) → Rises c ds → (i j : ℕ) (p q : Rat × Rat)
    → slice_get (neighbours (c ∷ ds)) i ≡ Some p → slice_get (neighbours (c ∷ ds)) j ≡ Some q → StrictlyBetween x p
    → StrictlyBetween x q → i ≡ j
alone x c [] r i j p q e f a b = absurd (cc)
alone x c (d ∷ ds) r zero zero p q e f a b = refl
alone x c (d ∷ ds) r zero (suc j) p q e f a b =
    let w : ◌≡◌ {A = Rat × Rat} p (c, d) = cc in
    let g = subst (λ (w : Rat × Rat). StrictlyBetween x w) w a in
    absurd (lt_asym d x (strictly_within x d ds r.1 j q f b) g.1)
alone x c (d ∷ ds) r (suc i) zero p q e f a b =
    let w : ◌≡◌ {A = Rat × Rat} q (c, d) = cc in
    let g = subst (λ (w : Rat × Rat). StrictlyBetween x w) w b in
    absurd (lt_asym d x (strictly_within x d ds r.1 i p e a) g.1)
alone x c (d ∷ ds) r (suc i) (suc j) p q e f a b = ap suc (alone x d ds r.1 i j p q e f a b)

-- cuts that rise from 0 to the size cover it
pub covers : (c d : Rat) (ds : List Rat) (size : Rat) → IsTrue (rat_le c zero_rat) → IsTrue (rat_le zero_rat c)
    → Rises c (d ∷ ds) → IsTrue (rat_le (last_of d ds) size) → IsTrue (rat_le size (last_of d ds))
    → Cover (c ∷ d ∷ ds) size
unfolding Found
covers c d ds size h k r m n = record {
  everywhere = λ x. (
    (λ w. find_in x c d ds r (le_trans c zero_rat x h w.0) (le_trans x size (last_of d ds) w.1 n)),
    (λ f. let w = within x c (d ∷ ds) r f.0 f.1 f.2 f.3 in (le_trans zero_rat c x k w.0, le_trans x (last_of d ds) size w.1 m)),
  );
  apart = λ x i j p q e f a b. alone x c (d ∷ ds) r i j p q e f a b;
}
