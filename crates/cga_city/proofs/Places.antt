-- Who stands in a list after one went, came or was set.
use Rattle.std.proofs.Common.{◌≡◌, ℕ, zero, suc, List, [], ◌∷◌, ◌++◌, length, Option, Some, None, slice_get, refl, sym, ap, ◌∙◌, arith}
use Rattle.std.specs.Prelude.{remove, slice_set}

-- each member of the first list but the one at p stands in the second at a place other than q
abbrev pub Kept : {X : Type 0} → List X → Option ℕ → List X → Option ℕ → Type 0
Kept {X} xs p ys q =
    (i : ℕ) (x : X) → slice_get xs i ≡ Some x → (p ≡ Some i → ⊥)
    → (j : ℕ) × (slice_get ys j ≡ Some x) × (q ≡ Some j → ⊥)

pub all_kept : {X : Type 0} (xs : List X) → Kept xs None xs None
all_kept xs i x at other = (i, at, (λ e. cc))

-- ---- one in the place of another

get_set : {X : Type 0} (xs : List X) (i j : ℕ) (x : X) → (i ≡ j → ⊥)
    → slice_get (slice_set xs i x) j ≡ slice_get xs j
get_set [] zero j x apart = refl
get_set [] (suc i) j x apart = refl
get_set (y ∷ ys) zero zero x apart = absurd (apart refl)
get_set (y ∷ ys) zero (suc j) x apart = refl
get_set (y ∷ ys) (suc i) zero x apart = refl
get_set (y ∷ ys) (suc i) (suc j) x apart = get_set ys i j x (λ e. apart (ap suc e))

pub set_kept : {X : Type 0} (xs : List X) (i : ℕ) (x : X) → Kept xs (Some i) (slice_set xs i x) (Some i)
set_kept xs i x j y at other = (j, get_set xs i j x (λ e. other (ap Some e)) ∙ at, other)

pub kept_set : {X : Type 0} (xs : List X) (i : ℕ) (x : X) → Kept (slice_set xs i x) (Some i) xs (Some i)
kept_set xs i x j y at other = (j, sym (get_set xs i j x (λ e. other (ap Some e))) ∙ at, other)

-- one that stands at the place already
pub set_same : {X : Type 0} (xs : List X) (i : ℕ) (x : X) → slice_get xs i ≡ Some x → slice_set xs i x ≡ xs
set_same {X} [] i x at = absurd (cc)
set_same {X} (y ∷ ys) zero x at = let e : y ≡ x = (cc) in ap (λ (z : X). z ∷ ys) (sym e)
set_same {X} (y ∷ ys) (suc i) x at = ap (λ (zs : List X). y ∷ zs) (set_same ys i x at)

-- ---- one behind all others

get_more : {X : Type 0} (xs : List X) (x : X) (j : ℕ) (y : X) → slice_get xs j ≡ Some y
    → (slice_get (xs ++ x ∷ []) j ≡ Some y) × (length xs ≡ j → ⊥)
get_more [] x j y at = absurd (cc)
get_more (z ∷ zs) x zero y at = (at, (λ e. absurd (omega (arith, e))))
get_more (z ∷ zs) x (suc j) y at = let w = get_more zs x j y at in (w.0, (λ e. w.1 (omega (arith, e))))

get_less : {X : Type 0} (xs : List X) (x : X) (j : ℕ) (y : X) → slice_get (xs ++ x ∷ []) j ≡ Some y
    → (length xs ≡ j → ⊥) → slice_get xs j ≡ Some y
get_less [] x zero y at other = absurd (other refl)
get_less [] x (suc j) y at other = absurd (cc)
get_less (z ∷ zs) x zero y at other = at
get_less (z ∷ zs) x (suc j) y at other = get_less zs x j y at (λ e. other (ap suc e))

same_number : (i j : ℕ) → Some i ≡ Some j → i ≡ j
same_number i j e = cc

pub more_kept : {X : Type 0} (xs : List X) (x : X) → Kept xs None (xs ++ x ∷ []) (Some (length xs))
more_kept xs x j y at other = let w = get_more xs x j y at in (j, w.0, (λ e. w.1 (same_number (length xs) j e)))

pub kept_more : {X : Type 0} (xs : List X) (x : X) → Kept (xs ++ x ∷ []) (Some (length xs)) xs None
kept_more xs x j y at other = (j, get_less xs x j y at (λ e. other (ap Some e)), (λ e. cc))

-- ---- without one

get_without : {X : Type 0} (xs : List X) (i j : ℕ) (y : X) → slice_get xs j ≡ Some y → (i ≡ j → ⊥)
    → (k : ℕ) × (slice_get (remove xs i) k ≡ Some y)
get_without [] zero j y at other = absurd (cc)
get_without [] (suc i) j y at other = absurd (cc)
get_without (z ∷ zs) zero zero y at other = absurd (other refl)
get_without (z ∷ zs) zero (suc j) y at other = (j, at)
get_without (z ∷ zs) (suc i) zero y at other = (zero, at)
get_without (z ∷ zs) (suc i) (suc j) y at other = let w = get_without zs i j y at (λ e. other (ap suc e)) in (suc w.0, w.1)

get_again : {X : Type 0} (xs : List X) (i j : ℕ) (y : X) → slice_get (remove xs i) j ≡ Some y
    → (k : ℕ) × (slice_get xs k ≡ Some y) × (i ≡ k → ⊥)
get_again [] zero j y at = absurd (cc)
get_again [] (suc i) j y at = absurd (cc)
get_again (z ∷ zs) zero j y at = (suc j, at, (λ e. absurd (omega (arith, e))))
get_again (z ∷ zs) (suc i) zero y at = (zero, at, (λ e. absurd (omega (arith, e))))
get_again (z ∷ zs) (suc i) (suc j) y at = let w = get_again zs i j y at in (suc w.0, w.1, (λ e. w.2 (omega (arith, e))))

pub less_kept : {X : Type 0} (xs : List X) (i : ℕ) → Kept xs (Some i) (remove xs i) None
less_kept xs i j y at other = let w = get_without xs i j y at (λ e. other (ap Some e)) in (w.0, w.1, (λ e. cc))

pub kept_less : {X : Type 0} (xs : List X) (i : ℕ) → Kept (remove xs i) None xs (Some i)
kept_less xs i j y at other = let w = get_again xs i j y at in (w.0, w.1, (λ e. w.2 (same_number i w.0 e)))
