-- Prefixes of two paths, compared by where the paths part.
use Rattle.std.proofs.Common.{◌≡◌, ℕ, zero, suc, ◌<◌, ◌≤◌, ◌≢◌, List, [], ◌∷◌, length, take, refl, sym, ap, ◌∙◌, ◌⊎◌, inl, inr, arith}
use Rattle.std.specs.Prelude.{slice_index}
use Rattle.std.specs.declared.cmp.Ordering.{Ordering}
use Rattle.std.specs.declared.cmp.Ordering.TheVariants.{Less, Equal, Greater}
use Rattle.std.specs.Ordering.{nat_cmp, ordering_then, MatchOrdering}
use Rattle.std.specs.Cmp.{nat_cmp_is, ranked}
use Rattle.std.specs.FinMap.{nat_cmp-IsAntisymmetric}
use Rattle.std.specs.Cmp.Lexicographic.{slice_cmp}
use Rattle.cga_fraction.proofs.Door.{nat_cmp-same}

-- where a number is below another, it compares as less
pub nat_cmp-less : (m n : ℕ) → m < n → nat_cmp m n ≡ Less
nat_cmp-less m n h = sym (nat_cmp_is m n Less h)

pub nat_cmp-greater : (m n : ℕ) → n < m → nat_cmp m n ≡ Greater
nat_cmp-greater m n h = sym (nat_cmp_is m n Greater h)

nat_cmp-suc : (m n : ℕ) → nat_cmp (suc m) (suc n) ≡ nat_cmp m n
nat_cmp-suc m n =
    let h = elim (nat_cmp m n) as (λ v. MatchOrdering v (m < n) (m ≡ n) (n < m) → MatchOrdering v (suc m < suc n) (suc m ≡ suc n) (suc n < suc m)) [
      | Less ↦ λ h. omega (arith, h)
      | Equal ↦ λ h. ap suc h
      | Greater ↦ λ h. omega (arith, h)
    ] (ranked m n (nat_cmp m n) refl) in
    sym (nat_cmp_is (suc m) (suc n) (nat_cmp m n) h)

heads_same : (x y : ℕ) (xs ys : List ℕ) → ◌≡◌ {A = List ℕ} (x ∷ xs) (y ∷ ys) → (x ≡ y) × (xs ≡ ys)
heads_same x y xs ys e = (cc, cc)

-- up to where the paths part, the shorter prefix is the earlier
pub slice_cmp-within : (common : ℕ) (xs ys : List ℕ) (i j : ℕ) → take common xs ≡ take common ys → i ≤ length xs
    → j ≤ length ys → (i ≤ common) ⊎ (j ≤ common) → slice_cmp nat_cmp (take i xs) (take j ys) ≡ nat_cmp i j
slice_cmp-within common xs ys zero zero same left right within = refl
slice_cmp-within common xs [] zero (suc j) same left right within = absurd (omega arith)
slice_cmp-within common xs (y ∷ ys) zero (suc j) same left right within = sym (nat_cmp-less 0 (suc j) (omega arith))
slice_cmp-within common [] ys (suc i) zero same left right within = absurd (omega arith)
slice_cmp-within common (x ∷ xs) ys (suc i) zero same left right within = sym (nat_cmp-greater (suc i) 0 (omega arith))
slice_cmp-within common [] ys (suc i) (suc j) same left right within = absurd (omega arith)
slice_cmp-within common (x ∷ xs) [] (suc i) (suc j) same left right within = absurd (omega arith)
slice_cmp-within zero (x ∷ xs) (y ∷ ys) (suc i) (suc j) same left right within = elim within [ inl h ↦ absurd (omega (arith, h)) | inr h ↦ absurd (omega (arith, h)) ]
slice_cmp-within (suc common) (x ∷ xs) (y ∷ ys) (suc i) (suc j) same left right within =
    let heads = heads_same x y (take common xs) (take common ys) same in
    let tails = slice_cmp-within common xs ys i j heads.1 (omega (arith, left)) (omega (arith, right)) (elim within [ inl h ↦ inl (omega (arith, h)) | inr h ↦ inr (omega (arith, h)) ]) in
    ap (λ c. ordering_then c (slice_cmp nat_cmp (take i xs) (take j ys))) (nat_cmp-same x y heads.0) ∙ (tails ∙ sym (nat_cmp-suc i j))

-- the first, where it decides
pub then_decided : (a b : Ordering) → (a ≡ Equal → ⊥) → ordering_then a b ≡ a
then_decided Less b h = refl
then_decided Equal b h = absurd (h refl)
then_decided Greater b h = refl

-- past that, the first elements that differ decide
pub slice_cmp-past : (common : ℕ) (xs ys : List ℕ) (i j : ℕ) → take common xs ≡ take common ys → i ≤ length xs
    → j ≤ length ys → common < i → common < j → slice_index xs common ≢ slice_index ys common
    → slice_cmp nat_cmp (take i xs) (take j ys) ≡ nat_cmp (slice_index xs common) (slice_index ys common)
slice_cmp-past common xs ys zero j same left right past_i past_j differ = absurd (omega arith)
slice_cmp-past common xs ys (suc i) zero same left right past_i past_j differ = absurd (omega arith)
slice_cmp-past common [] ys (suc i) (suc j) same left right past_i past_j differ = absurd (omega arith)
slice_cmp-past common (x ∷ xs) [] (suc i) (suc j) same left right past_i past_j differ = absurd (omega arith)
slice_cmp-past zero (x ∷ xs) (y ∷ ys) (suc i) (suc j) same left right past_i past_j differ =
    then_decided (nat_cmp x y) _ (λ e. differ (nat_cmp-IsAntisymmetric x y e))
slice_cmp-past (suc common) (x ∷ xs) (y ∷ ys) (suc i) (suc j) same left right past_i past_j differ =
    let heads = heads_same x y (take common xs) (take common ys) same in
    ap (λ c. ordering_then c (slice_cmp nat_cmp (take i xs) (take j ys))) (nat_cmp-same x y heads.0)
    ∙ slice_cmp-past common xs ys i j heads.1 (omega (arith, left)) (omega (arith, right)) (omega (arith, past_i)) (omega (arith, past_j)) differ
