-- Two lists compared as far as a place, and one place further.
use Rattle.std.proofs.Common.{◌≡◌, ℕ, zero, suc, ◌+◌, ◌<◌, Bool, true, false, ◌&&◌, List, [], ◌∷◌, length, take, nat_eq, refl, ap, ◌∙◌, arith, slice_index_or}
use lib.Pointwise.{pointwise}

and_true : (a : Bool) → (a && true) ≡ a
and_true true = refl
and_true false = refl

and_first : (a b c : Bool) → (a && (b && c)) ≡ ((a && b) && c)
and_first true b c = refl
and_first false b c = refl

further : (xs ys : List ℕ) (k : ℕ) → k < length xs → k < length ys
    → pointwise nat_eq (take (suc k) xs) (take (suc k) ys)
    ≡ (pointwise nat_eq (take k xs) (take k ys) && nat_eq (slice_index_or xs k 0) (slice_index_or ys k 0))
further [] ys k h w = absurd (omega (arith, h))
further (x ∷ xs) [] k h w = absurd (omega (arith, w))
further (x ∷ xs) (y ∷ ys) zero h w = and_true (nat_eq x y)
further (x ∷ xs) (y ∷ ys) (suc k) h w =
    ap (λ t. nat_eq x y && t) (further xs ys k (omega (arith, h)) (omega (arith, w)))
    ∙ and_first (nat_eq x y) (pointwise nat_eq (take k xs) (take k ys)) (nat_eq (slice_index_or xs k 0) (slice_index_or ys k 0))

pub one_further : (xs ys : List ℕ) (k : ℕ) → k < length xs → k < length ys
    → pointwise nat_eq (take (k + 1) xs) (take (k + 1) ys)
    ≡ (pointwise nat_eq (take k xs) (take k ys) && nat_eq (slice_index_or xs k 0) (slice_index_or ys k 0))
one_further xs ys k h w = let next : k + 1 ≡ suc k = omega arith in rw next (further xs ys k h w)
