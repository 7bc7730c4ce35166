-- Facts of lists, and of texts byte by byte, that the standard library lacks. No word of this project stands here.
use Rattle.std.proofs.Common.{◌≡◌, ◌∙◌, ◌+◌, ◌++◌, ◌∷◌, [], List, Some, true, false, ap, arith, map, refl, sym, suc, zero, ℕ, nat_eq}
use Rattle.std.specs.List.{Contains}
use Rattle.std.specs.Prelude.{bytes_eq, option_map, slice_get, sum_by}
use Rattle.std.proofs.lemmas.Bool.{false_from_ne_true}
use Rattle.std.proofs.lemmas.List.Sums.{sum_by-cons}
use Rattle.std.proofs.lemmas.Option.{slice_get-get_or, slice_get-map}
use Rattle.std.proofs.lemmas.Slice.Eq.{bytes_eq-Decides}
use lib.Pointwise.{pointwise, bytes_decides}
use Rattle.cga_fraction.proofs.Facts.{None-not-Some, same_from_both_ways}

-- two texts differ either way round
pub bytes_eq-false_back : (a b : List ℕ) → bytes_eq a b ≡ false → bytes_eq b a ≡ false
bytes_eq-false_back a b e = false_from_ne_true (bytes_eq b a) (λ t. let q : true ≡ false = sym ((bytes_eq-Decides a b).1 (sym ((bytes_eq-Decides b a).0 t))) ∙ e in cc)

-- an element that a list contains stands at some index
pub slice_get_from_Contains : {X : Type 0} (xs : List X) (x : X) → Contains xs x → (i : ℕ) × (slice_get xs i ≡ Some x)
slice_get_from_Contains xs x h = (h.0, slice_get-get_or xs h.0 x h.1 ∙ ap Some h.2)

-- an element at an index of the first list stands there in both joined
pub slice_get-append_left : {X : Type 0} (xs ys : List X) (i : ℕ) (x : X) → slice_get xs i ≡ Some x
    → slice_get (xs ++ ys) i ≡ Some x
slice_get-append_left [] ys i x e = None-not-Some x e
slice_get-append_left (z ∷ xs) ys zero x e = e
slice_get-append_left (z ∷ xs) ys (suc i) x e = slice_get-append_left xs ys i x e

-- the image of an element at an index stands there in the mapped list
pub slice_get-map_Some : {X Y : Type 0} (f : Y → X) (ys : List Y) (i : ℕ) (y : Y) → slice_get ys i ≡ Some y
    → slice_get (map f ys) i ≡ Some (f y)
slice_get-map_Some f ys i y e = slice_get-map f ys i ∙ ap (option_map f) e

-- a sum of zeros is 0
pub sum_by-zeros : {X : Type 0} (xs : List X) → sum_by (λ (x : X). 0) xs ≡ 0
sum_by-zeros [] = refl
sum_by-zeros {X = X} (x ∷ xs) = let a = sum_by-cons (λ (x : X). 0) x xs in let b = sum_by-zeros xs in omega (arith, a, b)

-- a sum of sums of two is the two sums together
pub sum_by-plus : {X : Type 0} (f g : X → ℕ) (xs : List X)
    → sum_by (λ (x : X). f x + g x) xs ≡ sum_by f xs + sum_by g xs
sum_by-plus f g [] = refl
sum_by-plus {X = X} f g (x ∷ xs) =
    let a = sum_by-cons (λ (x : X). f x + g x) x xs in
    let b = sum_by-cons f x xs in
    let c = sum_by-cons g x xs in
    let d = sum_by-plus f g xs in
    omega (arith, a, b, c, d)

-- texts that are equal byte by byte are equal
pub eq_from_pointwise : (a b : List ℕ) → pointwise nat_eq a b ≡ true → a ≡ b
eq_from_pointwise a b h = (bytes_decides a b).0 h

-- a text is equal to itself byte by byte
pub pointwise-same : (a : List ℕ) → pointwise nat_eq a a ≡ true
pointwise-same a = (bytes_decides a a).1 refl

-- two texts are equal byte by byte either way round, or neither
pub pointwise-order : (a b : List ℕ) → pointwise nat_eq a b ≡ pointwise nat_eq b a
pointwise-order a b = same_from_both_ways (pointwise nat_eq a b) (pointwise nat_eq b a)
    (λ h. (bytes_decides b a).1 (sym (eq_from_pointwise a b h))) (λ h. (bytes_decides a b).1 (sym (eq_from_pointwise b a h)))
