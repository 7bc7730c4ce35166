-- The sums of lists of instances.
use Rattle.std.proofs.Common.{◌≡◌, ℕ, suc, List, [], ◌∷◌, ◌++◌, length, refl, sym, ◌∙◌, ap, arith, Bool, false, cond, subst, length-append}
use Rattle.std.specs.Prelude.{◌==◌, Some, unwrap_or}
use Rattle.std.specs.List.{filter}
use Rattle.std.proofs.lemmas.Grind.{common_steps}
use Rattle.std.proofs.lemmas.List.Sums.{length-filter, sum_by-append}
use Rattle.cga_shape.specs.declared.drawn.Drawn.{Drawn}
use Rattle.cga_bill.specs.Amounts.{Holds, minus_sums, no_sums, plus_sums}
use Rattle.cga_bill.specs.Bill.{front_of, is_unmeasured, sums_of, sums_or_none, volume_of}
use Rattle.cga_bill.specs.Lines.{left}
use Rattle.cga_bill.specs.declared.sums.Sums.{Sums}
use Rattle.cga_bill.proofs.Counts.{SameCounts, filtered_same}

pub sums_path : (a b : Sums) → a.number ≡ b.number → a.front ≡ b.front → a.volume ≡ b.volume
    → a.unmeasured ≡ b.unmeasured → a ≡ b
sums_path a b p q r s = λ i. record { number = p i; front = q i; volume = r i; unmeasured = s i }

one_if : Drawn → ℕ
one_if d = cond (is_unmeasured d) 1 0

-- how many pass, as a sum
length_passed : (p : Drawn → Bool) (xs ys : List Drawn) → SameCounts xs ys → length (filter p xs) ≡ length (filter p ys)
length_passed p xs ys h = length-filter p xs ∙ (h p ∙ sym (length-filter p ys))

pub same_sums : (p : Drawn → Bool) (xs ys : List Drawn) → SameCounts xs ys
    → sums_of (filter p xs) ≡ sums_of (filter p ys)
same_sums p xs ys h =
    sums_path (sums_of (filter p xs)) (sums_of (filter p ys)) (length_passed p xs ys h)
    (filtered_same front_of p xs ys h) (filtered_same volume_of p xs ys h)
    (filtered_same (λ (d : Drawn). cond (is_unmeasured d) 1 0) p xs ys h)

pub none_alike : (xs ys : List Drawn) → sums_of xs ≡ sums_of ys → sums_or_none xs ≡ sums_or_none ys
none_alike [] [] h = refl
none_alike [] (y ∷ ys) h = let n : 0 ≡ length (y ∷ ys) = ap (λ (s : Sums). s.number) h in absurd (omega (arith, n))
none_alike (x ∷ xs) [] h = let n : length (x ∷ xs) ≡ 0 = ap (λ (s : Sums). s.number) h in absurd (omega (arith, n))
none_alike (x ∷ xs) (y ∷ ys) h = ap (λ (s : Sums). Some s) h

pub sums_append : (xs ys : List Drawn) → sums_of (xs ++ ys) ≡ plus_sums (sums_of xs) (sums_of ys)
sums_append xs ys =
    sums_path (sums_of (xs ++ ys)) (plus_sums (sums_of xs) (sums_of ys)) (length-append xs ys) (sum_by-append front_of xs ys) (sum_by-append volume_of xs ys)
    (sum_by-append (λ (d : Drawn). cond (is_unmeasured d) 1 0) xs ys)

-- the sums of no instance are nothing
pub found_or_nothing : (xs : List Drawn) → unwrap_or (sums_or_none xs) no_sums ≡ sums_of xs
found_or_nothing [] = refl
found_or_nothing (x ∷ xs) = refl

pub some_with_last : (xs : List Drawn) (d : Drawn) → sums_or_none (xs ++ d ∷ []) ≡ Some (sums_of (xs ++ d ∷ []))
some_with_last [] d = refl
some_with_last (x ∷ xs) d = refl

not_none : (n : ℕ) → (suc n == 0) ≡ false
not_none n = grind (arith, common_steps)

pub left_of : (xs : List Drawn) → left (sums_of xs) ≡ sums_or_none xs
left_of [] = refl
left_of (x ∷ xs) = rw (not_none (length xs)) refl

-- the sums of a list with one in the middle
middle : (xs ys : List Drawn) (d : Drawn)
    → sums_of (xs ++ d ∷ ys) ≡ plus_sums (sums_of xs) (plus_sums (sums_of (d ∷ [])) (sums_of ys))
middle xs ys d = sums_append xs (d ∷ ys) ∙ ap (plus_sums (sums_of xs)) (sums_append (d ∷ []) ys)

less : (a b c : Sums) → minus_sums (plus_sums a (plus_sums b c)) b ≡ plus_sums a c
less a b c = sums_path (minus_sums (plus_sums a (plus_sums b c)) b) (plus_sums a c) (omega arith) (omega arith) (omega arith) (omega arith)

more : (a b c : Sums) → Holds (plus_sums a (plus_sums b c)) b
more a b c = record { number = omega arith; front = omega arith; volume = omega arith; unmeasured = omega arith }

-- one fewer
pub taken_out : (xs ys : List Drawn) (d : Drawn)
    → minus_sums (sums_of (xs ++ d ∷ ys)) (sums_of (d ∷ [])) ≡ sums_of (xs ++ ys)
taken_out xs ys d =
    ap (λ (s : Sums). minus_sums s (sums_of (d ∷ []))) (middle xs ys d) ∙ (less (sums_of xs) (sums_of (d ∷ [])) (sums_of ys) ∙ sym (sums_append xs ys))

pub holds_one : (xs ys : List Drawn) (d : Drawn) → Holds (sums_of (xs ++ d ∷ ys)) (sums_of (d ∷ []))
holds_one xs ys d = subst (λ (s : Sums). Holds s (sums_of (d ∷ []))) (sym (middle xs ys d)) (more (sums_of xs) (sums_of (d ∷ [])) (sums_of ys))
