-- Facts of tests, options, lists and numbers that the standard library lacks. No word of this project stands here.
use Rattle.std.proofs.Common.{◌||◌, ◌≢◌, ◌<◌, ◌≤◌, ◌⊎◌, ◌&&◌, ◌∙◌, ◌+◌, ◌++◌, ◌↔◌, ◌∷◌, [], Bool, List, None, Ok, Option, Result, Some, ap}
use Rattle.std.proofs.Common.{arith, cond, false, get_or, inl, inr, length, map, nat_eq, nat_lt, not, refl, subst, suc, sym, take, true, zero, ℕ, ◌≡◌}
use Rattle.std.proofs.lemmas.Bool.Decides.{leb_tells, nat_tests}
use Rattle.std.proofs.lemmas.Grind.{common_steps}
use Rattle.std.proofs.lemmas.Option.{slice_get_within}
use Rattle.std.specs.Cmp.{nat_cmp_is}
use Rattle.std.specs.Io.KnownBytes.{Appends, Keeps}
use Rattle.std.specs.Ordering.{is_eq, is_lt, nat_cmp}
use Rattle.std.specs.Prelude.{Err, IfOk, IsSome, None, Ok, Option, Result, Some, is_some, nat_eq, nat_le, nat_lt, slice_get, unwrap_or}
use Rattle.std.specs.declared.cmp.Ordering.{Ordering}
use Rattle.std.specs.declared.cmp.Ordering.TheVariants.{Equal, Greater, Less}

-- the test for equal numbers is true of a number and itself
pub nat_eq-same : (a : ℕ) → nat_eq a a ≡ true
nat_eq-same a = grind (arith, nat_tests)

-- no test is true together with its negation
pub not-and-true : (a : Bool) → not a ≡ true → a ≡ true → ⊥
not-and-true true e f = let x : false ≡ true = e in cc
not-and-true false e f = let x : false ≡ true = f in cc

-- where two tests joined by or are false, the first is
pub or_false_first : (a b : Bool) → (a || b) ≡ false → a ≡ false
or_false_first true b e = cc
or_false_first false b e = refl

-- where two tests joined by or are false, the second is
pub or_false_second : (a b : Bool) → (a || b) ≡ false → b ≡ false
or_false_second true b e = cc
or_false_second false b e = e

-- where the test for equal numbers is true, they are equal
pub eq_from_nat_eq : (a b : ℕ) → nat_eq a b ≡ true → a ≡ b
eq_from_nat_eq a b h = grind (arith, nat_tests)

-- where two numbers differ, the test for equal ones is false
pub nat_eq_from_ne : (a b : ℕ) → a ≢ b → nat_eq a b ≡ false
nat_eq_from_ne a b h = grind (arith, nat_tests)

-- where the test for less is true, the first number is below the second
pub lt_from_nat_lt : (a b : ℕ) → nat_lt a b ≡ true → a < b
lt_from_nat_lt a b h = grind (arith, nat_tests)

-- where a number is at most a second, to take it if it is less, and else the second, is to take it
pub least_of_some : (a b : ℕ) → a ≤ b → unwrap_or (cond (nat_lt a b) (Some a) None) b ≡ a
least_of_some a b h = elim (nat_lt a b) as (λ t. t ≡ nat_lt a b → unwrap_or (cond t (Some a) None) b ≡ a) [ true ↦ λ e. refl | false ↦ λ e. grind (arith, nat_tests) ] refl

-- two tests, each true where the other is, are equal
pub same_from_both_ways : (a b : Bool) → (a ≡ true → b ≡ true) → (b ≡ true → a ≡ true) → a ≡ b
same_from_both_ways true b f g = sym (f refl)
same_from_both_ways false true f g = g refl
same_from_both_ways false false f g = refl

-- two numbers are equal, or they differ
pub eq_or_ne : (a b : ℕ) → (a ≡ b) ⊎ (a ≢ b)
eq_or_ne a b = by_test (nat_eq a b) refl
  where
    by_test : (t : Bool) → nat_eq a b ≡ t → (a ≡ b) ⊎ (a ≢ b)
    by_test true is = inl (grind (arith, is))
    by_test false is = inr (grind (arith, is))

-- where two tests joined by and are true, the first is
pub and_first : (a b : Bool) → (a && b) ≡ true → a ≡ true
and_first true b e = refl
and_first false b e = e

-- where two tests joined by and are true, the second is
pub and_second : (a b : Bool) → (a && b) ≡ true → b ≡ true
and_second true b e = e
and_second false b e = let x : false ≡ true = e in cc

-- where known bytes grow by a text and are kept then, they have grown by it
pub all_of_it : (a b c : Option (List ℕ)) (text : List ℕ) → Appends a b text → Keeps b c → Appends a c text
all_of_it None b c text p q = tt
all_of_it (Some xs) None c text p q = absurd p
all_of_it (Some xs) (Some ys) None text p q = absurd q
all_of_it (Some xs) (Some ys) (Some zs) text p q = q ∙ p

-- a number below the successor of another is below that, or equal to it
pub lt_or_eq_from_lt_suc : (i n : ℕ) → i < n + 1 → (i < n) ⊎ (i ≡ n)
lt_or_eq_from_lt_suc i n le = grind (arith, le)

-- where a number is below another, the test for less is true
pub nat_lt_from_lt : (m n : ℕ) → m < n → nat_lt m n ≡ true
nat_lt_from_lt m n h = grind (arith, common_steps)

-- where the test for less is false, the second number is at most the first
pub le_from_nat_lt : (m n : ℕ) → nat_lt m n ≡ false → n ≤ m
le_from_nat_lt m n h = grind (arith, nat_tests)

-- the test for less than 0 is false of every number
pub nat_lt-zero : (n : ℕ) → nat_lt n 0 ≡ false
nat_lt-zero n = grind (arith, nat_tests)

-- the test for less is false of a number and itself
pub nat_lt-same : (n : ℕ) → nat_lt n n ≡ false
nat_lt-same n = grind (arith, nat_tests)

-- where a number is at most 18, the test for that is true
pub nat_le_18 : (n : ℕ) → n ≤ 18 → nat_le n 18 ≡ true
nat_le_18 n h = grind (arith, leb_tells n 18)

-- what is below the successor of a number is below the number, or equal to it
pub lt_or_eq_below_suc : (n j : ℕ) → j < n + 1 → (j < n) ⊎ (j ≡ n)
lt_or_eq_below_suc n j lt = grind arith

-- where the test for less is true of a comparison, it is less
pub Less_from_is_lt : (o : Ordering) → is_lt o ≡ true → o ≡ Less
Less_from_is_lt Less h = refl
Less_from_is_lt Equal h = cc
Less_from_is_lt Greater h = cc

-- where the test for equal is true of a comparison, it is equal
pub Equal_from_is_eq : (o : Ordering) → is_eq o ≡ true → o ≡ Equal
Equal_from_is_eq Less e = let x : false ≡ true = e in cc
Equal_from_is_eq Equal e = refl
Equal_from_is_eq Greater e = let x : false ≡ true = e in cc

-- an optional number is none, or some number
pub cases_Option_nat : (o : Option ℕ) → (o ≡ None) ⊎ ((c : ℕ) × (o ≡ Some c))
cases_Option_nat None = inl refl
cases_Option_nat (Some c) = inr (c, refl)

-- where the negation of a test is false, the test is true
pub true_from_not : (t : Bool) → not t ≡ false → t ≡ true
true_from_not true h = refl
true_from_not false h = cc

-- where the negation of a test is true, the test is false
pub false_from_not : (t : Bool) → not t ≡ true → t ≡ false
false_from_not true h = sym h
false_from_not false h = refl

-- where a text has at most 4,096 bytes, the test for more is false
pub within_4096 : (text : List ℕ) → length text ≤ 4096 → nat_lt 4096 (length text) ≡ false
within_4096 text h = grind (arith, nat_tests)

-- equal numbers compare as equal
pub nat_cmp-same : (x y : ℕ) → x ≡ y → nat_cmp x y ≡ Equal
nat_cmp-same x y e = sym (nat_cmp_is x y Equal e)

-- an index at which a number stands is below the length of the list
pub lt-length_from_slice_get_nat : (xs : List ℕ) (i k : ℕ) → slice_get xs i ≡ Some k → i < length xs
lt-length_from_slice_get_nat [] i k h = absurd (cc)
lt-length_from_slice_get_nat (x ∷ xs) zero k h = omega arith
lt-length_from_slice_get_nat (x ∷ xs) (suc i) k h = let r = lt-length_from_slice_get_nat xs i k h in omega arith

-- a list is itself with the empty list behind it
pub append-nil_back : {A : Type 0} (xs : List A) → xs ≡ xs ++ []
append-nil_back [] = refl
append-nil_back (x ∷ xs) = ap (λ z. x ∷ z) (append-nil_back xs)

-- where two options with elements are equal, the elements are
pub same_Some : {X : Type 0} (x y : X) → Some x ≡ Some y → x ≡ y
same_Some x y e = cc

-- where as many elements are taken as a list has, or more, they are the list
pub take-all : {X : Type 0} (xs : List X) (i : ℕ) → length xs ≤ i → take i xs ≡ xs
take-all [] zero h = refl
take-all [] (suc i) h = refl
take-all (x ∷ xs) zero h = absurd (omega (arith, h))
take-all (x ∷ xs) (suc i) h = ap (λ l. x ∷ l) (take-all xs i (omega (arith, h)))

-- where an option has an element just if a number is above 0, and the number is, the option isn't none
pub None-not-positive : {X : Type 0} (r : Option X) (n : ℕ) → r ≡ None → (IsSome r ↔ (0 < n)) → 0 < n → ⊥
None-not-positive None n e h lt = let x : false ≡ true = h.1 lt in cc
None-not-positive (Some x) n e h lt = let f : Some x ≡ None = e in cc

-- an index at which an element stands is below the length of the list
pub lt-length_from_slice_get : {X : Type 0} (xs : List X) (i : ℕ) (x : X) → slice_get xs i ≡ Some x → i < length xs
lt-length_from_slice_get xs i x h = slice_get_within xs i x h

-- where an index is within a list, the element that is read there stands there
pub slice_get_from_get_or : {X : Type 0} (xs : List X) (i : ℕ) (x : X) → i < length xs → x ≡ get_or xs i x
    → slice_get xs i ≡ Some x
slice_get_from_get_or [] i x h e = absurd (omega (arith, h))
slice_get_from_get_or (y ∷ xs) zero x h e = ap Some (sym e)
slice_get_from_get_or (y ∷ xs) (suc i) x h e = slice_get_from_get_or xs i x (omega (arith, h)) e

-- an option is none, or has some element
pub cases_Option : {X : Type 0} (o : Option X) → (o ≡ None) ⊎ ((x : X) × (o ≡ Some x))
cases_Option None = inl refl
cases_Option (Some x) = inr (x, refl)

-- where the test for an element is true, the option has one
pub Some_from_is_some : {X : Type 0} (o : Option X) → is_some o ≡ true → (x : X) × (o ≡ Some x)
Some_from_is_some None h = absurd (cc)
Some_from_is_some (Some x) h = (x, refl)

-- where an option is said to have an element, there is that element
pub Some_from_IsSome : {X : Type 0} (o : Option X) → IsSome o → (x : X) × (o ≡ Some x)
Some_from_IsSome None h = let x : false ≡ true = h in cc
Some_from_IsSome (Some x) h = (x, refl)

-- where an option is some element, it is said to have one
pub IsSome_from_Some : {X : Type 0} (o : Option X) (x : X) → o ≡ Some x → IsSome o
IsSome_from_Some o x is = subst (λ q. IsSome q) (sym is) refl

-- where one property leads to another, and a result's value, if any, has the one, it has the other
pub IfOk-map : {X E : Type 0} {P Q : X → Type 0} (r : Result X E) → ((x : X) → P x → Q x) → IfOk r P → IfOk r Q
IfOk-map (Ok x) f h = f x h
IfOk-map (Err e) f h = tt

-- where two results with values are equal, the values are
pub same_Ok : {X F : Type 0} (x y : X) → ◌≡◌ {A = Result X F} (Ok x) (Ok y) → x ≡ y
same_Ok x y e = cc

-- where none equals some element, anything follows
pub None-not-Some : {X Y : Type 0} (x : X) → ◌≡◌ {A = Option X} None (Some x) → Y
None-not-Some x e = cc

-- a mapped list is as long as the list
pub length-map : {X Y : Type 0} (f : X → Y) (xs : List X) → length (map f xs) ≡ length xs
length-map f [] = refl
length-map f (x ∷ xs) = let e = length-map f xs in omega (arith, e)

-- joined lists, mapped, are the mapped lists joined
pub map-append : {X Y : Type 0} (f : X → Y) (xs ys : List X) → map f (xs ++ ys) ≡ map f xs ++ map f ys
map-append f [] ys = refl
map-append f (x ∷ xs) ys = ap (λ zs. f x ∷ zs) (map-append f xs ys)

-- where two lists are as long as each other, the second has an element at each index at which the first has
pub slice_get_along : {X Y : Type 0} (xs : List X) (ys : List Y) (i : ℕ) (x : X) → length xs ≡ length ys
    → slice_get xs i ≡ Some x → (y : Y) × (slice_get ys i ≡ Some y)
slice_get_along [] ys i x same h = let z : None ≡ Some x = h in cc
slice_get_along (a ∷ xs) [] i x same h = absurd (omega (arith, same))
slice_get_along (a ∷ xs) (b ∷ ys) zero x same h = (b, refl)
slice_get_along (a ∷ xs) (b ∷ ys) (suc i) x same h = slice_get_along xs ys i x (omega (arith, same)) h

-- where false equals true, anything follows
pub false-not-true : {Y : Type 0} → false ≡ true → Y
false-not-true e = cc

-- where true equals false, anything follows
pub true-not-false : {Y : Type 0} → true ≡ false → Y
true-not-false e = cc

-- where a test is true and false, anything follows
pub true-and-false : {Y : Type 0} (b : Bool) → b ≡ true → b ≡ false → Y
true-and-false b t f = let z : true ≡ false = sym t ∙ f in absurd (cc)

-- a test joined by or with false is the test
pub or-false : (b : Bool) → (b || false) ≡ b
or-false true = refl
or-false false = refl

-- a test joined by or with true is true
pub or-true : (b : Bool) → (b || true) ≡ true
or-true true = refl
or-true false = refl

-- a test joined by and with false is false
pub and-false : (b : Bool) → (b && false) ≡ false
and-false true = refl
and-false false = refl

-- three tests joined by or come out the same however they are grouped
pub or-assoc : (a b c : Bool) → (a || (b || c)) ≡ ((a || b) || c)
or-assoc true b c = refl
or-assoc false b c = refl

-- of two numbers one is at most the other
pub le_or_ge : (a b : ℕ) → (a ≤ b) ⊎ (b ≤ a)
le_or_ge zero b = inl (omega arith)
le_or_ge (suc a) zero = inr (omega arith)
le_or_ge (suc a) (suc b) = elim (le_or_ge a b) [ inl h ↦ inl (omega (arith, h)) | inr h ↦ inr (omega (arith, h)) ]

-- where the negation of a test and another test are true, the one is false and the other true
pub not-and_parts : (a b : Bool) → (not a && b) ≡ true → (a ≡ false) × (b ≡ true)
not-and_parts true b e = let x : false ≡ true = e in cc
not-and_parts false b e = (refl, e)
