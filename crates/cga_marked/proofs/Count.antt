-- Counting the slots that pass a test, by their lookups.
use Rattle.std.proofs.Common.{◌≡◌, ◌≢◌, ℕ, zero, suc, ◌+◌, ◌≤◌, List, [], ◌∷◌, Bool, true, false, refl, sym, ◌∙◌, arith, cond}
use Rattle.std.specs.Prelude.{Option, None, slice_index_or}
use Rattle.std.specs.List.{count_by}
use Rattle.std.proofs.lemmas.List.Recursion.{is_count_by}
use Rattle.cga_marked.specs.Count.{tally}
pub use Rattle.std.proofs.lemmas.Bool.{cases_Bool as bool_cases}

one_more : (b : Bool) (n : ℕ) → cond b 1 0 + n ≡ cond b (1 + n) n
one_more true n = omega arith
one_more false n = omega arith

pub tally_count : {X : Type 0} (p : X → Bool) (xs : List X) → tally p xs ≡ count_by p xs
tally_count p xs = is_count_by (tally p) p refl (λ x xs. one_more (p x) (tally p xs)) xs

at_most : (a b : Bool) (m n : ℕ) → (a ≡ true → b ≡ true) → m ≤ n → cond a 1 0 + m ≤ cond b 1 0 + n
at_most true true m n h le = omega arith
at_most true false m n h le = let z = h refl in absurd (cc)
at_most false true m n h le = omega arith
at_most false false m n h le = omega arith

pub tally_mono : {X : Type 0} (p q : Option X → Bool) → p None ≡ false → (xs ys : List (Option X)) → q None ≡ false
    → ((c : ℕ) → p (slice_index_or xs c None) ≡ true → q (slice_index_or ys c None) ≡ true) → tally p xs ≤ tally q ys
tally_mono p q pn [] ys qn h = omega arith
tally_mono p q pn (x ∷ xs) [] qn h = at_most (p x) false (tally p xs) 0 (λ e. sym qn ∙ h 0 e) (tally_mono p q pn xs [] qn (λ c e. h (suc c) e))
tally_mono p q pn (x ∷ xs) (y ∷ ys) qn h = at_most (p x) (q y) (tally p xs) (tally q ys) (λ e. h 0 e) (tally_mono p q pn xs ys qn (λ c e. h (suc c) e))

pub tally_same : {X : Type 0} (p : Option X → Bool) → p None ≡ false → (xs ys : List (Option X))
    → ((c : ℕ) → p (slice_index_or ys c None) ≡ p (slice_index_or xs c None)) → tally p ys ≡ tally p xs
tally_same p pn xs ys h =
    let a = tally_mono p p pn xs ys pn (λ c e. h c ∙ e) in
    let b = tally_mono p p pn ys xs pn (λ c e. sym (h c) ∙ e) in omega arith

pub tally_none : {X : Type 0} (p : Option X → Bool) → p None ≡ false → (xs : List (Option X))
    → ((c : ℕ) → p (slice_index_or xs c None) ≡ false) → tally p xs ≡ 0
tally_none p pn xs h = tally_same p pn [] xs (λ c. h c ∙ sym pn)

suc_apart : (c k : ℕ) → c ≢ k → suc c ≢ suc k
suc_apart c k n e = n (omega arith)

pub tally_more : {X : Type 0} (p : Option X → Bool) → p None ≡ false → (xs ys : List (Option X)) (k : ℕ)
    → p (slice_index_or xs k None) ≡ false → p (slice_index_or ys k None) ≡ true
    → ((c : ℕ) → c ≢ k → p (slice_index_or ys c None) ≡ p (slice_index_or xs c None)) → tally p ys ≡ tally p xs + 1
tally_more p pn xs [] k off on h = let z : false ≡ true = sym pn ∙ on in absurd (cc)
tally_more p pn [] (y ∷ ys) zero off on h =
    let r : tally p ys ≡ 0 = tally_none p pn ys (λ c. h (suc c) (λ e. absurd (omega arith)) ∙ pn) in
    rw (on, r) refl
tally_more p pn (x ∷ xs) (y ∷ ys) zero off on h =
    let r : tally p ys ≡ tally p xs = tally_same p pn xs ys (λ c. h (suc c) (λ e. absurd (omega arith))) in
    rw (off, on, r) (omega arith)
tally_more p pn [] (y ∷ ys) (suc k) off on h =
    let r : tally p ys ≡ 0 + 1 = tally_more p pn [] ys k off on (λ c n. h (suc c) (suc_apart c k n)) in
    let e : p y ≡ false = h 0 (λ e. absurd (omega arith)) ∙ pn in rw (e, r) refl
tally_more p pn (x ∷ xs) (y ∷ ys) (suc k) off on h =
    let r : tally p ys ≡ tally p xs + 1 = tally_more p pn xs ys k off on (λ c n. h (suc c) (suc_apart c k n)) in
    let e : p y ≡ p x = h 0 (λ e. absurd (omega arith)) in rw (e, r) (omega arith)
