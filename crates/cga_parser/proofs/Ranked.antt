-- The entries in the order of the text are the same entries.
use Rattle.std.proofs.Common.{◌≡◌, ℕ, zero, suc, ◌+◌, ◌<◌, ◌≤◌, ◌^◌, ◌&&◌, nat_eq, Bool, true, false, List, [], ◌∷◌, ◌++◌, arith, ap, sym, ◌∙◌, refl, subst, if◌then◌else◌}
use Rattle.std.specs.Prelude.{IsPermutation}
use Rattle.std.proofs.lemmas.Bool.Decides.{nat_tests}
use Rattle.std.proofs.lemmas.List.Sorted.{IsPermutation-refl, IsPermutation-sym, IsPermutation-trans, IsPermutation-cons, IsPermutation-append_left, IsPermutation-append_right, IsPermutation-middle}
use Rattle.cga_rule.specs.declared.grammar.Entry.{Entry}
use Rattle.cga_parser.specs.GrammarLines.{all_from, with_id, by_id, by_rank}
use Rattle.std.proofs.lemmas.Bool.{and_right as not_both}
use Rattle.cga_fraction.proofs.Door.{nat_eq-same as same}

-- ---- each of a list

abbrev pub Every : {A : Type 0} → (A → Type 0) → List A → Type 0
Every P [] = Unit {0}
Every P (x ∷ xs) = P x × Every P xs

module _ {A : Type 0} (P : A → Type 0) where
  pub every_join : (xs ys : List A) → Every P xs → Every P ys → Every P (xs ++ ys)
  every_join [] ys h k = k
  every_join (x ∷ xs) ys h k = (h.0, every_join xs ys h.1 k)

  pub every_from : (f : ℕ → List A) (from n : ℕ) → ((q : ℕ) → q < from + n → Every P (f q))
      → Every P (all_from f from n)
  unfolding all_from
  every_from f from zero h = tt
  every_from f from (suc n) h = every_join (f from) (all_from f (from + 1) n) (h from (omega arith)) (every_from f (from + 1) n (λ q l. h q (omega arith)))

-- ---- lists by numbers

module _ {A : Type 0} where
  same_from : (f g : ℕ → List A) (from n : ℕ) → ((q : ℕ) → from ≤ q → f q ≡ g q) → all_from f from n ≡ all_from g from n
  unfolding all_from
  same_from f g from zero h = refl
  same_from f g from (suc n) h = ap (λ z. z ++ all_from f (from + 1) n) (h from (omega arith)) ∙ ap (λ z. g from ++ z) (same_from f g (from + 1) n (λ q l. h q (omega arith)))

  pub none_from : (f : ℕ → List A) (from n : ℕ) → ((q : ℕ) → f q ≡ []) → all_from f from n ≡ []
  unfolding all_from
  none_from f from zero h = refl
  none_from f from (suc n) h = ap (λ z. z ++ all_from f (from + 1) n) (h from) ∙ none_from f (from + 1) n h

-- the second lists a member more at one number
record More {A : Type 0} (x : A) (k : ℕ) (f g : ℕ → List A) : Type 0 where
  here : IsPermutation (x ∷ f k) (g k)
  apart : (q : ℕ) → nat_eq k q ≡ false → f q ≡ g q

module _ {A : Type 0} (x : A) (k : ℕ) (f g : ℕ → List A) (more : More x k f g) where
  later : (from : ℕ) → from + 1 ≤ k + 1 → nat_eq k from ≡ false → from + 1 ≤ k
  later from l e = grind (arith, nat_tests)

  past : (q : ℕ) → k + 1 ≤ q → nat_eq k q ≡ false
  past q l = grind (arith, nat_tests)

  more_by : (from n : ℕ) (t : Bool) → nat_eq k from ≡ t
      → (t ≡ false → IsPermutation (x ∷ all_from f (from + 1) n) (all_from g (from + 1) n))
      → IsPermutation (x ∷ (f from ++ all_from f (from + 1) n)) (g from ++ all_from g (from + 1) n)
  more_by from n true e i =
      let q : k ≡ from = grind (arith, nat_tests) in
      let rest : all_from f (from + 1) n ≡ all_from g (from + 1) n = same_from f g (from + 1) n (λ j l. more.apart j (past j (omega arith))) in
      subst (λ z. IsPermutation (x ∷ (f from ++ all_from f (from + 1) n)) (g from ++ z)) rest
      (IsPermutation-append_left (all_from f (from + 1) n) (x ∷ f from) (g from) (subst (λ j. IsPermutation (x ∷ f j) (g j)) q more.here))
  more_by from n false e i =
      IsPermutation-trans (x ∷ (f from ++ all_from f (from + 1) n)) (f from ++ (x ∷ all_from f (from + 1) n)) (g from ++ all_from g (from + 1) n)
      (IsPermutation-sym (f from ++ (x ∷ all_from f (from + 1) n)) (x ∷ (f from ++ all_from f (from + 1) n)) (IsPermutation-middle (f from) x (all_from f (from + 1) n)))
      (subst (λ z. IsPermutation (f from ++ (x ∷ all_from f (from + 1) n)) (z ++ all_from g (from + 1) n)) (more.apart from e)
      (IsPermutation-append_right (f from) (x ∷ all_from f (from + 1) n) (all_from g (from + 1) n) (i refl)))

  more_from : (from n : ℕ) → from ≤ k → k < from + n → IsPermutation (x ∷ all_from f from n) (all_from g from n)
  unfolding all_from
  more_from from zero l h = absurd (omega arith)
  more_from from (suc n) l h = more_by from n (nat_eq k from) refl (λ e. let m = later from (omega arith) e in more_from (from + 1) n m (omega arith))

-- ---- entries

abbrev taken : Entry → Bool → List Entry
taken e t = if t then e ∷ [] else []

module _ (e : Entry) (es : List Entry) where
  id_here : (p : ℕ) → nat_eq e.priority p ≡ true → e ∷ with_id es p e.rule.id ≡ with_id (e ∷ es) p e.rule.id
  id_here p h = ap (λ t. taken e t ++ with_id es p e.rule.id) (sym (ap (λ t. t && nat_eq e.rule.id e.rule.id) h ∙ same e.rule.id))

  id_more : (p : ℕ) → nat_eq e.priority p ≡ true → More e e.rule.id (with_id es p) (with_id (e ∷ es) p)
  id_more p h = record {
    here = subst (IsPermutation (e ∷ with_id es p e.rule.id)) (id_here p h) (IsPermutation-refl (e ∷ with_id es p e.rule.id));
    apart = λ q d. ap (λ t. taken e t ++ with_id es p q) (sym (not_both (nat_eq e.priority p) (nat_eq e.rule.id q) d));
  }

  priority_more : e.rule.id < 2 ^ 32 → More e e.priority (by_id es) (by_id (e ∷ es))
  priority_more h = record {
    here = more_from e e.rule.id (with_id es e.priority) (with_id (e ∷ es) e.priority) (id_more e.priority (same e.priority)) 0 (2 ^ 32) (omega arith) (omega arith);
    apart = λ q d. same_from (with_id es q) (with_id (e ∷ es) q) 0 (2 ^ 32) (λ id l. ap (λ t. taken e (t && nat_eq e.rule.id id) ++ with_id es q id) (sym d));
  }

-- the entry's numbers are among those that are gone through
abbrev pub IsBounded : Entry → Type 0
IsBounded e = (e.priority < 2 ^ 16) × (e.rule.id < 2 ^ 32)

pub ranked : (es : List Entry) → Every IsBounded es → IsPermutation es (by_rank es)
ranked [] h =
    let none : by_rank [] ≡ [] = none_from (by_id []) 0 (2 ^ 16) (λ p. none_from (with_id [] p) 0 (2 ^ 32) (λ id. refl)) in
    subst (IsPermutation []) (sym none) (IsPermutation-refl [])
ranked (e ∷ es) h =
    IsPermutation-trans (e ∷ es) (e ∷ by_rank es) (by_rank (e ∷ es)) (IsPermutation-cons e es (by_rank es) (ranked es h.1))
    (let b = h.0.0 in more_from e e.priority (by_id es) (by_id (e ∷ es)) (priority_more e es h.0.1) 0 (2 ^ 16) (omega arith) (omega arith))
