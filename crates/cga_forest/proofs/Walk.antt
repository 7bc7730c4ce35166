-- What is below a node of a tree holds the parents of its members, and their children.
use Rattle.std.proofs.Common.{◌≡◌, ℕ, zero, suc, ◌+◌, ◌<◌, List, [], ◌∷◌, Bool, true, false, ◌||◌, ◌⊎◌, inl, inr, refl, ap, sym, ◌∙◌, arith, nat_eq, eq-eqb}
use Rattle.std.proofs.lemmas.Bool.{eqb-true}
use Rattle.std.specs.Prelude.{Option, Some, None, slice_get}
use Rattle.std.specs.List.{list_any}
use Rattle.cga_forest.specs.View.{Seen}
use Rattle.cga_forest.specs.Tree.{under, children_of}
use Rattle.cga_tree.specs.Tree.{IsTree}
use Rattle.std.proofs.lemmas.Bool.{cases_Bool as bool_cases}

pub any_find : (p : ℕ → Bool) (xs : List ℕ) → list_any p xs ≡ true
    → (i : ℕ) × (k : ℕ) × (slice_get xs i ≡ Some k) × (p k ≡ true)
any_find p [] h = absurd (cc)
any_find p (x ∷ xs) h = elim (bool_cases (p x)) [
  | inl y ↦ (0, x, refl, y)
  | inr n ↦ (let r = any_find p xs (sym (ap (λ b. b || list_any p xs) n) ∙ h) in (suc r.0, r.1, r.2, r.3))
]

pub any_here : (p : ℕ → Bool) (xs : List ℕ) (i k : ℕ) → slice_get xs i ≡ Some k → p k ≡ true → list_any p xs ≡ true
any_here p [] i k h y = absurd (cc)
any_here p (x ∷ xs) zero k h y = let q : x ≡ k = (cc) in ap (λ z. p z || list_any p xs) q ∙ ap (λ b. b || list_any p xs) y
any_here p (x ∷ xs) (suc i) k h y = elim (p x) as (λ b. (b || list_any p xs) ≡ true) [ true ↦ refl | false ↦ any_here p xs i k h y ]

-- A node is below itself.
pub under_self : (K : ℕ → List ℕ) (n id : ℕ) → 0 < n → under K n id id ≡ true
unfolding under
under_self K zero id h = absurd (omega arith)
under_self K (suc n) id h = ap (λ b. b || list_any (λ k. under K n k id) (K id)) (eq-eqb id id refl)

-- What is below a child is below its parent.
pub under_child : (K : ℕ → List ℕ) (n id i k c : ℕ) → slice_get (K id) i ≡ Some k → under K n k c ≡ true
    → under K (suc n) id c ≡ true
unfolding under
under_child K n id i k c at h = elim (nat_eq id c) as (λ b. (b || list_any (λ k. under K n k c) (K id)) ≡ true) [ true ↦ refl | false ↦ any_here (λ k. under K n k c) (K id) i k at h ]

-- the node itself, or below a child
pub under_cases : (K : ℕ → List ℕ) (n id c : ℕ) → under K (suc n) id c ≡ true
    → (id ≡ c) ⊎ ((i : ℕ) × (k : ℕ) × (slice_get (K id) i ≡ Some k) × (under K n k c ≡ true))
unfolding under
under_cases K n id c h = elim (bool_cases (nat_eq id c)) [
  | inl y ↦ inl (eqb-true id c y)
  | inr ne ↦ inr (any_find (λ k. under K n k c) (K id) (sym (ap (λ b. b || list_any (λ k. under K n k c) (K id)) ne) ∙ h))
]

-- Nothing is below a node within no steps.
pub under_none : (K : ℕ → List ℕ) (id c : ℕ) → under K 0 id c ≡ false
unfolding under
under_none K id c = refl

abbrev parent_of : Option Seen → Option ℕ
parent_of None = None
parent_of (Some d) = d.parent

module _ (K : ℕ → List ℕ) (T : ℕ → Option Seen) (tree : IsTree T) (kids : (c : ℕ) (d : Seen) → T c ≡ Some d → K c ≡ d.children) where
  pub under_into : (n id c p : ℕ) (e d : Seen) → T id ≡ Some e → T c ≡ Some d → d.parent ≡ Some p
      → under K n id c ≡ true → (id ≡ c) ⊎ (under K n id p ≡ true)
  under_into zero id c p e d te td pd h = let z = under_none K id c in absurd (cc)
  under_into (suc n) id c p e d te td pd h = elim (under_cases K n id c h) [
    | inl q ↦ inl q
    | inr w ↦ (
        let r = tree.down id w.0 w.1 e te (ap (λ xs. slice_get xs w.0) (sym (kids id e te)) ∙ w.2) in
        elim (under_into n w.1 c p r.0 d r.1 td pd w.3) [
          | inl q ↦ (
              let same : Some d ≡ Some r.0 = sym td ∙ ap T (sym q) ∙ r.1 in
              let parents : Some p ≡ Some id = sym pd ∙ ap (λ (o : Option Seen). parent_of o) same ∙ r.2 in
              let pid : p ≡ id = (cc) in
              inr (ap (under K (suc n) id) pid ∙ under_self K (suc n) id (omega arith)))
          | inr u ↦ inr (under_child K n id w.0 w.1 p w.2 u)
        ])
  ]

  pub under_onto : (n id c p : ℕ) (e d : Seen) → T id ≡ Some e → T c ≡ Some d → d.parent ≡ Some p
      → d.depth < e.depth + n → under K n id p ≡ true → under K n id c ≡ true
  under_onto zero id c p e d te td pd deep h = let z = under_none K id p in absurd (cc)
  under_onto (suc n) id c p e d te td pd deep h = elim (under_cases K n id p h) [
    | inl q ↦ (
        let u = tree.up c id d td (pd ∙ ap (λ x. Some x) (sym q)) in
        let r = tree.down id d.index c u.0 u.1 u.2 in
        let same : Some u.0 ≡ Some e = sym u.1 ∙ te in
        let same2 : Some r.0 ≡ Some d = sym r.1 ∙ td in
        let deeper : d.depth ≡ e.depth + 1 = (let a : r.0 ≡ d = (cc) in let b : u.0 ≡ e = (cc) in ap (λ (x : Seen). x.depth) (sym a) ∙ r.3 ∙ ap (λ (x : Seen). x.depth + 1) b) in
        under_child K n id d.index c c (ap (λ xs. slice_get xs d.index) (kids id u.0 u.1) ∙ u.2) (under_self K n c (omega arith)))
    | inr w ↦ (
        let r = tree.down id w.0 w.1 e te (ap (λ xs. slice_get xs w.0) (sym (kids id e te)) ∙ w.2) in
        let dd = r.3 in
        under_child K n id w.0 w.1 c w.2 (under_onto n w.1 c p r.0 d r.1 td pd (omega arith) w.3))
  ]

  -- a node but a root is at or below a root exactly where its parent is
  pub under_along : (id c p : ℕ) (e d : Seen) → T id ≡ Some e → e.parent ≡ None → T c ≡ Some d → d.parent ≡ Some p
      → under K 257 id c ≡ under K 257 id p
  under_along id c p e d te top td pd = elim (bool_cases (under K 257 id c)) [
    | inl y ↦ elim (under_into 257 id c p e d te td pd y) [
      | inl q ↦ (
          let z : Some e ≡ Some d = sym te ∙ ap T q ∙ td in
          let v : e ≡ d = (cc) in
          let u : None ≡ Some p = sym top ∙ ap (λ (x : Seen). x.parent) v ∙ pd in absurd (cc))
      | inr u ↦ y ∙ sym u
    ]
    | inr n ↦ elim (bool_cases (under K 257 id p)) [
      | inl y ↦ (let s = tree.shallow c d td in let z : true ≡ false = sym (under_onto 257 id c p e d te td pd (omega arith) y) ∙ n in absurd (cc))
      | inr f ↦ n ∙ sym f
    ]
  ]

any_same : (p q : ℕ → Bool) (xs : List ℕ) → ((i k : ℕ) → slice_get xs i ≡ Some k → p k ≡ q k)
    → list_any p xs ≡ list_any q xs
any_same p q [] h = refl
any_same p q (x ∷ xs) h = rw (h 0 x refl, any_same p q xs (λ i k g. h (suc i) k g)) refl

-- two ways to name the children, alike at the nodes that are there
pub under_same : (K : ℕ → List ℕ) (T : ℕ → Option Seen) → IsTree T
    → ((c : ℕ) (d : Seen) → T c ≡ Some d → K c ≡ d.children)
    → (n id c : ℕ) (e : Seen) → T id ≡ Some e → under K n id c ≡ under (λ k. children_of (T k)) n id c
unfolding under
under_same K T tree same zero id c e t = refl
under_same K T tree same (suc n) id c e t =
    let a : children_of (T id) ≡ e.children = ap children_of t in
    rw (same id e t, a) (ap (λ b. nat_eq id c || b) (any_same (λ k. under K n k c) (λ k. under (λ k. children_of (T k)) n k c) e.children
    (λ i k g. let d = tree.down id i k e t g in under_same K T tree same n k c d.0 d.1)))
