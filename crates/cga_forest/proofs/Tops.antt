-- The list of roots, under each change.
use Rattle.std.proofs.Common.{◌≡◌, ◌≢◌, inl, inr, ℕ, zero, suc, List, [], ◌∷◌, ◌++◌, Bool, true, false, refl, ap, sym, subst, arith, ◌∙◌}
use Rattle.std.specs.List.{Contains}
use Rattle.std.specs.List.Sorted.{IsPermutation}
use Rattle.std.proofs.lemmas.List.Sorted.{Contains-permutation, IsPermutation-sym}
use Rattle.std.proofs.lemmas.List.Elements.{Contains-push, Contains-push_cases, Contains-append_left}
use Rattle.std.specs.Prelude.{Option, Some, None, slice_get, if◌then◌else◌}
use Rattle.cga_forest.specs.declared.node.Node.{Node}
use Rattle.cga_forest.specs.View.{Seen}
use Rattle.cga_forest.specs.Roots.{HasRoots}
use Rattle.cga_marked.specs.Map.{Named, AreApart}
use Rattle.cga_marked.proofs.Door.{apart_out, out_still, out_left, none_among}
use Rattle.cga_forest.specs.Tree.{under}
use Rattle.cga_forest.specs.Node.{fits}
use Rattle.cga_tree.specs.Tree.{IsTree}
use Rattle.cga_tree.specs.Replaced.{IsReplaced}
use Rattle.cga_fraction.proofs.Door.{eq_or_ne as nat_cases}
use Rattle.std.proofs.lemmas.Bool.{cases_Bool as bool_cases}
use Rattle.cga_forest.proofs.Tree.{cut_some}
use Rattle.cga_forest.proofs.Walk.{under_cases, under_none}
use Rattle.cga_forest.proofs.Replace.{old_or_new}

pub HasRoots-same : (S T : ℕ → Option Seen) (roots : Named) → ((c : ℕ) → T c ≡ S c) → HasRoots S roots
    → HasRoots T roots
HasRoots-same S T roots h r = record {
  apart = r.apart;
  each = λ name c m. let w = r.each name c m in (w.0, h c ∙ w.1, w.2, w.3);
  all = λ c d t top. r.all c d (sym (h c) ∙ t) top;
}

-- another order
pub HasRoots-moved : (T : ℕ → Option Seen) (roots left : Named) → IsPermutation roots left → AreApart left
    → HasRoots T roots → HasRoots T left
HasRoots-moved T roots left moved apart r = record {
  apart = apart;
  each = λ name c m. r.each name c (Contains-permutation left roots (name, c) (IsPermutation-sym roots left moved) m);
  all = λ c d t top. Contains-permutation roots left (d.node.shape.lot, c) moved (r.all c d t top);
}

module _ (S T : ℕ → Option Seen) (roots : Named) (r : HasRoots S roots) where
  -- a root comes, under a name that isn't there
  module _ (id : ℕ) (name : List ℕ) (e : Seen) (fresh : S id ≡ None) (here : T id ≡ Some e) (top : e.parent ≡ None)
      (named : e.node.shape.lot ≡ name) (others : (c : ℕ) → c ≢ id → T c ≡ S c) (apart : AreApart (roots ++ (name, id) ∷ [])) where
    apart_from : (c : ℕ) (d : Seen) → S c ≡ Some d → c ≢ id
    apart_from c d t q = let z : None ≡ Some d = sym fresh ∙ ap S (sym q) ∙ t in (cc)

    pub HasRoots-added : HasRoots T (roots ++ (name, id) ∷ [])
    HasRoots-added = record {
      apart = apart;
      each = λ n c m. elim (Contains-push_cases roots (name, id) (n, c) m) [
        | inl y ↦ (let w = r.each n c y in (w.0, others c (apart_from c w.0 w.1) ∙ w.1, w.2, w.3))
        | inr q ↦ (
            let i : id ≡ c = ap (λ (p : List ℕ × ℕ). p.1) q in
            let k : name ≡ n = ap (λ (p : List ℕ × ℕ). p.0) q in
            (e, ap T (sym i) ∙ here, top, named ∙ k))
      ];
      all = λ c d t up. elim (nat_cases c id) [
        | inl q ↦ (
            let z : Some d ≡ Some e = sym t ∙ ap T q ∙ here in
            let y : d ≡ e = (cc) in
            let k : d.node.shape.lot ≡ name = ap (λ (x : Seen). x.node.shape.lot) y ∙ named in
            subst (Contains (roots ++ (name, id) ∷ [])) (λ i. (sym k i, sym q i)) (Contains-push roots (name, id)))
        | inr n ↦ Contains-append_left roots ((name, id) ∷ []) (d.node.shape.lot, c) (r.all c d (sym (others c n) ∙ t) up)
      ];
    }

  -- a root goes, with a set of nodes that holds no other root
  module _ (id : ℕ) (name : List ℕ) (left : Named) (out : IsPermutation roots ((name, id) ∷ left))
      (apart : AreApart left) (gone : ℕ → Bool) (cut : (c : ℕ) → T c ≡ (if gone c then None else S c))
      (self : gone id ≡ true) (only : (c : ℕ) (d : Seen) → S c ≡ Some d → d.parent ≡ None → gone c ≡ true → c ≡ id) where
    this : Contains roots (name, id)
    this = Contains-permutation ((name, id) ∷ left) roots (name, id) (IsPermutation-sym roots ((name, id) ∷ left) out) (0, omega arith, refl)

    -- the one that went isn't among those that are left
    not_left : (n : List ℕ) → Contains left (n, id) → ⊥
    not_left n m =
        let a = r.each name id this in
        let b = r.each n id (out_still roots left (name, id) out (n, id) m) in
        let z : Some a.0 ≡ Some b.0 = sym a.1 ∙ b.1 in
        let y : a.0 ≡ b.0 = (cc) in
        let k : n ≡ name = sym b.3 ∙ ap (λ (x : Seen). x.node.shape.lot) (sym y) ∙ a.3 in
        none_among left name id (apart_out roots left name id r.apart out) (subst (λ (x : List ℕ). Contains left (x, id)) k m)

    pub HasRoots-cut : HasRoots T left
    HasRoots-cut = record {
      apart = apart;
      each = λ n c m.
          let w = r.each n c (out_still roots left (name, id) out (n, c) m) in
          let stays : gone c ≡ false = elim (bool_cases (gone c)) [
            | inl y ↦ absurd (not_left n (subst (λ (x : ℕ). Contains left (n, x)) (only c w.0 w.1 w.2 y) m))
            | inr f ↦ f
          ] in (w.0, cut c ∙ ap (λ b. if b then None else S c) stays ∙ w.1, w.2, w.3);
      all = λ c d t up.
          let w = cut_some (gone c) (S c) d (sym (cut c) ∙ t) in
          let n : c ≢ id = (λ q. let z : true ≡ false = sym self ∙ ap gone (sym q) ∙ w.0 in (cc)) in
          out_left roots left (name, id) out (d.node.shape.lot, c) (λ q. n (sym (ap (λ (p : List ℕ × ℕ). p.1) q))) (r.all c d w.1 up);
    }

  -- a node's children are replaced
  pub HasRoots-replaced : (id : ℕ) (news : List Node) (e now : Seen) (gone : ℕ → Bool)
      → IsReplaced fits S T id news e now gone → now.node.shape.lot ≡ e.node.shape.lot → IsTree S → HasRoots T roots
  HasRoots-replaced id news e now gone p lot tree = record {
    apart = r.apart;
    each = λ name c m. let w = r.each name c m in elim (nat_cases c id) [
      | inl q ↦ (let z : Some w.0 ≡ Some e = sym w.1 ∙ ap S q ∙ p.was in let y : w.0 ≡ e = (cc) in
          (now, ap T q ∙ p.is, p.parent ∙ ap (λ (x : Seen). x.parent) (sym y) ∙ w.2, lot ∙ ap (λ (x : Seen). x.node.shape.lot) (sym y) ∙ w.3))
      | inr n ↦ (w.0, p.rest c w.0 n w.1 ∙ ap (λ b. if b then None else Some w.0) (p.tops c w.0 w.1 w.2), w.2, w.3)
    ];
    all = λ c d t up. elim (nat_cases c id) [
      | inl q ↦ (
          let z : Some d ≡ Some now = sym t ∙ ap T q ∙ p.is in
          let y : d ≡ now = (cc) in
          let k : e.node.shape.lot ≡ d.node.shape.lot = sym lot ∙ ap (λ (x : Seen). x.node.shape.lot) (sym y) in
          subst (λ (n : List ℕ). Contains roots (n, c)) k (r.all c e (ap S q ∙ p.was) (sym p.parent ∙ ap (λ (x : Seen). x.parent) (sym y) ∙ up)))
      | inr n ↦ elim (old_or_new S T id news e now gone p tree c d t n (S c) refl) [
        | inl o ↦ r.all c d o.1 up
        | inr w ↦ (let z : Some w.4.seen ≡ Some d = sym w.4.here ∙ t in let y : w.4.seen ≡ d = (cc) in
            let u : None ≡ Some id = sym up ∙ ap (λ (x : Seen). x.parent) (sym y) ∙ w.4.parent in absurd (cc))
      ]
    ];
  }

-- what is below a node but the node itself has a parent
pub under_parent : (K : ℕ → List ℕ) (T : ℕ → Option Seen) → IsTree T
    → ((c : ℕ) (d : Seen) → T c ≡ Some d → K c ≡ d.children)
    → (n id c : ℕ) (e d : Seen) → T id ≡ Some e → T c ≡ Some d → d.parent ≡ None → under K n id c ≡ true → c ≡ id
under_parent K T tree same zero id c e d t u top h = let z = under_none K id c in absurd (cc)
under_parent K T tree same (suc n) id c e d t u top h = elim (under_cases K n id c h) [
  | inl q ↦ sym q
  | inr w ↦ (
      let x = tree.down id w.0 w.1 e t (ap (λ xs. slice_get xs w.0) (sym (same id e t)) ∙ w.2) in
      let q = under_parent K T tree same n w.1 c x.0 d x.1 u top w.3 in
      let z : Some d ≡ Some x.0 = sym u ∙ ap T q ∙ x.1 in
      let y : d ≡ x.0 = (cc) in
      let v : None ≡ Some id = sym top ∙ ap (λ (s : Seen). s.parent) y ∙ x.2 in absurd (cc))
]
