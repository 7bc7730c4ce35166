-- Nodes that are visited, each before what is below it.
use Rattle.std.proofs.Common.{◌≡◌, ℕ, ◌+◌, ◌-◌, ◌<◌, ◌≤◌, length, drop, List, [], ◌∷◌, ◌++◌, refl, sym, ap, subst, ◌∙◌, append_assoc, Some, slice_get}
use Rattle.std.specs.List.{FoldsTo, flat_map}
use Rattle.std.proofs.lemmas.List.{append-nil}
use Rattle.cga_index.specs.Tree as trees
use Rattle.cga_index.specs.Tree.{below}
use Rattle.cga_index.proofs.Members.{drop_all, drop_at}
use Rattle.cga_index.proofs.Levels.{below_more}

module _ {P : Type 0} (R : P → ℕ → P → Type 0) where
  folds_both : (xs ys : List ℕ) (p q r : P) → FoldsTo R p xs q → FoldsTo R q ys r → FoldsTo R p (xs ++ ys) r
  folds_both [] ys p q r h k = subst (λ (x : P). FoldsTo R x ys r) (sym h) k
  folds_both (x ∷ xs) ys p q r h k = (h.0, h.1, folds_both xs ys h.0 q r h.2 k)

  module _ (t : trees.TreeView) where
    pub from_node : (left node : ℕ) (p q r : P) → 0 < left → R p node q
        → FoldsTo R q (flat_map (below t (left - 1)) (t.children node)) r → FoldsTo R p (below t left node) r
    from_node left node p q r h s k = subst (λ (ns : List ℕ). FoldsTo R p ns r) (sym (below_more t left node h)) (q, s, k)

    -- what is left of the places from one on makes of it what all make of it
    abbrev pub IsVisiting : ℕ → List ℕ → ℕ → P → P → Type 0
    IsVisiting left cs k start now = (last : P) → FoldsTo R now (flat_map (below t left) (drop k cs)) last → FoldsTo R start (flat_map (below t left) cs) last

    pub next_visit : (left : ℕ) (cs : List ℕ) (k c : ℕ) (start now next : P) → slice_get cs k ≡ Some c
        → FoldsTo R now (below t left c) next → IsVisiting left cs k start now → IsVisiting left cs (k + 1) start next
    next_visit left cs k c start now next at h so_far = λ last rest.
        so_far last (subst (λ (xs : List ℕ). FoldsTo R now (flat_map (below t left) xs) last) (sym (drop_at cs k c at))
        (folds_both (below t left c) (flat_map (below t left) (drop (k + 1) cs)) now next last h rest))

    pub last_visit : (left : ℕ) (cs : List ℕ) (k : ℕ) (start now : P) → length cs ≤ k → IsVisiting left cs k start now
        → FoldsTo R start (flat_map (below t left) cs) now
    last_visit left cs k start now h so_far =
        so_far now (subst (λ (xs : List ℕ). FoldsTo R now (flat_map (below t left) xs) now) (sym (drop_all cs k h)) refl)

-- ---- a list

module _ {P : Type 0} (items : P → List ℕ) where
  listed : (ns : List ℕ) (p q : P) → FoldsTo (λ x n y. items y ≡ items x ++ n ∷ []) p ns q → items q ≡ items p ++ ns
  listed [] p q h = sym (ap items h) ∙ sym (append-nil (items p))
  listed (n ∷ ns) p q h = listed ns h.0 q h.2 ∙ ap (λ (xs : List ℕ). xs ++ ns) h.1 ∙ append_assoc (items p) (n ∷ []) ns

  pub all_listed : (ns : List ℕ) (p q : P) → items p ≡ [] → FoldsTo (λ x n y. items y ≡ items x ++ n ∷ []) p ns q
      → items q ≡ ns
  all_listed ns p q none h = listed ns p q h ∙ ap (λ (xs : List ℕ). xs ++ ns) none
