-- Nodes that are put on the agenda, whatever their stamps.
use Rattle.std.proofs.Common.{◌≡◌, ◌⊎◌, inl, inr, ℕ, List, [], ◌∷◌, ◌++◌, refl, sym, ap, ◌∙◌, subst, Option, Some, None, slice_get}
use Rattle.cga_fraction.proofs.Door.{None-not-Some as none_some, same_Some as some_same}
use Rattle.cga_order.specs.World.{Among}
use Rattle.cga_order.proofs.Door.{Among-append, Among-left, Among-right}
use Rattle.cga_forest.specs.declared.node_change.NodeChange.{NodeChange}
use Rattle.cga_forest.specs.View.{Seen}
use Rattle.cga_forest.specs.Tree.{ForestView, above, node_at}
use Rattle.cga_queue.specs.Agenda.{AgendaView, Chains, Grows}
use Rattle.cga_queue.proofs.Door.{all_kept, among_from, grows_by}
use Rattle.cga_update.specs.Askers.{IsAsker, IsOneOf}
use Rattle.cga_update.specs.Begun.{HasMoved}
use Rattle.cga_update.specs.Near.{IsAny, IsParent, IsParentOf}
use Rattle.cga_update.specs.Queue.{chains_of}

pub grows_any : (D : Chains) (P : ℕ → Type 0) (a b : AgendaView) → Grows D P a b → Grows D IsAny a b
grows_any D P a b g = grows_by D P IsAny a b (λ c p. tt) g

-- ---- a node's parent

above_is : (o : Option Seen) (p : ℕ) → above o ≡ Some p → (d : Seen) × (o ≡ Some d) × (d.parent ≡ Some p)
above_is None p h = none_some p h
above_is (Some d) p h = (d, refl, h)

module _ (v : ForestView) (id : ℕ) where
  above_of : (p : ℕ) → IsParent v id p → above (node_at v id) ≡ Some p
  above_of p w = ap above w.1 ∙ w.2

  pub no_parent : (p : ℕ) → above (node_at v id) ≡ None → IsParent v id p → ⊥
  no_parent p is w = none_some p (sym is ∙ above_of p w)

  -- the parent was put behind a list
  module _ (a b : List ℕ) (parent : ℕ) (is : above (node_at v id) ≡ Some parent) (e : b ≡ a ++ parent ∷ []) where
    pub parent_among : (p : ℕ) → IsParent v id p → Among p b
    parent_among p w =
        let same = some_same parent p (sym is ∙ above_of p w) in
        subst (Among p) (sym e) (Among-right a (parent ∷ []) p (inl same))

    pub parent_last : (p : ℕ) → Among p b → Among p a ⊎ IsParent v id p
    parent_last p m = elim (Among-append a (parent ∷ []) p (subst (Among p) e m)) [
      | inl l ↦ inl l
      | inr r ↦ elim r [
        | inl s ↦ let w = above_is (node_at v id) parent is in inr (w.0, w.1, w.2 ∙ ap Some s)
        | inr z ↦ absurd z
      ]
    ]

pub among_kept : (a b : List ℕ) (x : ℕ) → b ≡ a ++ x ∷ [] → (p : ℕ) → Among p a → Among p b
among_kept a b x e p m = subst (Among p) (sym e) (Among-left a (x ∷ []) p m)

-- the list has the node's parents
abbrev pub HasParents : ForestView → List ℕ → ℕ → Type 0
HasParents v parents c = (p : ℕ) → IsParent v c p → Among p parents

-- what a list of parents gains by a node of a list is a parent of one of these
pub parents_only : (v : ForestView) (ids : List ℕ) (n id : ℕ) (a b : List ℕ) → slice_get ids n ≡ Some id
    → ((p : ℕ) → Among p b → Among p a ⊎ IsParent v id p) → ((p : ℕ) → Among p a → IsParentOf v ids p)
    → (p : ℕ) → Among p b → IsParentOf v ids p
parents_only v ids n id a b at only has p m = elim (only p m) [ inl l ↦ has p l | inr w ↦ (id, among_from ids n id at, w) ]

-- what is on the agenda of what moved stays on it
pub moved_kept : (v : ForestView) (P : ℕ → Type 0) (a b : AgendaView) → Grows (chains_of v) P a b
    → (removed created : List NodeChange) → HasMoved v removed created a → HasMoved v removed created b
moved_kept v P a b grows removed created h = record {
  roots = all_kept (chains_of v) (IsOneOf created) P a b grows h.roots;
  near_removed = all_kept (chains_of v) (IsAsker v removed) P a b grows h.near_removed;
  near_created = all_kept (chains_of v) (IsAsker v created) P a b grows h.near_created;
}
