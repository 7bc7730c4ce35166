-- A root's hull is the least box that holds the boxes of all members of its lot, and each lot has a root.
use Rattle.std.proofs.Common.{◌≡◌, ◌↔◌, ℕ, zero, suc, List, [], ◌∷◌, true, false, inl, inr, refl, sym, ap, ◌∙◌, subst, None, Some, Result, Ok, Err, slice_get, ◌<◌, length, arith}
use Rattle.std.specs.Prelude.{IsOk}
use Rattle.std.specs.List.{AllByRecursion}
use Rattle.std.proofs.lemmas.List.Elements.{recursion_from_All}
use Rattle.cga_frame.specs.Box.{Box, box_of, holds}
use Rattle.cga_frame.specs.Scope.{Scope}
use Rattle.cga_frame.specs.declared.scope_fault.ScopeFault.{ScopeFault}
use Rattle.cga_shape.specs.declared.lot.Lot.{Lot}
use Rattle.cga_shape.specs.declared.shape.Shape.{Shape}
use Rattle.cga_shape.specs.declared.sources.Sources.{Sources}
use Rattle.cga_shape.specs.Root.{root_in, root_of, root_scope}
use Rattle.cga_expand.specs.Children.{Member}
use Rattle.cga_index.specs.Tree as trees
use Rattle.cga_index.specs.Tree.{below}
use Rattle.cga_index.proofs.Door.{member_at as at_member}
use Rattle.cga_forest.proofs.Door.{under_cases, under_child, under_none, under_self}
use Rattle.cga_index.proofs.Door.{in_at, in_flat, in_some}
use Rattle.cga_forest.specs.Node.{bounds}
use Rattle.cga_forest.specs.Tree.{ForestView, IsForest, IsLeastHull, IsRootOf, children_at, node_at, under}
use Rattle.cga_forest.specs.Walked.{forest_tree}
use Rattle.cga_update.specs.declared.kept.Kept.{Kept}
use Rattle.cga_update.specs.Stands.{Stands}
use Rattle.cga_city.specs.City.{CityState}
use Rattle.cga_city.specs.Hulls.{IsHullOf}
use Rattle.cga_city.specs.Inside.{AreSound}
use Rattle.cga_city.specs.Lots.{is_bad}
use Rattle.cga_city.specs.Nodes.{AreOfLot, HasNodes, from_root, member_of}
use Rattle.cga_city.proofs.LotNodes.{among_from, lot_listed, lot_to}
use Rattle.cga_city.proofs.Nodes.{among_has, has_among}
use Rattle.cga_city.proofs.Plain.{good_root}
use Rattle.cga_expand.proofs.Door.{root_among}

-- ---- what is listed below a node is under it, and the other way round

module _ (v : ForestView) where
  below_under : (n id c : ℕ) → trees.Member (below (forest_tree v) n id) c → under (children_at v) n id c ≡ true
  unfolding below
  below_under zero id c m = absurd m
  below_under (suc n) id c m = elim m [
    | inl e ↦ ap (under (children_at v) (suc n) id) (sym e) ∙ under_self (children_at v) (suc n) id (omega arith)
    | inr r ↦ (let p = in_some (below (forest_tree v) n) (children_at v id) c r in
        let w = at_member (children_at v id) p.0 p.1 in under_child (children_at v) n id w.0 p.0 c w.1 (below_under n p.0 c p.2))
  ]

  under_below : (n id c : ℕ) → under (children_at v) n id c ≡ true → trees.Member (below (forest_tree v) n id) c
  unfolding below
  under_below zero id c h = let z = under_none (children_at v) id c in absurd (cc)
  under_below (suc n) id c h = elim (under_cases (children_at v) n id c h) [
    | inl e ↦ inl e
    | inr w ↦ inr (in_flat (below (forest_tree v) n) (children_at v id) w.1 c (in_at (children_at v id) w.0 w.1 w.2) (under_below n w.1 c w.3))
  ]

-- ---- the hull

module _ (v : ForestView) (f : IsForest v) (list : List Member) (has : HasNodes v list) (lot : List ℕ) (r : ℕ) (is : (c : ℕ) → (Some r ≡ Some c) ↔ IsRootOf (node_at v) lot c) where
  of_lot : AreOfLot v lot (from_root v (Some r))
  of_lot = (Some r, is, refl)

  pub least_is_hull : (h : Box) → IsLeastHull v r h → IsHullOf lot list h
  unfolding bounds
  least_is_hull h least b = (
    (λ held m among own.
        let p = has.only m.shape m.kind (among_has list m among) in
        let listed = lot_listed v f lot (from_root v (Some r)) of_lot p.0 p.1 p.2 (ap (λ (s : Shape). s.lot) p.3 ∙ own) in
        subst (λ (s : Shape). holds b (box_of s.scope) ≡ true) p.3 ((least b).0 held p.0 p.1 (below_under v 257 r p.0 listed) p.2)),
    (λ all. (least b).1 (λ c d u at.
        let among = among_from v (from_root v (Some r)) c d (under_below v 257 r c u) at in
        let own = lot_to v f lot (from_root v (Some r)) of_lot (member_of d.node) among in
        all (member_of d.node) (has_among list d.node.shape d.node.kind (has.all c d at)) own.4)),
  )

-- ---- the root of each lot

root_by : (lot : Lot) (r : Result Scope ScopeFault) → root_scope lot ≡ r → IsOk r
    → (n : Shape) × (root_of lot ≡ Ok n) × (n.lot ≡ lot.name)
root_by lot (Ok scope) is ok = (root_in lot scope, rw is refl, refl)
root_by lot (Err fault) is ok = (let no : false ≡ true = ok in absurd (cc))

good_at : (lots : List Lot) → AllByRecursion (λ (lot : Lot). is_bad lot ≡ false) lots → (i : ℕ) (lot : Lot)
    → slice_get lots i ≡ Some lot → is_bad lot ≡ false
good_at [] good i lot at = cc
good_at (x ∷ lots) good zero lot at = let same : x ≡ lot = cc in subst (λ (l : Lot). is_bad l ≡ false) same good.0
good_at (x ∷ lots) good (suc i) lot at = good_at lots good.1 i lot at

pub has_root : (s : Sources) → AreSound s → (kept : Kept) → Stands s kept → (i : ℕ) (lot : Lot)
    → slice_get s.lots i ≡ Some lot → (c : ℕ) × IsRootOf (node_at kept.forest) lot.name c
has_root s sound kept stands i lot at =
    let good = good_at s.lots (recursion_from_All (λ (l : Lot). is_bad l ≡ false) s.lots sound.good) i lot at in
    let root = root_by lot (root_scope lot) refl (good_root lot good) in
    let top = stands.forest.nodes.city.tops.tops root.0 (root_among s.lots i lot root.0 at root.1) in
    (top.0, (top.1, top.2, top.3, ap (λ (n : Shape). n.lot) top.4 ∙ root.2))

-- at a place of lots there is one
pub lot_within : (lots : List Lot) (place : ℕ) → place < length lots → slice_get lots place ≡ None → ⊥
lot_within [] place within none = absurd (omega (arith, within))
lot_within (lot ∷ lots) zero within none = absurd (cc)
lot_within (lot ∷ lots) (suc place) within none = lot_within lots place (omega (arith, within)) none

-- and so in what is kept
pub lot_there : (old now : CityState) → old ≡ now → (place : ℕ) → place < length now.sources.lots
    → slice_get old.sources.lots place ≡ None → ⊥
lot_there old now same place within =
    lot_within old.sources.lots place (subst (λ (c : CityState). place < length c.sources.lots) (sym same) within)
