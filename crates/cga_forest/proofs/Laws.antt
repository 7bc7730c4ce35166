-- A forest keeps the laws of a tree of boxes; also one in which only those nodes ask that were there at the mark.
use Rattle.std.proofs.Common.{◌≡◌, ◌⊎◌, inl, inr, ℕ, ◌+◌, List, length, Bool, true, false, refl, ap, sym, ◌∙◌, arith, subst}
use Rattle.std.specs.Prelude.{Option, Some, None, is_some, not, slice_get, if◌then◌else◌}
use Rattle.cga_frame.specs.Box.{Box, holds, is_box}
use Rattle.cga_frame.specs.Scope.{far_of}
use Rattle.cga_fraction.proofs.Door.{cases_Option as opt_two, lt-length_from_slice_get_nat as within}
use Rattle.cga_frame.proofs.Door.{corners_box, holds_itself}
use Rattle.cga_index.proofs.Door.{in_present, present_in, lasting_laws as tree_laws, in_at as member_at, member_at as at_member}
use Rattle.cga_index.specs.Lasting.{ParentsLast}
use Rattle.cga_index.specs.Tree.{TreeView, Member, Apart, InTree, IsHullTree, LiesIn}
use Rattle.cga_index.specs.Local.{IsLocalTree}
use Rattle.cga_kept_hulls.specs.declared.hulls.Hulls.{Hulls}
use Rattle.cga_forest.specs.declared.node.Node.{Node}
use Rattle.cga_forest.specs.Node.{bounds}
use Rattle.cga_kept_hulls.specs.Hull.{over}
use Rattle.cga_forest.specs.Hull.{own_hulls}
use Rattle.cga_forest.specs.declared.slot_entry.SlotEntry.{SlotEntry}
use Rattle.cga_forest.specs.declared.former.Former.{Former}
use Rattle.cga_forest.specs.View.{Seen, kids, marked_of, restored, seen}
use Rattle.cga_forest.proofs.Marks.{marked_plain}
use Rattle.cga_forest.proofs.Present.{kids_present, parent_present, present_some}
use Rattle.cga_forest.proofs.Right.{is_there}
use Rattle.cga_forest.specs.Tree.{ForestView, IsForest, slot_at, node_at, marked_at, hulls_at, children_at, children_of, parent_of}
use Rattle.cga_forest.specs.Walked.{forest_tree, lasting_tree, was_marked, own_of, asks_of, depth_of, all_of, asking_of}
use Rattle.cga_marked.specs.Map.{ids}
use Rattle.cga_marked.proofs.Door.{at_contains, contains_at}
use Rattle.cga_forest.proofs.Ids.{id_named, named_id, ids_once}
use Rattle.cga_kept_hulls.proofs.Door.{Every, Asking, Nobody, Probe, probed, opt_holds, alike_probed, over_own, over_child}
use Rattle.cga_forest.proofs.Least.{own_asks, own_none, none_is}
use Rattle.cga_forest.proofs.Moves.{apart_by_place}

-- low is at most high in a node's box
node_boxed : (n : Node) → is_box (bounds n) ≡ true
unfolding bounds
node_boxed n = corners_box n.shape.scope.at (far_of n.shape.scope)

module _ (v : ForestView) (f : IsForest v) where
  abbrev There : ℕ → Type 0
  There n = (d : Seen) × (node_at v n ≡ Some d)

  abbrev t : TreeView
  t = forest_tree v

  kid_place : (n c : ℕ) (d : Seen) → node_at v n ≡ Some d → Member (children_at v n) c
      → (i : ℕ) × (slice_get d.children i ≡ Some c)
  kid_place n c d h m = at_member d.children c (subst (λ (o : Option Seen). Member (children_of o) c) h m)

  kid : (n c : ℕ) (d : Seen) → node_at v n ≡ Some d → Member (children_at v n) c
      → (e : Seen) × (node_at v c ≡ Some e) × (e.parent ≡ Some n) × (e.depth ≡ d.depth + 1)
  kid n c d h m = let w = kid_place n c d h m in let r = f.present.tree.down n w.0 c d h w.1 in (r.0, r.1, r.2, r.3)

  parent_cases : (n : ℕ) (d : Seen) → node_at v n ≡ Some d → (o : Option ℕ) → d.parent ≡ o
      → Member (ids v.roots) n ⊎ ((p : ℕ) × There p × Member (children_at v p) n)
  parent_cases n d h None q = let w = at_contains v.roots (d.node.shape.lot, n) (f.tops.all n d h q) in inl (named_id v.roots w.0 d.node.shape.lot n w.1)
  parent_cases n d h (Some p) q = let u = f.present.tree.up n p d h q in inr (p, (u.0, u.1), subst (λ (o : Option Seen). Member (children_of o) n) (sym u.1) (member_at u.0.children d.index n u.2))

  root_there : (r : ℕ) → Member (ids v.roots) r → (d : Seen) × (node_at v r ≡ Some d) × (d.parent ≡ None)
  root_there r m =
      let k = id_named v.roots r m in
      let w = f.tops.each k.1 r (contains_at v.roots k.0 (k.1, r) k.2) in (w.0, w.1, w.2)

  named_once : (n m : List ℕ) (c i j : ℕ) → slice_get v.roots i ≡ Some (n, c) → slice_get v.roots j ≡ Some (m, c)
      → n ≡ m
  named_once n m c i j p q =
      let a = f.tops.each n c (contains_at v.roots i (n, c) p) in
      let b = f.tops.each m c (contains_at v.roots j (m, c) q) in
      let z : Some a.0 ≡ Some b.0 = sym a.1 ∙ b.1 in
      let y : a.0 ≡ b.0 = (cc) in
      sym a.3 ∙ ap (λ (x : Seen). x.node.shape.lot) y ∙ b.3

  -- In the tree of a forest each law can be checked at one node.
  pub local : IsLocalTree (forest_tree v) There
  local = record {
    root_present = λ r m. let w = root_there r m in (w.0, w.1);
    child_present = λ n c p m. let w = kid n c p.0 p.1 m in (w.0, w.1);
    placed = λ n p. parent_cases n p.0 p.1 p.0.parent refl;
    at_root = λ r m. let w = root_there r m in ap depth_of w.1 ∙ f.present.tree.at_root r w.0 w.1 w.2;
    at_child = λ n c p m. let w = kid n c p.0 p.1 m in let a = ap depth_of w.1 in let b = ap depth_of p.1 in let e = w.3 in omega arith;
    shallow = λ n p. let b = ap depth_of p.1 in let s = f.present.tree.shallow n p.0 p.1 in omega arith;
  }

  -- A node of the forest's tree is there.
  pub there : (n : ℕ) → InTree (forest_tree v) n → There n
  there n m = in_present (forest_tree v) There local n m

  -- A node that is there is in the forest's tree.
  pub inside : (n : ℕ) → There n → InTree (forest_tree v) n
  inside n p = present_in (forest_tree v) There local n p

  -- the node's hulls, from its own box and its children's
  abbrev made : Seen → Hulls
  made d = over (hulls_at v) (own_hulls d.node) d.children (length d.children)

  abbrev got : (n : ℕ) (d : Seen) → node_at v n ≡ Some d → Hulls
  got n d h = (f.present.right n d h).0

  hulls_is : (n : ℕ) (d : Seen) (h : node_at v n ≡ Some d) → hulls_at v n ≡ Some (got n d h)
  hulls_is n d h = (f.present.right n d h).1

  -- a test of a node's hulls goes over to its own and to a child's
  module _ (p : Probe) where
    as_made : (n : ℕ) (d : Seen) (h : node_at v n ≡ Some d) → probed p (got n d h) ≡ true → probed p (made d) ≡ true
    as_made n d h on = sym (alike_probed p (got n d h) (made d) (f.present.right n d h).2) ∙ on

    to_own : (n : ℕ) (d : Seen) (h : node_at v n ≡ Some d) → probed p (got n d h) ≡ true
        → probed p (own_hulls d.node) ≡ true
    to_own n d h on = over_own p (hulls_at v) (own_hulls d.node) d.children (length d.children) (as_made n d h on)

    to_child : (n c : ℕ) (d e : Seen) (h : node_at v n ≡ Some d) → Member (children_at v n) c
        → (u : node_at v c ≡ Some e) → probed p (got n d h) ≡ true → probed p (got c e u) ≡ true
    to_child n c d e h m u on = let w = kid_place n c d h m in over_child p (hulls_at v) (own_hulls d.node)
        d.children (length d.children) (as_made n d h on) w.0 c (got c e u) (within d.children w.0 c w.1) w.1 (hulls_is c e u)

  own_holds : (n : ℕ) (d : Seen) → node_at v n ≡ Some d → holds (all_of (hulls_at v n)) (own_of (node_at v n)) ≡ true
  own_holds n d h = rw (hulls_is n d h, h) (to_own (Every (got n d h).all) n d h (holds_itself (got n d h).all))

  kid_holds : (n c : ℕ) (d e : Seen) → node_at v n ≡ Some d → Member (children_at v n) c → node_at v c ≡ Some e
      → holds (all_of (hulls_at v n)) (all_of (hulls_at v c)) ≡ true
  kid_holds n c d e h m u = rw (hulls_is n d h, hulls_is c e u) (to_child (Every (got n d h).all) n c d e h m u (holds_itself (got n d h).all))

  asks_at : (n : ℕ) (d : Seen) → node_at v n ≡ Some d → asks_of (node_at v n) ≡ true
      → LiesIn (asking_of (hulls_at v n)) (own_of (node_at v n))
  asks_at n d h on = rw (hulls_is n d h, h) (elim (opt_two (got n d h).asking) [
    | inl none ↦ (
        let z : d.node.asks ≡ false = own_none d.node (to_own Nobody n d h (ap (λ o. not (is_some o)) none)) in
        let y : d.node.asks ≡ true = ap asks_of (sym h) ∙ on in absurd (cc))
    | inr a ↦ (a.0, a.1, own_asks a.0 d.node (to_own (Asking a.0) n d h (ap (opt_holds a.0) a.1 ∙ holds_itself a.0)) (ap asks_of (sym h) ∙ on))
  ])

  asks_under : (n c : ℕ) (d e : Seen) (b : Box) → node_at v n ≡ Some d → Member (children_at v n) c
      → node_at v c ≡ Some e → asking_of (hulls_at v c) ≡ Some b → LiesIn (asking_of (hulls_at v n)) b
  asks_under n c d e b h m u q =
      let qe : (got c e u).asking ≡ Some b = ap asking_of (sym (hulls_is c e u)) ∙ q in
      rw (hulls_is n d h) (elim (opt_two (got n d h).asking) [
        | inl none ↦ (
            let z = none_is (got c e u).asking (to_child Nobody n c d e h m u (ap (λ o. not (is_some o)) none)) in
            let y : None ≡ Some b = sym z ∙ qe in absurd (cc))
        | inr a ↦ (a.0, a.1, ap (opt_holds a.0) (sym qe) ∙ to_child (Asking a.0) n c d e h m u (ap (opt_holds a.0) a.1 ∙ holds_itself a.0))
      ])

  kids_once : (n : ℕ) (d : Seen) → node_at v n ≡ Some d → Apart (children_at v n)
  kids_once n d h = subst (λ (o : Option Seen). Apart (children_of o)) (sym h) (apart_by_place d.children (λ i j c p q.
      let a = f.present.tree.down n i c d h p in
      let b = f.present.tree.down n j c d h q in
      let z : Some a.0 ≡ Some b.0 = sym a.1 ∙ b.1 in
      let y : a.0 ≡ b.0 = (cc) in
      sym a.4 ∙ ap (λ (x : Seen). x.index) y ∙ b.4))

  same_parent : (a b c : ℕ) (d e : Seen) → node_at v a ≡ Some d → node_at v b ≡ Some e → Member (children_at v a) c
      → Member (children_at v b) c → a ≡ b
  same_parent a b c d e h u m k =
      let x = kid a c d h m in
      let y = kid b c e u k in
      let z : Some x.0 ≡ Some y.0 = sym x.1 ∙ y.1 in
      let w : x.0 ≡ y.0 = (cc) in
      let p : Some a ≡ Some b = sym x.2 ∙ ap (λ (s : Seen). s.parent) w ∙ y.2 in (cc)

  -- The tree of a forest keeps the laws of `HullTree`.
  pub keeps_laws : IsHullTree (forest_tree v)
  keeps_laws = record {
    roots_once = ids_once v.roots f.tops.apart named_once;
    children_once = λ n m. let p = there n m in kids_once n p.0 p.1;
    one_parent = λ a b c ma mb ca cb. let p = there a ma in let q = there b mb in same_parent a b c p.0 q.0 p.1 q.1 ca cb;
    at_root = local.at_root;
    at_child = λ n c m k. local.at_child n c (there n m) k;
    closed = λ n c m k. inside c (local.child_present n c (there n m) k);
    shallow = λ n m. local.shallow n (there n m);
    boxed = λ n m. let p = there n m in ap (λ o. is_box (own_of o)) p.1 ∙ node_boxed p.0.node;
    holds_own = λ n m. let p = there n m in own_holds n p.0 p.1;
    holds_children = λ n c m k. let p = there n m in let w = kid n c p.0 p.1 k in kid_holds n c p.0 w.0 p.1 k w.1;
    asks_own = λ n m on. let p = there n m in asks_at n p.0 p.1 on;
    asks_below = λ n c b m k q. let p = there n m in let w = kid n c p.0 p.1 k in asks_under n c p.0 w.0 b p.1 k w.1 q;
  }

-- ---- at the forest's slots

module _ (v w : ForestView) (same : v ≡ w) (f : IsForest v) (n k : ℕ) (id : k ≡ n) (m : InTree (forest_tree w) n) where
  node_there : (d : Seen) × (node_at v k ≡ Some d)
  node_there = let p = there v f n (subst (λ (x : ForestView). InTree (forest_tree x) n) (sym same) m) in (p.0, ap (node_at v) id ∙ p.1)

  node_same : node_at v k ≡ node_at w n
  node_same = ap (node_at v) id ∙ ap (λ (x : ForestView). node_at x n) same

  pub slot_inside : is_some (slot_at v k) ≡ true
  slot_inside = let x = present_some (slot_at v k) node_there.0 node_there.1 in ap is_some x.1

  pub node_inside : (x : SlotEntry) → slot_at v k ≡ Some x → node_at w n ≡ Some (seen x)
  node_inside x h =
      let y = present_some (slot_at v k) node_there.0 node_there.1 in
      let z : Some x ≡ Some y.0 = sym h ∙ y.1 in
      let q : x ≡ y.0 = (cc) in
      sym node_same ∙ node_there.1 ∙ ap (λ d. Some d) (sym y.2) ∙ ap (λ (e : SlotEntry). Some (seen e)) (sym q)

  pub kids_inside : kids (slot_at v k) ≡ children_at w n
  kids_inside = kids_present (slot_at v k) node_there.0 node_there.1 ∙ ap children_of (sym node_there.1 ∙ node_same)

pub laws_inside : (v w : ForestView) → v ≡ w → IsForest v → IsHullTree (forest_tree w)
laws_inside v w same f = subst (λ (x : ForestView). IsHullTree (forest_tree x)) same (keeps_laws v f)

pub in_inside : (v w : ForestView) → v ≡ w → IsForest v → (n : ℕ) → is_some (node_at w n) ≡ true
    → InTree (forest_tree w) n
in_inside v w same f n h = subst (λ (x : ForestView). InTree (forest_tree x) n) same (inside v f n (is_there (node_at v n) (ap (λ (x : ForestView). is_some (node_at x n)) same ∙ h)))

-- ---- in which only those nodes ask that were there at the mark

-- a node has the parent that it had at the mark
marked_parent : (s : Option SlotEntry) (b : Seen) → marked_of s ≡ Some b → b.parent ≡ parent_of s
marked_parent None b m = let z : None ≡ Some b = m in absurd (cc)
marked_parent (Some x) b m = by_books x.created x.former m
  where
    by_books : (created : Bool) (former : Option Former)
        → (if created then None else Some (seen (restored x former))) ≡ Some b → b.parent ≡ x.parent
    by_books true former e = let z : None ≡ Some b = e in absurd (cc)
    by_books false None e = let z : Some (seen x) ≡ Some b = e in let y : seen x ≡ b = (cc) in ap (λ (d : Seen). d.parent) (sym y)
    by_books false (Some f) e = let z : Some (seen (restored x (Some f))) ≡ Some b = e in let y : seen (restored x (Some f)) ≡ b = (cc) in ap (λ (d : Seen). d.parent) (sym y)

module _ (v : ForestView) (f : IsForest v) where
  parents_last : ParentsLast (forest_tree v) (was_marked v)
  parents_last n c m k on =
      let p = there v f n m in
      let w = kid v f n c p.0 p.1 k in
      let b = is_there (marked_at v c) on in
      by_mark p.0 p.1 b.0 b.1 (marked_parent (slot_at v c) b.0 b.1 ∙ (parent_present (slot_at v c) w.0 w.1 ∙ w.2)) v.marking refl
    where
      by_mark : (d : Seen) → node_at v n ≡ Some d → (b : Seen) → marked_at v c ≡ Some b → b.parent ≡ Some n
          → (marking : Bool) → v.marking ≡ marking → is_some (marked_at v n) ≡ true
      by_mark d h b q up true is = ap is_some ((f.marked is).tree.up c n b q up).1
      by_mark d h b q up false is = ap is_some (marked_plain (slot_at v n) (f.plain is n) ∙ h)

  -- So does the tree in which only those ask that were there at the mark.
  pub lasting_laws : IsHullTree (lasting_tree v)
  lasting_laws = tree_laws (forest_tree v) (was_marked v) (keeps_laws v f) parents_last
