-- No two nodes of a forest are one member.
use Rattle.std.proofs.Common.{◌≡◌, ℕ, zero, suc, List, [], ◌∷◌, ◌++◌, true, false, refl, sym, ap, ◌∙◌, subst, slice_get, Option, Some, None, inl, inr}
use Rattle.std.specs.List.{AllByRecursion, IsDistinct, Contains, flat_map}
use Rattle.std.proofs.lemmas.Slice.Eq.{bytes_eq-Decides}
use Rattle.cga_order.specs.World.{Among}
use Rattle.cga_order.specs.Once.{Once}
use Rattle.cga_forest.proofs.Door.{inside, keeps_laws}
use Rattle.cga_index.proofs.Door.{in_some}
use Rattle.cga_order.proofs.Door.{Once-append}
use Rattle.cga_expand.specs.Children.{Member}
use Rattle.cga_index.specs.Tree as trees
use Rattle.cga_index.specs.Tree.{below, all_nodes}
use Rattle.cga_forest.specs.View.{Seen}
use Rattle.cga_forest.specs.Roots.{Named, names, same_name}
use Rattle.cga_forest.specs.Tree.{ForestView, IsForest, IsRootOf, node_at}
use Rattle.cga_forest.specs.Walked.{forest_tree}
use Rattle.cga_city.specs.Nodes.{member_of, members_at, members_among}
use Rattle.cga_city.specs.Order.{comes_before}
use Rattle.cga_city.proofs.Sorting.{Rises, all_at}
use Rattle.cga_city.proofs.LotNodes.{among_to, among_from, among_both, root_own, nodes_below, nodes_rise, Below, nodes_from, before_strict}
use Rattle.cga_fraction.proofs.Door.{slice_get_from_Contains as found_at}

-- ---- one root a lot

all_named : (P : List ℕ → Type 0) (es : Named) (j : ℕ) (n : List ℕ) (d : ℕ) → AllByRecursion P (names es)
    → slice_get es j ≡ Some (n, d) → P n
all_named P [] j n d h at = cc
all_named P (e ∷ es) zero n d h at = let q : e ≡ (n, d) = cc in subst P (ap (λ (x : List ℕ × ℕ). x.0) q) h.0
all_named P (e ∷ es) (suc j) n d h at = all_named P es j n d h.1 at

alike : (a n : List ℕ) → a ≡ n → same_name a n ≡ false → ⊥
alike a n e f = let t : same_name a n ≡ true = (bytes_eq-Decides a n).1 e in let q : true ≡ false = sym t ∙ f in cc

distinct_one : (es : Named) → IsDistinct same_name (names es) → (i j : ℕ) (n : List ℕ) (c d : ℕ)
    → slice_get es i ≡ Some (n, c) → slice_get es j ≡ Some (n, d) → i ≡ j
unfolding IsDistinct
distinct_one [] h i j n c d a b = cc
distinct_one (e ∷ es) h zero zero n c d a b = refl
distinct_one (e ∷ es) h zero (suc j) n c d a b = let q : e ≡ (n, c) = cc in absurd (alike e.0 n (ap (λ (x : List ℕ × ℕ). x.0) q) (all_named (λ y. same_name e.0 y ≡ false) es j n d h.0 b))
distinct_one (e ∷ es) h (suc i) zero n c d a b = let q : e ≡ (n, d) = cc in absurd (alike e.0 n (ap (λ (x : List ℕ × ℕ). x.0) q) (all_named (λ y. same_name e.0 y ≡ false) es i n c h.0 a))
distinct_one (e ∷ es) h (suc i) (suc j) n c d a b = ap suc (distinct_one es h.1 i j n c d a b)

module _ (v : ForestView) (f : IsForest v) where
  one_root : (lot : List ℕ) (r s : ℕ) → IsRootOf (node_at v) lot r → IsRootOf (node_at v) lot s → r ≡ s
  one_root lot r s a b =
      let x = found_at v.roots (lot, r) (subst (λ (n : List ℕ). Contains v.roots (n, r)) a.3 (f.tops.all r a.0 a.1 a.2)) in
      let y = found_at v.roots (lot, s) (subst (λ (n : List ℕ). Contains v.roots (n, s)) b.3 (f.tops.all s b.0 b.1 b.2)) in
      let i : x.0 ≡ y.0 = distinct_one v.roots f.tops.apart x.0 y.0 lot r s x.1 y.1 in
      let q : Some (lot, r) ≡ Some (lot, s) = sym x.1 ∙ ap (slice_get v.roots) i ∙ y.1 in
      let p : ◌≡◌ {A = List ℕ × ℕ} (lot, r) (lot, s) = cc in
      ap (λ (e : List ℕ × ℕ). e.1) p

  -- ---- each node once

  rise_once : (ms : List Member) → Rises comes_before ms → Once ms
  rise_once [] h = tt
  rise_once (m ∷ ms) h = ((λ i. before_strict.never m (all_at (λ n. comes_before m n ≡ true) ms m h.0 i)), rise_once ms h.1)

  abbrev nodes_at : List ℕ → List Member
  nodes_at rs = members_among v (flat_map (below (forest_tree v) 257) rs)

  no_roots : nodes_at [] ≡ []
  unfolding members_among
  no_roots = refl

  lot_at : (r : ℕ) (d : Seen) (m : Member) → node_at v r ≡ Some d → Among m (nodes_from v f 257 r)
      → m.shape.lot ≡ d.node.shape.lot
  lot_at r d m h i = let b = all_at (Below v f d.node.shape) (nodes_from v f 257 r) m (nodes_below v f 257 r d h) i in b.2

  roots_once : (rs : List ℕ) → ((r : ℕ) → trees.Member rs r → trees.Member (forest_tree v).roots r) → trees.Apart rs
      → Once (nodes_at rs)
  roots_once [] is apart = subst (λ (ms : List Member). Once ms) (sym no_roots) tt
  roots_once (r ∷ rs) is apart =
      let w = root_own v f r (is r (inl refl)) in
      subst (λ (ms : List Member). Once ms) (sym (among_both v (below (forest_tree v) 257 r) (flat_map (below (forest_tree v) 257) rs)))
      (Once-append (nodes_from v f 257 r) (nodes_at rs) (rise_once _ (nodes_rise v f 257 r w.0 w.2)) (roots_once rs (λ s i. is s (inr i)) apart.1) (λ m i j.
      let x = among_to v (flat_map (below (forest_tree v) 257) rs) m j in
      let p = in_some (below (forest_tree v) 257) rs x.0 x.2 in
      let u = root_own v f p.0 (is p.0 (inr p.1)) in
      let k = subst (λ n. Among n (nodes_from v f 257 p.0)) x.4 (among_from v (below (forest_tree v) 257 p.0) x.0 x.1 p.2 x.3) in
      let lots : u.0.node.shape.lot ≡ w.0.node.shape.lot = sym (lot_at p.0 u.0 m u.2 k) ∙ lot_at r w.0 m w.2 i in
      let same = one_root w.0.node.shape.lot r p.0 w.1 (subst (λ (l : List ℕ). IsRootOf (node_at v) l p.0) lots u.1) in
      apart.0 (subst (trees.Member rs) (sym same) p.1)))

  abbrev all_members : List Member
  all_members = members_among v (all_nodes (forest_tree v))

  once_all : Once all_members
  unfolding all_nodes
  once_all = roots_once (forest_tree v).roots (λ r i. i) (keeps_laws v f).roots_once

  -- so no two nodes are one member
  rest_once : (o : Option Seen) (rest : List Member) → Once (members_at o ++ rest) → Once rest
  rest_once None rest h = h
  rest_once (Some d) rest h = h.1

  first_apart : (o : Option Seen) (rest : List Member) (d : Seen) → o ≡ Some d → Once (members_at o ++ rest)
      → Among (member_of d.node) rest → ⊥
  first_apart o rest d at h i =
      (subst (λ (p : Option Seen). Once (members_at p ++ rest)) at h).0 i

  node_apart : (ns : List ℕ) → Once (members_among v ns) → (c d : ℕ) (x y : Seen) → trees.Member ns c
      → trees.Member ns d → node_at v c ≡ Some x → node_at v d ≡ Some y → member_of x.node ≡ member_of y.node → c ≡ d
  unfolding members_among
  node_apart [] h c d x y i j a b e = absurd i
  node_apart (n ∷ ns) h c d x y i j a b e = elim i [
    | inl p ↦ elim j [
      | inl q ↦ sym p ∙ q
      | inr q ↦ absurd (first_apart (node_at v n) (members_among v ns) x (ap (node_at v) p ∙ a) h (subst (λ m. Among m (members_among v ns)) (sym e) (among_from v ns d y q b)))
    ]
    | inr p ↦ elim j [
      | inl q ↦ absurd (first_apart (node_at v n) (members_among v ns) y (ap (node_at v) q ∙ b) h (subst (λ m. Among m (members_among v ns)) e (among_from v ns c x p a)))
      | inr q ↦ node_apart ns (rest_once (node_at v n) (members_among v ns) h) c d x y p q a b e
    ]
  ]

  pub one_node : (c d : ℕ) (x y : Seen) → node_at v c ≡ Some x → node_at v d ≡ Some y
      → member_of x.node ≡ member_of y.node → c ≡ d
  one_node c d x y a b e =
      node_apart (all_nodes (forest_tree v)) once_all c d x y (inside v f c (x, a)) (inside v f d (y, b)) a b e
