-- The nodes of a lot, and the members that they are.
use Rattle.std.proofs.Common.{◌≡◌, ◌↔◌, ℕ, zero, suc, ◌+◌, ◌-◌, ◌<◌, ◌≤◌, List, [], ◌∷◌, ◌++◌, true, ◌⊎◌}
use Rattle.std.proofs.Common.{inl, inr, refl, sym, ap, ◌∙◌, subst, arith, append_assoc, Option, Some, None, slice_get}
use Rattle.std.specs.List.{AllByRecursion, flat_map}
use Rattle.std.proofs.lemmas.List.{append-nil}
use Rattle.std.proofs.lemmas.Grind.{flat_map-append}
use Rattle.std.proofs.lemmas.Cmp.{nat_list_cmp_total}
use Rattle.std.specs.Cmp.{nat_cmp_is}
use Rattle.std.specs.Cmp.Lexicographic.{slice_cmp}
use Rattle.std.specs.Ordering.{is_lt, nat_cmp, ordering_then}
use Rattle.std.specs.declared.cmp.Ordering.TheVariants.{Less, Equal}
use Rattle.cga_order.specs.World.{Among}
use Rattle.cga_forest.proofs.Door.{inside, local, there}
use Rattle.cga_index.proofs.Door.{in_some, root_in}
use Rattle.cga_order.proofs.Door.{nat_cmp-less}
use Rattle.cga_shape.specs.declared.shape.Shape.{Shape}
use Rattle.cga_expand.specs.Children.{Member}
use Rattle.cga_index.specs.Tree as trees
use Rattle.cga_index.specs.Tree.{below, all_nodes}
use Rattle.cga_forest.specs.View.{Seen}
use Rattle.cga_forest.specs.Tree.{ForestView, IsForest, IsRootOf, children_of, node_at}
use Rattle.cga_forest.specs.Walked.{forest_tree, depth_of}
use Rattle.cga_city.specs.Order.{comes_before}
use Rattle.cga_city.specs.Nodes.{member_of, members_at, members_among, from_root, AreOfLot}
use Rattle.cga_city.proofs.Sorting.{IsStrict, Rises, strict_by, all_at, all_both, all_weaker, rises_both}

-- ---- paths

nat_same : (n : ℕ) → nat_cmp n n ≡ Equal
nat_same n = sym (nat_cmp_is n n Equal refl)

path_below : (p : List ℕ) (i : ℕ) (s : List ℕ) → slice_cmp nat_cmp p (p ++ i ∷ s) ≡ Less
path_below [] i s = refl
path_below (x ∷ p) i s = ap (λ o. ordering_then o (slice_cmp nat_cmp p (p ++ i ∷ s))) (nat_same x) ∙ path_below p i s

path_beside : (p : List ℕ) (i j : ℕ) (s t : List ℕ) → i < j → slice_cmp nat_cmp (p ++ i ∷ s) (p ++ j ∷ t) ≡ Less
path_beside [] i j s t h = ap (λ o. ordering_then o (slice_cmp nat_cmp s t)) (nat_cmp-less i j h)
path_beside (x ∷ p) i j s t h = ap (λ o. ordering_then o (slice_cmp nat_cmp (p ++ i ∷ s) (p ++ j ∷ t))) (nat_same x) ∙ path_beside p i j s t h

-- The order of a report is strict.
pub before_strict : IsStrict comes_before
before_strict = strict_by nat_list_cmp_total (λ (m : Member). m.shape.path)

-- ---- members of nodes

pub at_to : (o : Option Seen) (rest : List Member) (m : Member) → Among m (members_at o ++ rest)
    → ((d : Seen) × (o ≡ Some d) × (member_of d.node ≡ m)) ⊎ Among m rest
at_to None rest m h = inr h
at_to (Some d) rest m h = elim h [ inl e ↦ inl (d, refl, e) | inr r ↦ inr r ]

pub at_from : (o : Option Seen) (rest : List Member) (d : Seen) → o ≡ Some d
    → Among (member_of d.node) (members_at o ++ rest)
at_from o rest d e = subst (λ (p : Option Seen). Among (member_of d.node) (members_at p ++ rest)) (sym e) (inl refl)

pub at_rest : (o : Option Seen) (rest : List Member) (m : Member) → Among m rest → Among m (members_at o ++ rest)
at_rest None rest m h = h
at_rest (Some d) rest m h = inr h

module _ (v : ForestView) where
  pub among_both : (xs ys : List ℕ) → members_among v (xs ++ ys) ≡ members_among v xs ++ members_among v ys
  unfolding members_among
  among_both xs ys = flat_map-append (λ n. members_at (node_at v n)) xs ys

  pub among_to : (ns : List ℕ) (m : Member) → Among m (members_among v ns)
      → (c : ℕ) × (d : Seen) × trees.Member ns c × (node_at v c ≡ Some d) × (member_of d.node ≡ m)
  unfolding members_among
  among_to [] m h = absurd h
  among_to (n ∷ ns) m h = elim (at_to (node_at v n) (members_among v ns) m h) [
    | inl w ↦ (n, w.0, inl refl, w.1, w.2)
    | inr r ↦ let w = among_to ns m r in (w.0, w.1, inr w.2, w.3, w.4)
  ]

  pub among_from : (ns : List ℕ) (c : ℕ) (d : Seen) → trees.Member ns c → node_at v c ≡ Some d
      → Among (member_of d.node) (members_among v ns)
  unfolding members_among
  among_from [] c d i h = absurd i
  among_from (n ∷ ns) c d i h = elim i [
    | inl e ↦ at_from (node_at v n) (members_among v ns) d (ap (node_at v) e ∙ h)
    | inr r ↦ at_rest (node_at v n) (members_among v ns) (member_of d.node) (among_from ns c d r h)
  ]

module _ (v : ForestView) (f : IsForest v) where
  -- the node or below it
  abbrev pub Below : Shape → Member → Type 0
  Below s m = (t : List ℕ) × (m.shape.path ≡ s.path ++ t) × (m.shape.lot ≡ s.lot)

  -- at or below a child from number i on
  abbrev From : Shape → ℕ → Member → Type 0
  From s i m = (j : ℕ) × (t : List ℕ) × (i ≤ j) × (m.shape.path ≡ s.path ++ j ∷ t) × (m.shape.lot ≡ s.lot)

  -- these are children from number i on
  abbrev AreFrom : Seen → ℕ → List ℕ → Type 0
  AreFrom d i cs = (k c : ℕ) → slice_get cs k ≡ Some c → (e : Seen) × (node_at v c ≡ Some e) × (e.node.shape.path ≡ d.node.shape.path ++ (i + k) ∷ []) × (e.node.shape.lot ≡ d.node.shape.lot)

  kids_from : (r : ℕ) (d : Seen) → node_at v r ≡ Some d → AreFrom d 0 d.children
  kids_from r d h k c at =
      let x = f.present.tree.down r k c d h at in
      let b = f.present.places.child c r x.0 d x.1 x.2 h in
      let n : x.0.index ≡ 0 + k = (let e = x.4 in omega arith) in
      (x.0, x.1, b.path ∙ ap (λ j. d.node.shape.path ++ j ∷ []) n, b.lot)

  tail_from : (d : Seen) (i c : ℕ) (cs : List ℕ) → AreFrom d i (c ∷ cs) → AreFrom d (i + 1) cs
  tail_from d i c cs h k e at =
      let w = h (suc k) e at in
      let n : i + suc k ≡ i + 1 + k = omega arith in
      (w.0, w.1, w.2 ∙ ap (λ j. d.node.shape.path ++ j ∷ []) n, w.3)

  -- the members of a node and those below it, so many levels in all, and those of some children
  abbrev pub nodes_from : ℕ → ℕ → List Member
  nodes_from n r = members_among v (below (forest_tree v) n r)

  abbrev nodes_of : ℕ → List ℕ → List Member
  nodes_of n cs = members_among v (flat_map (below (forest_tree v) n) cs)

  more_nodes : (n r : ℕ) (d : Seen) → node_at v r ≡ Some d
      → nodes_from (suc n) r ≡ member_of d.node ∷ nodes_of n d.children
  unfolding members_among below
  more_nodes n r d h = ap (λ (o : Option Seen). members_at o ++ members_among v (flat_map (below (forest_tree v) n) (children_of o))) h

  no_nodes : (r : ℕ) → nodes_from 0 r ≡ []
  unfolding members_among below
  no_nodes r = refl

  no_kids : (n : ℕ) → nodes_of n [] ≡ []
  unfolding members_among
  no_kids n = refl

  more_kids : (n c : ℕ) (cs : List ℕ) → nodes_of n (c ∷ cs) ≡ nodes_from n c ++ nodes_of n cs
  more_kids n c cs = among_both v (below (forest_tree v) n c) (flat_map (below (forest_tree v) n) cs)

  kids_all : (n : ℕ)
      → ((r : ℕ) (d : Seen) → node_at v r ≡ Some d → AllByRecursion (Below d.node.shape) (nodes_from n r))
      → (d : Seen) (i : ℕ) (cs : List ℕ) → AreFrom d i cs → AllByRecursion (From d.node.shape i) (nodes_of n cs)
  kids_all n ih d i [] h = subst (AllByRecursion (From d.node.shape i)) (sym (no_kids n)) tt
  kids_all n ih d i (c ∷ cs) h =
      let w = h 0 c refl in
      subst (AllByRecursion (From d.node.shape i)) (sym (more_kids n c cs)) (all_both (From d.node.shape i) (nodes_from n c) (nodes_of n cs)
      (all_weaker (Below w.0.node.shape) (From d.node.shape i)
      (λ m b. (
        i + 0,
        b.0,
        omega arith,
        b.1 ∙ ap (λ p. p ++ b.0) w.2 ∙ append_assoc d.node.shape.path
            ((i + 0) ∷ []) b.0,
        b.2 ∙ w.3,
      )) (nodes_from n c) (ih c w.0 w.1))
      (all_weaker (From d.node.shape (i + 1)) (From d.node.shape i) (λ m b. let l = b.2 in (b.0, b.1, omega arith, b.3, b.4)) (nodes_of n cs) (kids_all n ih d (i + 1) cs (tail_from d i c cs h))))

  pub nodes_below : (n r : ℕ) (d : Seen) → node_at v r ≡ Some d → AllByRecursion (Below d.node.shape) (nodes_from n r)
  nodes_below zero r d h = subst (AllByRecursion (Below d.node.shape)) (sym (no_nodes r)) tt
  nodes_below (suc n) r d h = subst (AllByRecursion (Below d.node.shape)) (sym (more_nodes n r d h)) (
    ([], sym (append-nil d.node.shape.path), refl),
    all_weaker (From d.node.shape 0) (Below d.node.shape) (λ m b. (b.0 ∷ b.1, b.3, b.4)) (nodes_of n d.children) (kids_all n (λ c e k. nodes_below n c e k) d 0 d.children (kids_from r d h)),
  )

  kids_rise : (n : ℕ) → ((r : ℕ) (d : Seen) → node_at v r ≡ Some d → Rises comes_before (nodes_from n r))
      → (d : Seen) (i : ℕ) (cs : List ℕ) → AreFrom d i cs → Rises comes_before (nodes_of n cs)
  kids_rise n ih d i [] h = subst (Rises comes_before) (sym (no_kids n)) tt
  kids_rise n ih d i (c ∷ cs) h =
      let w = h 0 c refl in
      subst (Rises comes_before) (sym (more_kids n c cs)) (rises_both comes_before (nodes_from n c) (nodes_of n cs) (ih c w.0 w.1) (kids_rise n ih d (i + 1) cs (tail_from d i c cs h)) (λ x y a b.
      let l = all_at (Below w.0.node.shape) (nodes_from n c) x (nodes_below n c w.0 w.1) a in
      let r = all_at (From d.node.shape (i + 1)) (nodes_of n cs) y (kids_all n (λ c e k. nodes_below n c e k) d (i + 1) cs (tail_from d i c cs h)) b in
      let p : x.shape.path ≡ d.node.shape.path ++ (i + 0) ∷ l.0 = l.1 ∙ ap (λ p. p ++ l.0) w.2 ∙ append_assoc d.node.shape.path ((i + 0) ∷ []) l.0 in
      let lt = r.2 in
      ap (λ q. is_lt (slice_cmp nat_cmp q y.shape.path)) p
      ∙ ap (λ q. is_lt (slice_cmp nat_cmp (d.node.shape.path ++ (i + 0) ∷ l.0) q)) r.3
      ∙ ap is_lt (path_beside d.node.shape.path (i + 0) r.0 l.0 r.1 (omega arith))))

  pub nodes_rise : (n r : ℕ) (d : Seen) → node_at v r ≡ Some d → Rises comes_before (nodes_from n r)
  nodes_rise zero r d h = subst (Rises comes_before) (sym (no_nodes r)) tt
  nodes_rise (suc n) r d h = subst (Rises comes_before) (sym (more_nodes n r d h)) (
    all_weaker (From d.node.shape 0) (λ m. comes_before (member_of d.node) m ≡ true)
        (λ m b. ap (λ q. is_lt (slice_cmp nat_cmp d.node.shape.path q)) b.3
        ∙ ap is_lt (path_below d.node.shape.path b.0 b.1)) (nodes_of n d.children) (kids_all n (λ c e k. nodes_below n c e k) d 0 d.children (kids_from r d h)),
    kids_rise n (λ c e k. nodes_rise n c e k) d 0 d.children (kids_from r d h),
  )

-- ---- the nodes of a lot

module _ (v : ForestView) (f : IsForest v) where
  no_parent : (c : ℕ) (d : Seen) → node_at v c ≡ Some d → d.depth ≡ 0 → (o : Option ℕ) → d.parent ≡ o → d.parent ≡ None
  no_parent c d h top None e = e
  no_parent c d h top (Some p) e =
      let u = f.present.tree.up c p d h e in
      let w = f.present.tree.down p d.index c u.0 u.1 u.2 in
      let same : Some w.0 ≡ Some d = sym w.1 ∙ h in
      let q : w.0 ≡ d = (cc) in
      let deep : d.depth ≡ u.0.depth + 1 = ap (λ (x : Seen). x.depth) (sym q) ∙ w.3 in
      absurd (omega (arith, deep, top))

  -- a root of the tree is the root of its lot
  pub root_own : (r : ℕ) → trees.Member (forest_tree v).roots r
      → (d : Seen) × IsRootOf (node_at v) d.node.shape.lot r × (node_at v r ≡ Some d)
  root_own r i =
      let p = there v f r (root_in (forest_tree v) r i) in
      let top : p.0.depth ≡ 0 = ap depth_of (sym p.1) ∙ (local v f).at_root r i in
      (p.0, (p.0, p.1, no_parent r p.0 p.1 top p.0.parent refl, refl), p.1)

pub root_deep : (v : ForestView) → IsForest v → (lot : List ℕ) (r : ℕ) → IsRootOf (node_at v) lot r
    → 257 + depth_of (node_at v r) ≡ 257
root_deep v f lot r w = let top = f.present.tree.at_root r w.0 w.1 w.2 in let e = ap depth_of w.1 in omega arith

module _ (v : ForestView) (f : IsForest v) (lot : List ℕ) where
  some_rise : (o : Option ℕ) → ((c : ℕ) → (o ≡ Some c) ↔ IsRootOf (node_at v) lot c)
      → Rises comes_before (members_among v (from_root v o))
  unfolding members_among
  some_rise None is = tt
  some_rise (Some r) is = let w = (is r).0 refl in nodes_rise v f 257 r w.0 w.1

  pub lot_rises : (nodes : List ℕ) → AreOfLot v lot nodes → Rises comes_before (members_among v nodes)
  lot_rises nodes of = subst (λ ns. Rises comes_before (members_among v ns)) (sym of.2) (some_rise of.0 of.1)

  some_to : (o : Option ℕ) → ((c : ℕ) → (o ≡ Some c) ↔ IsRootOf (node_at v) lot c) → (m : Member)
      → Among m (members_among v (from_root v o))
      → (c : ℕ) × (d : Seen) × (node_at v c ≡ Some d) × (member_of d.node ≡ m) × (m.shape.lot ≡ lot)
  some_to None is m h = let w = among_to v [] m h in absurd w.2
  some_to (Some r) is m h =
      let w = (is r).0 refl in
      let b = all_at (Below v f w.0.node.shape) (nodes_from v f 257 r) m (nodes_below v f 257 r w.0 w.1) h in
      let x = among_to v (below (forest_tree v) 257 r) m h in
      (x.0, x.1, x.3, x.4, b.2 ∙ w.3)

  pub lot_to : (nodes : List ℕ) → AreOfLot v lot nodes → (m : Member) → Among m (members_among v nodes)
      → (c : ℕ) × (d : Seen) × (node_at v c ≡ Some d) × (member_of d.node ≡ m) × (m.shape.lot ≡ lot)
  lot_to nodes of m h = some_to of.0 of.1 m (subst (λ ns. Among m (members_among v ns)) of.2 h)

  -- each node of the lot is listed
  pub lot_listed : (nodes : List ℕ) → AreOfLot v lot nodes → (c : ℕ) (d : Seen) → node_at v c ≡ Some d
      → d.node.shape.lot ≡ lot → trees.Member nodes c
  unfolding all_nodes
  lot_listed nodes of c d h own =
      let p = in_some (below (forest_tree v) 257) (forest_tree v).roots c (inside v f c (d, h)) in
      let w = root_own v f p.0 p.1 in
      let i = among_from v (below (forest_tree v) 257 p.0) c d p.2 h in
      let b = all_at (Below v f w.0.node.shape) (nodes_from v f 257 p.0) (member_of d.node) (nodes_below v f 257 p.0 w.0 w.2) i in
      let root : IsRootOf (node_at v) lot p.0 = subst (λ (l : List ℕ). IsRootOf (node_at v) l p.0) (sym b.2 ∙ own) w.1 in
      let e : nodes ≡ below (forest_tree v) 257 p.0 = of.2 ∙ ap (from_root v) ((of.1 p.0).1 root) in
      subst (λ ns. trees.Member ns c) (sym e) p.2

  pub lot_from : (nodes : List ℕ) → AreOfLot v lot nodes → (c : ℕ) (d : Seen) → node_at v c ≡ Some d
      → d.node.shape.lot ≡ lot → Among (member_of d.node) (members_among v nodes)
  lot_from nodes of c d h own = among_from v nodes c d (lot_listed nodes of c d h own) h
