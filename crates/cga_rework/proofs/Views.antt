-- The list of a view, and what a walk of it tells.
use Rattle.std.proofs.Common.{◌≡◌, ℕ, zero, suc, ◌+◌, ◌≤◌, List, [], ◌∷◌, map, length, Bool, true, ◌&&◌, inl, inr, refl, ap, sym, ◌∙◌, subst, arith}
use Rattle.std.specs.Prelude.{Option, Some, None, not, ◌↔◌}
use Rattle.std.specs.Ordering.{is_lt}
use Rattle.cga_tree.specs.Tree.{Seen, View}
use Rattle.cga_order.specs.Stamp.{stamp, stamps_cmp}
use Rattle.cga_order.specs.World.{World, Among, shapes_where, is_instance}
use Rattle.cga_order.specs.declared.placed.Kind.{Kind}
use Rattle.cga_order.specs.Consistent.{exists_at, waits_at}
use Rattle.cga_order.specs.Agenda.{Node, Keeps, members_of}
use Rattle.cga_derivation.proofs.Door.{length-fitted}
use Rattle.cga_order.proofs.Door.{Among-shapes_where, Has-Keeps, Has-from_shapes_where, Keeps-Has, birth-child, root-before}
use Rattle.cga_order.specs.Once.{Once}
use Rattle.cga_agenda.specs.Known.{shapes_of}
use Rattle.cga_rework.specs.Rules.{Shapes, Rules}
use Rattle.cga_rework.specs.Ranked.{Ranked, chain_of, ranked_world}
use Rattle.cga_rework.specs.Nodes.{Content, ranked_of, kept_key, with_node, nodes_of, IsBound}
use Rattle.cga_rework.specs.City.{IsCity}
use Rattle.cga_rework.specs.Views.{one_if, count_of, comes_before, there_at, exists_then, waits_then, IsCounted}
use Rattle.cga_rework.specs.TreeLaws.{ListsAreViews, WalkAsks}
use Rattle.cga_rework.proofs.Lists.{Among-map, map-Among}
use Rattle.cga_rework.proofs.NodeLists.{nat_cases, option_cases, keeps-node, node-keeps}
use Rattle.cga_rework.proofs.Place.{parent_of, keyed, child_rank, same_ranked}
use Rattle.cga_fraction.proofs.Door.{le_or_ge}

module _ {X S A F P : Type 0} (content : Content X S A F P) where
  none_more : (V : View X) (n m : ℕ) → IsBound V n → n ≤ m → nodes_of content V m ≡ nodes_of content V n
  unfolding nodes_of
  none_more V n zero b le = let e : n ≡ 0 = omega (arith, le) in ap (λ k. nodes_of content V k) (sym e)
  none_more V n (suc m) b le = elim (nat_cases n (suc m)) [
    | inl e ↦ ap (λ k. nodes_of content V k) (sym e)
    | inr ne ↦ elim (option_cases (V m)) [
      | inl none ↦ ap (λ o. with_node content o (nodes_of content V m)) none ∙ none_more V n m b (omega arith)
      | inr x ↦ let lt = b m x.0 x.1 in absurd (omega arith)
    ]
  ]

  pub same_bound : (V : View X) (n m : ℕ) → IsBound V n → IsBound V m → nodes_of content V m ≡ nodes_of content V n
  same_bound V n m b c = elim (le_or_ge n m) [
    | inl le ↦ none_more V n m b le
    | inr le ↦ sym (none_more V m n c le)
  ]

  pub same_view : (V T : View X) → ((c : ℕ) → T c ≡ V c) → T ≡ V
  same_view V T same = λ i c. same c i

  pub same_list : (V T : View X) (n m : ℕ) → ((c : ℕ) → T c ≡ V c) → IsBound V n → IsBound V m
      → nodes_of content T m ≡ nodes_of content V n
  same_list V T n m same b c = ap (λ (U : View X). nodes_of content U m) (same_view V T same) ∙ same_bound V n m b c

  size : (T : View X) (n : ℕ) → length (nodes_of content T n) ≡ count_of T n
  unfolding nodes_of
  size T zero = refl
  size T (suc n) = by (T n) (nodes_of content T n) (count_of T n) (size T n)
    where
      by : (o : Option (Seen X)) (l : List (Node (Ranked S) A F P)) (k : ℕ) → length l ≡ k
          → length (with_node content o l) ≡ one_if o + k
      by None l k e = omega (arith, e)
      by (Some d) l k e = omega (arith, e)

module _ {X S A B F P : Type 0} (shapes : Shapes S) (content : Content X S A F P) (rules : Rules S A B F P) (T : View X) (city : IsCity shapes content rules T) where
  abbrev w : World (Ranked S) A F P
  w = ranked_world shapes rules

  abbrev rank : X → Ranked S
  rank x = ranked_of content x

  among-keeps : (nodes : List (Node (Ranked S) A F P)) (m : Ranked S) → Among m (shapes_of (members_of nodes))
      → (k : Kind F P) × (a : A) × Keeps nodes m k a
  among-keeps [] m h = absurd h
  among-keeps (x ∷ xs) m h = elim h [
    | inl e ↦ (x.kind, x.answers, inl (e, refl, refl))
    | inr r ↦ let y = among-keeps xs m r in (y.0, y.1, inr y.2)
  ]

  pub once : (n : ℕ) → Once (shapes_of (members_of (nodes_of content T n)))
  unfolding nodes_of
  once zero = tt
  once (suc n) = by (T n) refl (once n)
    where
      by : (o : Option (Seen X)) → T n ≡ o → Once (shapes_of (members_of (nodes_of content T n)))
          → Once (shapes_of (members_of (with_node content o (nodes_of content T n))))
      by None e h = h
      by (Some d) e h = (
        λ g.
            let k = among-keeps (nodes_of content T n) (rank d.node) g in
            let y = keeps-node content T n (rank d.node) k.0 k.1 k.2 in
            let q = (same_ranked shapes content rules T city y.0 n y.1 d y.2 e y.3).0 in
            let lt = y.6 in
            absurd (omega (arith, q, lt)),
        h,
      )

  -- what of the list passes a test
  by_nodes : (n : ℕ) → IsBound T n → (test : Ranked S → Kind F P → Bool) (m : Ranked S)
      → Among m (shapes_where test (members_of (nodes_of content T n))) ↔
      ((c : ℕ) × (d : Seen X) × (T c ≡ Some d) × (rank d.node ≡ m) × (test m (content.kind d.node) ≡ true))
  by_nodes n b test m = (
    λ h.
        let x = Has-from_shapes_where test (members_of (nodes_of content T n)) m h in
        let k = Keeps-Has (nodes_of content T n) m x.0 x.1 in
        let y = keeps-node content T n m x.0 k.0 k.1 in
        (y.0, y.1, y.2, y.3, ap (test m) y.4 ∙ x.2),
    λ y.
        let k = subst (λ l. Keeps (nodes_of content T n) l (content.kind y.1.node) (content.answers y.1.node)) y.3 (node-keeps content T n y.0 y.1 (b y.0 y.1 y.2) y.2) in
        Among-shapes_where test (members_of (nodes_of content T n)) m (content.kind y.1.node) (Has-Keeps (nodes_of content T n) m (content.kind y.1.node) (content.answers y.1.node) k) y.4,
  )

  -- the tests of the walk are those of the world
  exists_same : (c b : ℕ) (d q : Seen X) → T c ≡ Some d → T b ≡ Some q
      → exists_at w (rank q.node) (rank d.node) (content.kind d.node) ≡ exists_then shapes content T q.node d
  exists_same c b d q t u = elim (option_cases d.parent) [
    | inl top ↦ ap is_lt (root-before shapes.mode (chain_of shapes (rank d.node)) (chain_of shapes (rank q.node)) (city.root c d t top).path) ∙ ap (there_at shapes content T q.node) (sym top)
    | inr up ↦
        let v = parent_of shapes content rules T city c up.0 d t up.1 in
        let born = birth-child shapes.mode (chain_of shapes (rank v.0.node)) d.index
        (chain_of shapes (rank d.node)) (length-fitted (length (shapes.path (content.shape v.0.node)) + 1)
        (content.line v.0.node)) (child_rank shapes content rules T city c up.0 d v.0 t up.1 v.1) in
        ap (λ x. is_lt (stamps_cmp shapes.mode x (stamp shapes.mode (chain_of shapes (rank q.node))))) born
        ∙ ap (λ x. is_lt (stamps_cmp shapes.mode (stamp shapes.mode x) (stamp shapes.mode (chain_of shapes (rank q.node))))) (keyed shapes content rules T city up.0 v.0 v.1)
        ∙ ap (λ x. is_lt (stamps_cmp shapes.mode (stamp shapes.mode (kept_key content shapes v.0.node)) (stamp shapes.mode x))) (keyed shapes content rules T city b q u)
        ∙ ap (λ o. comes_before shapes content T o q.node) (sym v.1)
        ∙ ap (there_at shapes content T q.node) (sym up.1)
  ]

  waits_same : (c b : ℕ) (d q : Seen X) → T c ≡ Some d → T b ≡ Some q
      → waits_at w (rank q.node) (rank d.node) (content.kind d.node) ≡ waits_then shapes content T q.node d
  waits_same c b d q t u =
      ap (λ x. x && not (is_instance (content.kind d.node))
      && is_lt (stamps_cmp shapes.mode (stamp shapes.mode (chain_of shapes (rank q.node)))
      (stamp shapes.mode (chain_of shapes (rank d.node))))) (exists_same c b d q t u)
      ∙ ap (λ x. exists_then shapes content T q.node d && not (is_instance (content.kind d.node))
      && is_lt (stamps_cmp shapes.mode (stamp shapes.mode x) (stamp shapes.mode (chain_of shapes (rank d.node))))) (keyed shapes content rules T city b q u)
      ∙ ap (λ x. exists_then shapes content T q.node d && not (is_instance (content.kind d.node))
      && is_lt (stamps_cmp shapes.mode (stamp shapes.mode (kept_key content shapes q.node))
      (stamp shapes.mode x))) (keyed shapes content rules T city c d t)

  module _ (n : ℕ) (bounded : IsBound T n) (b : ℕ) (q : Seen X) (u : T b ≡ Some q) where
    counted_same : (test : Ranked S → Kind F P → Bool) (walked : Seen X → Bool)
        → ((c : ℕ) (d : Seen X) → T c ≡ Some d → test (rank d.node) (content.kind d.node) ≡ walked d)
        → (counted : List S) → IsCounted content rules T q.node walked counted → (m : S)
        → rules.sees (content.shape q.node) m ≡ true
        → (Among m (map (λ (r : Ranked S). r.shape) (shapes_where test (members_of (nodes_of content T n))))
        → Among m counted)
        × (Among m counted → Among m
        (map (λ (r : Ranked S). r.shape) (shapes_where test (members_of (nodes_of content T n)))))
    counted_same test walked same counted has m sees = (
      λ h.
          let r = Among-map (λ (r : Ranked S). r.shape) (shapes_where test (members_of (nodes_of content T n))) m h in
          let y = (by_nodes n bounded test r.0).0 r.1 in
          let shape : content.shape y.1.node ≡ m = ap (λ (l : Ranked S). l.shape) y.3 ∙ r.2 in
          let passes : walked y.1 ≡ true = sym (same y.0 y.1 y.2) ∙ ap (λ l. test l (content.kind y.1.node)) y.3 ∙ y.4 in
          subst (λ s. Among s counted) shape (has.all y.0 y.1 y.2 passes (ap (rules.sees (content.shape q.node)) shape ∙ sees)),
      λ h.
          let y = has.is m h in
          let passes : test (rank y.1.node) (content.kind y.1.node) ≡ true = same y.0 y.1 y.2 ∙ y.3 in
          let there = (by_nodes n bounded test (rank y.1.node)).1 (y.0, y.1, y.2, refl, passes) in
          subst (λ s. Among s (map (λ (r : Ranked S). r.shape)
          (shapes_where test (members_of (nodes_of content T n))))) y.4
          (map-Among (λ (r : Ranked S). r.shape) (shapes_where test (members_of (nodes_of content T n))) (rank y.1.node) there),
    )

pub walk_asks : {X S A B F P : Type 0} → WalkAsks X S A B F P
walk_asks shapes content old new laws T n bounded city c q u existing waiting ex wt =
    let w = ranked_world shapes new in
    laws.is.local (content.shape q.node) _ _ _ _
    (λ m v. counted_same shapes content new T city n bounded c q u (exists_at w (ranked_of content q.node))
    (exists_then shapes content T q.node) (λ b d t. exists_same shapes content new T city b c d q t u) existing ex m v)
    (λ m v. counted_same shapes content new T city n bounded c q u (waits_at w (ranked_of content q.node))
    (waits_then shapes content T q.node) (λ b d t. waits_same shapes content new T city b c d q t u) waiting wt m v)

-- equal views have equal lists; a list is as long as its view has nodes; in a city each node stands once
pub lists_are_views : {X S A B F P : Type 0} → ListsAreViews X S A B F P
lists_are_views = record {
  same = λ content V T n m same b c. same_list content V T n m same b c;
  size = λ content T n. size content T n;
  once = λ shapes content rules T n city. once shapes content rules T city n;
}
