-- Where the nodes of a kept tree stand.
use Rattle.std.proofs.Common.{◌≡◌, ℕ, zero, suc, ◌+◌, List, [], ◌∷◌, ◌++◌, length, true, false, inl, inr, refl, ap, sym, ◌∙◌, subst, arith, length-append}
use Rattle.std.specs.Prelude.{Some, None, slice_get}
use Rattle.cga_tree.specs.Tree.{Seen, View}
use Rattle.cga_order.specs.Chain.{IsChild}
use Rattle.cga_order.specs.Stamp.{stamp, stamps_cmp}
use Rattle.cga_order.specs.World.{World, Among, IsEarlier, stamp_of}
use Rattle.cga_order.specs.declared.placed.Kind.{Kind}
use Rattle.cga_order.specs.Agenda.{Node, Keeps}
use Rattle.cga_order.specs.Agenda as agenda
use Rattle.cga_agenda.proofs.Door.{path_not_empty}
use Rattle.cga_derivation.proofs.Door.{fitted-same}
use Rattle.cga_order.proofs.Door.{snoc-same}
use Rattle.cga_rework.specs.Rules.{Shapes, Rules}
use Rattle.cga_rework.specs.Ranked.{Ranked, chain_of, ranked_world}
use Rattle.cga_rework.specs.Nodes.{Content, ranked_of, kept_key, nodes_of, IsBound, ComesLater}
use Rattle.cga_rework.specs.City.{IsCity}
use Rattle.cga_rework.proofs.Lists.{Among-map, map-Among}
use Rattle.cga_rework.proofs.NodeLists.{option_cases, some_same, keeps-node, node-keeps}

-- a root, ranked by the rules
abbrev pub root_ranked : {S A B F P : Type 0} → Rules S A B F P → S → Ranked S
root_ranked rules s = record { shape = s; priorities = rules.priority s ∷ [] }

module _ {X S A B F P : Type 0} (shapes : Shapes S) (content : Content X S A F P) (rules : Rules S A B F P) where
  abbrev pub w : World (Ranked S) A F P
  w = ranked_world shapes rules

  -- what a node holds, as a ranked shape
  abbrev pub rank : X → Ranked S
  rank x = ranked_of content x

  abbrev pub lot : X → List ℕ
  lot x = shapes.lot (content.shape x)

  abbrev pub path : X → List ℕ
  path x = shapes.path (content.shape x)

  -- the chain of a node is its key
  abbrev pub IsKeyed : X → Type 0
  IsKeyed x = chain_of shapes (rank x) ≡ kept_key content shapes x

  pub earlier : (x y : X) → IsKeyed x → IsKeyed y → ComesLater content shapes x y
      → IsEarlier w (stamp_of w (rank x)) (stamp_of w (rank y))
  earlier x y p q h = ap (λ c. stamps_cmp shapes.mode (stamp shapes.mode c)
      (stamp shapes.mode (chain_of shapes (rank y)))) p
      ∙ ap (λ c. stamps_cmp shapes.mode (stamp shapes.mode (kept_key content shapes x)) (stamp shapes.mode c)) q ∙ h

  pub later : (x y : X) → IsKeyed x → IsKeyed y → IsEarlier w (stamp_of w (rank x)) (stamp_of w (rank y))
      → ComesLater content shapes x y
  later x y p q h = sym (ap (λ c. stamps_cmp shapes.mode (stamp shapes.mode c)
      (stamp shapes.mode (chain_of shapes (rank y)))) p
      ∙ ap (λ c. stamps_cmp shapes.mode (stamp shapes.mode (kept_key content shapes x)) (stamp shapes.mode c)) q) ∙ h

  module _ (T : View X) (city : IsCity shapes content rules T) where
    -- the parent of a node, one level above
    pub parent_of : (c p : ℕ) (d : Seen X) → T c ≡ Some d → d.parent ≡ Some p
        → (e : Seen X) × (T p ≡ Some e) × (d.depth ≡ e.depth + 1) × (slice_get e.children d.index ≡ Some c)
    parent_of c p d t up =
        let u = city.tree.up c p d t up in
        let v = city.tree.down p d.index c u.0 u.1 u.2 in
        let same : v.0 ≡ d = some_same v.0 d (sym v.1 ∙ t) in
        (u.0, u.1, ap (λ (x : Seen X). x.depth) (sym same) ∙ v.3, u.2)

    pub path_child : (c p : ℕ) (d e : Seen X) → T c ≡ Some d → d.parent ≡ Some p → T p ≡ Some e
        → path d.node ≡ path e.node ++ d.index ∷ []
    path_child c p d e t up at = (city.child c p d e t up at).place.1

    pub lot_child : (c p : ℕ) (d e : Seen X) → T c ≡ Some d → d.parent ≡ Some p → T p ≡ Some e → lot d.node ≡ lot e.node
    lot_child c p d e t up at = (city.child c p d e t up at).place.0

    -- one priority for the node and each on its path
    sized : (n c : ℕ) (d : Seen X) → T c ≡ Some d → d.depth ≡ n
        → length (content.line d.node) ≡ length (path d.node) + 1
    sized zero c d t deep = elim (option_cases d.parent) [
      | inl top ↦ (let at = city.root c d t top in let a = ap length at.line in let b : length (path d.node) ≡ 0 = ap length at.path in omega (arith, a, b))
      | inr up ↦ (let u = parent_of c up.0 d t up.1 in let x = u.2 in absurd (omega (arith, x, deep)))
    ]
    sized (suc m) c d t deep = elim (option_cases d.parent) [
      | inl top ↦ (let at = city.root c d t top in let a = ap length at.line in let b : length (path d.node) ≡ 0 = ap length at.path in omega (arith, a, b))
      | inr up ↦
          (let u = parent_of c up.0 d t up.1 in
          let x = u.2 in
          let r = sized m up.0 u.0 u.1 (omega (arith, x, deep)) in
          let at = city.child c up.0 d u.0 t up.1 u.1 in
          let a : length (path d.node) ≡ length (path u.0.node) + 1 = ap length at.place.1 ∙ length-append (path u.0.node) (d.index ∷ []) in
          let b : length (content.line d.node) ≡ length (content.line u.0.node) + 1 = ap length at.line ∙ length-append (content.line u.0.node) (content.priority d.node ∷ []) in
          omega (arith, a, b, r))
    ]

    -- the chain of a node has its priorities as they are
    pub chain_line : (c : ℕ) (d : Seen X) → T c ≡ Some d
        → (chain_of shapes (rank d.node)).priorities ≡ content.line d.node
    chain_line c d t = fitted-same (length (path d.node) + 1) (content.line d.node) (sized d.depth c d t refl)

    pub keyed : (c : ℕ) (d : Seen X) → T c ≡ Some d → IsKeyed d.node
    keyed c d t = let q = chain_line c d t in λ i. record { lot = lot d.node; path = path d.node; priorities = q i }

    -- a node stands right below its parent
    pub child_rank : (c p : ℕ) (d e : Seen X) → T c ≡ Some d → d.parent ≡ Some p → T p ≡ Some e
        → IsChild (chain_of shapes (rank e.node)) d.index (chain_of shapes (rank d.node))
    child_rank c p d e t up at =
        let x = city.child c p d e t up at in
        record {
          lot = x.place.0;
          path = x.place.1;
          priorities = (content.priority d.node, chain_line c d t ∙ x.line ∙ ap (λ l. l ++ content.priority d.node ∷ []) (sym (chain_line p e at)));
        }

    abbrev pub SamePlaces : X → X → Type 0
    SamePlaces x y = (lot x ≡ lot y) × (path x ≡ path y)

    -- a node with a parent isn't where a root is
    apart_top : (c b q : ℕ) (d e : Seen X) → T c ≡ Some d → T b ≡ Some e → d.parent ≡ None → e.parent ≡ Some q
        → path d.node ≡ path e.node → ⊥
    apart_top c b q d e t u top up same =
        let v = parent_of b q e u up in
        path_not_empty (path v.0.node) e.index (sym (path_child b q e v.0 u up v.1) ∙ sym same ∙ (city.root c d t top).path)

    -- one node at a place
    same_id : (n c b : ℕ) (d e : Seen X) → d.depth ≡ n → T c ≡ Some d → T b ≡ Some e → SamePlaces d.node e.node → c ≡ b
    same_id zero c b d e deep t u same = elim (option_cases d.parent) [
      | inl top ↦ elim (option_cases e.parent) [
        | inl top' ↦ city.tops.one_top c b d e t u top top' same.0
        | inr up ↦ absurd (apart_top c b up.0 d e t u top up.1 same.1)
      ]
      | inr up ↦ (let v = parent_of c up.0 d t up.1 in let x = v.2 in absurd (omega (arith, x, deep)))
    ]
    same_id (suc n) c b d e deep t u same = elim (option_cases d.parent) [
      | inl top ↦ elim (option_cases e.parent) [
        | inl top' ↦ city.tops.one_top c b d e t u top top' same.0
        | inr up ↦ absurd (apart_top c b up.0 d e t u top up.1 same.1)
      ]
      | inr up ↦ elim (option_cases e.parent) [
        | inl top ↦ absurd (apart_top b c up.0 e d u t top up.1 (sym same.1))
        | inr up' ↦
            (let v = parent_of c up.0 d t up.1 in
            let v' = parent_of b up'.0 e u up'.1 in
            let x = v.2 in
            let deeper : v.0.depth ≡ n = omega (arith, x, deep) in
            let parts = snoc-same (path v.0.node) (path v'.0.node) d.index e.index (sym (path_child c up.0 d v.0 t up.1 v.1) ∙ same.1 ∙ path_child b up'.0 e v'.0 u up'.1 v'.1) in
            let lots : lot v.0.node ≡ lot v'.0.node = sym (lot_child c up.0 d v.0 t up.1 v.1) ∙ same.0 ∙ lot_child b up'.0 e v'.0 u up'.1 v'.1 in
            let parents : up.0 ≡ up'.0 = same_id n up.0 up'.0 v.0 v'.0 deeper v.1 v'.1 (lots, parts.0) in
            let entries : v.0 ≡ v'.0 = some_same v.0 v'.0 (sym v.1 ∙ ap T parents ∙ v'.1) in
            some_same c b (sym v.3 ∙ ap (λ i. slice_get v.0.children i) parts.1 ∙ ap (λ (y : Seen X). slice_get y.children e.index) entries ∙ v'.3))
      ]
    ]

    -- in a city two nodes at one place have one number, and are one
    pub same_node : (c b : ℕ) (d e : Seen X) → T c ≡ Some d → T b ≡ Some e → SamePlaces d.node e.node
        → (c ≡ b) × (d ≡ e)
    same_node c b d e t u same =
        let q = same_id d.depth c b d e refl t u same in
        (q, some_same d e (sym t ∙ ap T q ∙ u))

    -- the same of equal ranked shapes
    pub same_ranked : (c b : ℕ) (d e : Seen X) → T c ≡ Some d → T b ≡ Some e → rank d.node ≡ rank e.node
        → (c ≡ b) × (d ≡ e)
    same_ranked c b d e t u same =
        same_node c b d e t u (ap (λ (n : Ranked S). shapes.lot n.shape) same, ap (λ (n : Ranked S). shapes.path n.shape) same)

    -- what stands right below a node is its child
    pub child_is : (c p i : ℕ) (d e : Seen X) → T c ≡ Some d → T p ≡ Some e
        → IsChild (chain_of shapes (rank e.node)) i (chain_of shapes (rank d.node))
        → (d.parent ≡ Some p) × (d.index ≡ i) × (slice_get e.children i ≡ Some c)
    child_is c p i d e t u below = elim (option_cases d.parent) [
      | inl top ↦ absurd (path_not_empty (path e.node) i (sym below.path ∙ (city.root c d t top).path))
      | inr up ↦
          (let v = parent_of c up.0 d t up.1 in
          let parts = snoc-same (path v.0.node) (path e.node) d.index i (sym (path_child c up.0 d v.0 t up.1 v.1) ∙ below.path) in
          let lots : lot v.0.node ≡ lot e.node = sym (lot_child c up.0 d v.0 t up.1 v.1) ∙ below.lot in
          let q = same_node up.0 p v.0 e v.1 u (lots, parts.0) in
          (up.1 ∙ ap Some q.0, parts.1, ap (λ j. slice_get e.children j) (sym parts.1) ∙ ap (λ (y : Seen X). slice_get y.children d.index) (sym q.1) ∙ v.3))
    ]

    -- a root, ranked
    pub root_is : (c : ℕ) (d : Seen X) → T c ≡ Some d → d.parent ≡ None
        → rank d.node ≡ root_ranked rules (content.shape d.node)
    root_is c d t top =
        let q : content.line d.node ≡ rules.priority (content.shape d.node) ∷ [] = (city.root c d t top).line ∙ ap (λ p. p ∷ []) (city.tops.top c d t top).1 in
        λ i. record { shape = content.shape d.node; priorities = q i }

    pub root_among : (c : ℕ) (d : Seen X) → T c ≡ Some d → d.parent ≡ None → Among (rank d.node) w.roots
    root_among c d t top =
        subst (λ n. Among n w.roots) (sym (root_is c d t top)) (map-Among (root_ranked rules) rules.roots (content.shape d.node) (city.tops.top c d t top).0)

    -- the list of the view is a tree of ranked shapes
    module _ (bound : ℕ) (bounded : IsBound T bound) where
      abbrev pub nodes : List (Node (Ranked S) A F P)
      nodes = nodes_of content T bound

      -- where all numbers are below the bound, each node is in the list, with its kind and answers
      pub keeps : (c : ℕ) (d : Seen X) → T c ≡ Some d
          → Keeps nodes (rank d.node) (content.kind d.node) (content.answers d.node)
      keeps c d t = node-keeps content T bound c d (bounded c d t) t

      pub keeps_as : (c : ℕ) (d : Seen X) (n : Ranked S) (k : Kind F P) (a : A) → T c ≡ Some d → rank d.node ≡ n
          → content.kind d.node ≡ k → content.answers d.node ≡ a → Keeps nodes n k a
      keeps_as c d n k a t q f g = subst (λ b. Keeps nodes n k b) g
          (subst (λ j. Keeps nodes n j (content.answers d.node)) f (subst (λ m. Keeps nodes m (content.kind d.node) (content.answers d.node)) q (keeps c d t)))

      pub is_tree : agenda.IsTree w nodes
      is_tree = record {
        distinct = λ n m k j a b h g same.
            let x = keeps-node content T bound n k a h in
            let y = keeps-node content T bound m j b g in
            let lots : lot x.1.node ≡ lot y.1.node = ap (λ (s : Ranked S). shapes.lot s.shape) x.3 ∙ ap (λ p. p.0) same ∙ ap (λ (s : Ranked S). shapes.lot s.shape) (sym y.3) in
            let paths : path x.1.node ≡ path y.1.node = ap (λ (s : Ranked S). shapes.path s.shape) x.3 ∙ ap (λ p. p.1) same ∙ ap (λ (s : Ranked S). shapes.path s.shape) (sym y.3) in
            let q = same_node x.0 y.0 x.1 y.1 x.2 y.2 (lots, paths) in
            (sym x.3 ∙ ap (λ (d : Seen X). rank d.node) q.1 ∙ y.3, sym x.4 ∙ ap (λ (d : Seen X). content.kind d.node) q.1 ∙ y.4);
        roots = λ n root.
            let r = Among-map (root_ranked rules) rules.roots n root in
            let x = city.tops.tops r.0 r.1 in
            let q : rank x.1.node ≡ n = root_is x.0 x.1 x.2 x.3 ∙ ap (root_ranked rules) x.4 ∙ r.2 in (
              content.kind x.1.node,
              content.answers x.1.node,
              keeps_as x.0 x.1 n (content.kind x.1.node)
                  (content.answers x.1.node) x.2 q refl refl,
              (city.root x.0 x.1 x.2 x.3).inner,
              λ i. let z : false ≡ true = i in absurd (cc),
            );
        under = λ n k a h.
            let x = keeps-node content T bound n k a h in
            elim (option_cases x.1.parent) [
              | inl top ↦ inl (subst (λ m. Among m w.roots) x.3 (root_among x.0 x.1 x.2 top))
              | inr up ↦
                  (let v = parent_of x.0 up.0 x.1 x.2 up.1 in
                  let below = child_rank x.0 up.0 x.1 v.0 x.2 up.1 v.1 in
                  inr (
                    rank v.0.node,
                    content.kind v.0.node,
                    content.answers v.0.node,
                    x.1.index,
                    keeps up.0 v.0 v.1,
                    (city.child x.0 up.0 x.1 v.0 x.2 up.1 v.1).inner,
                    subst (λ (m : Ranked S). IsChild (chain_of shapes (rank v.0.node)) x.1.index (chain_of shapes m)) x.3 below,
                  ))
            ];
      }
