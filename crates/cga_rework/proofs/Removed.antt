-- What went and what came with a replacement of children, in the words of a turn.
use Rattle.std.proofs.Common.{◌≡◌, ℕ, zero, suc, List, [], ◌∷◌, ◌++◌, true, false, ◌⊎◌, inl, inr, ap, sym, ◌∙◌, subst, arith}
use Rattle.std.specs.Prelude.{Some, slice_get, not}
use Rattle.cga_tree.specs.Tree.{Seen}
use Rattle.cga_tree.specs.Replaced.{fits_at}
use Rattle.cga_order.specs.Chain.{IsChild}
use Rattle.cga_order.specs.World.{World, is_instance, place_of, IsEarlier, stamp_of, birth_of, IsNew}
use Rattle.cga_order.specs.declared.placed.Kind.{Kind}
use Rattle.cga_order.specs.Agenda.{Node, Keeps}
use Rattle.cga_order.proofs.Door.{snoc-same}
use Rattle.cga_agenda.specs.Edit.{Edit, IsEdit}
use Rattle.cga_agenda.specs.Work.{IsFresh}
use Rattle.cga_agenda.proofs.Door as late
use Rattle.cga_rework.specs.Rules.{Shapes, Rules, IsRulesEdit}
use Rattle.cga_rework.specs.Ranked.{Ranked, chain_of, edit_of, ranked_world}
use Rattle.cga_rework.specs.Nodes.{Content, ranked_of, nodes_of, IsBound}
use Rattle.cga_rework.specs.Turn.{AreAlike}
use Rattle.cga_rework.specs.City.{IsCity}
use Rattle.cga_rework.proofs.NodeLists.{bool_cases, nat_cases, option_cases, some_same, none_some, true_false, keeps-node}
use Rattle.cga_rework.proofs.Place.{parent_of, child_rank, child_is, same_node}
use Rattle.cga_rework.proofs.Replaced.{Replacing, IsComer, where_from, rank_self, city_after}
use Rattle.cga_rework.proofs.Worlds.{make}

module _ {X S A B F P : Type 0} (shapes : Shapes S) (content : Content X S A F P) (old rules : Rules S A B F P) (laws : IsRulesEdit shapes old rules) (t : Replacing shapes content rules)
    (small great : ℕ) (within : IsBound t.V small) (within' : IsBound t.T great) where
  abbrev w : World (Ranked S) A F P
  w = ranked_world shapes rules

  abbrev edit : Edit (Ranked S) A B F P
  edit = edit_of shapes old rules

  made : IsEdit edit
  made = make shapes old rules laws

  abbrev rank : X → Ranked S
  rank x = ranked_of content x

  abbrev s : Ranked S
  s = rank t.e.node

  abbrev before : List (Node (Ranked S) A F P)
  before = nodes_of content t.V small

  abbrev after : List (Node (Ranked S) A F P)
  after = nodes_of content t.T great

  city : IsCity shapes content rules t.T
  city = city_after shapes content rules t

  -- what came stands right below the node
  pub comer_below : (c : ℕ) (d : Seen X) → t.T c ≡ Some d → (n : IsComer shapes content rules t c d)
      → IsChild (chain_of shapes s) n.place (chain_of shapes (rank d.node))
  comer_below c d u n =
      let below = child_rank shapes content rules t.T city c t.id d t.now u n.parent t.r.is in
      subst (λ i. IsChild (chain_of shapes s) i (chain_of shapes (rank d.node))) n.index
      (subst (λ (m : Ranked S). IsChild (chain_of shapes m) d.index (chain_of shapes (rank d.node))) (rank_self shapes content rules t) below)

  -- and wasn't there
  pub not_there : (c b : ℕ) (d x : Seen X) → t.T c ≡ Some d → IsComer shapes content rules t c d → t.V b ≡ Some x
      → rank x.node ≡ rank d.node → is_instance (content.kind x.node) ≡ is_instance (content.kind d.node)
      → (is_instance (content.kind d.node) ≡ true → content.kind x.node ≡ content.kind d.node) → ⊥
  not_there c b d x u n v same alike solid =
      let below : IsChild (chain_of shapes s) n.place (chain_of shapes (rank x.node)) = subst (λ (m : Ranked S).
      IsChild (chain_of shapes s) n.place (chain_of shapes m)) (sym same) (comer_below c d u n) in
      let is = child_is shapes content rules t.V t.start b t.id n.place x t.e v t.r.was below in
      elim (bool_cases (t.gone b)) [
        | inr stay ↦
            let q : b ≡ c = some_same b c (sym (t.r.stays n.place b is.2 stay) ∙ n.child) in
            none_some x (sym n.vacant ∙ ap t.V (sym q) ∙ v)
        | inl goes ↦
            let up = child_line b x v is.0 in
            let new_up = comer_line c d u n in
            let lines : content.line t.e.node ++ content.priority x.node ∷ [] ≡ content.line t.now.node ++ content.priority d.node ∷ [] =
            sym up ∙ ap (λ (m : Ranked S). m.priorities) same ∙ new_up in
            let alike_content : AreAlike content x.node n.asked_for = subst (λ y. AreAlike content x.node y) n.node (record {
              shape = ap (λ (m : Ranked S). m.shape) same;
              priority = (snoc-same (content.line t.e.node) (content.line t.now.node) (content.priority x.node) (content.priority d.node) lines).1;
              instances = alike;
              solid = solid;
            }) in
            let fit : t.fits x.node n.asked_for ≡ true = t.is_fit.whole x.node n.asked_for alike_content in
            let kept : t.gone b ≡ false = t.r.fate n.place b x is.2 v ∙ fate_of x.node n.place n.asked_for n.wanted ∙ ap not fit in
            true_false (t.gone b) goes kept
      ]
    where
      child_line : (b : ℕ) (x : Seen X) → t.V b ≡ Some x → x.parent ≡ Some t.id
          → content.line x.node ≡ content.line t.e.node ++ content.priority x.node ∷ []
      child_line b x v up = (t.start.child b t.id x t.e v up t.r.was).line

      comer_line : (c : ℕ) (d : Seen X) → t.T c ≡ Some d → IsComer shapes content rules t c d
          → content.line d.node ≡ content.line t.now.node ++ content.priority d.node ∷ []
      comer_line c d u n = (city.child c t.id d t.now u n.parent t.r.is).line

      fate_of : (x : X) (i : ℕ) (y : X) → slice_get t.news i ≡ Some y
          → not (fits_at t.fits x (slice_get t.news i)) ≡ not (t.fits x y)
      fate_of x i y h = ap (λ o. not (fits_at t.fits x o)) h

  -- a node that came is fresh
  pub fresh : (c : ℕ) (d : Seen X) → t.T c ≡ Some d → IsComer shapes content rules t c d
      → IsFresh edit before after (rank d.node) (content.kind d.node)
  fresh c d u n = record {
    new = subst (λ y. IsNew (content.kind y)) (sym n.node) (t.are.fresh n.place n.asked_for n.wanted);
    bare = λ i m j a below h.
        let x = keeps-node content t.T great m j a h in
        let under : IsChild (chain_of shapes (rank d.node)) i
        (chain_of shapes (rank x.1.node)) = subst (λ (y : Ranked S). IsChild (chain_of shapes (rank d.node)) i (chain_of shapes y)) (sym x.3) below in
        let is = child_is shapes content rules t.T city x.0 c i x.1 d x.2 u under in
        none_some x.0 (ap (λ l. slice_get l i) (sym n.leaf) ∙ is.2);
    not_there = λ j a h alike solid.
        let x = keeps-node content t.V small (rank d.node) j a h in
        not_there c x.0 d x.1 u n x.2 x.3 (ap is_instance x.4 ∙ alike) (λ i. x.4 ∙ solid i);
  }

  -- what goes has a parent that goes, or that is the node
  gone_parent : (c : ℕ) (d : Seen X) → t.V c ≡ Some d → t.gone c ≡ true
      → (p : ℕ) × (d.parent ≡ Some p) × ((p ≡ t.id) ⊎ (t.gone p ≡ true))
  gone_parent c d v g = elim (option_cases d.parent) [
    | inl top ↦ true_false (t.gone c) g (t.r.tops c d v top)
    | inr up ↦ elim (nat_cases up.0 t.id) [
      | inl q ↦ (up.0, up.1, inl q)
      | inr ne ↦ (up.0, up.1, inr (t.r.into c up.0 d v up.1 g ne))
    ]
  ]

  self_child : (c : ℕ) (p : ℕ) (d : Seen X) → t.V c ≡ Some d → d.parent ≡ Some p → p ≡ t.id
      → IsChild (chain_of shapes s) d.index (chain_of shapes (rank d.node))
  self_child c p d v up q = child_rank shapes content rules t.V t.start c t.id d t.e v (up ∙ ap Some q) t.r.was

  -- what goes was made at the stamp of the node or later
  pub removed_late : (n c : ℕ) (d : Seen X) → d.depth ≡ n → t.V c ≡ Some d → t.gone c ≡ true
      → IsEarlier w (birth_of w (rank d.node)) (stamp_of w s) → ⊥
  removed_late zero c d deep v g =
      let up = gone_parent c d v g in
      let z = (parent_of shapes content rules t.V t.start c up.0 d v up.1).2 in
      absurd (omega (arith, z, deep))
  removed_late (suc n) c d deep v g =
      let up = gone_parent c d v g in
      let u = parent_of shapes content rules t.V t.start c up.0 d v up.1 in
      let z = u.2 in
      elim up.2 [
        | inl q ↦ late.child edit made s (rank d.node) d.index (self_child c up.0 d v up.1 q)
        | inr goes ↦ late.further edit made s (rank u.0.node) (rank d.node) d.index
            (child_rank shapes content rules t.V t.start c up.0 d u.0 v up.1 u.1) (removed_late n up.0 u.0 (omega (arith, z, deep)) u.1 goes)
      ]

  abbrev places_of : Ranked S → Ranked S → Type 0
  places_of n m = (shapes.lot n.shape ≡ shapes.lot m.shape) × (shapes.path n.shape ≡ shapes.path m.shape)

  same_places : (n m : Ranked S) → n ≡ m → places_of n m
  same_places n m q = (ap (λ (l : Ranked S). shapes.lot l.shape) q, ap (λ (l : Ranked S). shapes.path l.shape) q)

  -- a node that went isn't there in its kind
  pub gone_away : (q : ℕ) (v : Seen X) → t.V q ≡ Some v → t.gone q ≡ true → (p : Ranked S) → places_of p (rank v.node)
      → (k : Kind F P) (a a' : A) → Keeps before p k a → Keeps after p k a' → ⊥
  gone_away q v at g p here k a a' h h' =
      let x = keeps-node content t.V small p k a h in
      let y = keeps-node content t.T great p k a' h' in
      elim (where_from shapes content rules t y.0 y.1 y.2) [
        | inl i ↦
            let f : s ≡ p = sym (rank_self shapes content rules t) ∙ ap (λ (z : Seen X). rank z.node) (sym i.1) ∙ y.3 in
            let z = same_places s p f in
            let self_is : t.id ≡ q = (same_node shapes content rules t.V t.start t.id q t.e v t.r.was at (z.0 ∙ here.0, z.1 ∙ here.1)).0 in
            true_false (t.gone q) g (ap t.gone (sym self_is) ∙ t.r.self)
        | inr z ↦ elim z [
          | inl o ↦
              let f : rank y.1.node ≡ p = y.3 in
              let z = same_places (rank y.1.node) p f in
              let is : y.0 ≡ q = (same_node shapes content rules t.V t.start y.0 q y.1 v o.1 at (z.0 ∙ here.0, z.1 ∙ here.1)).0 in
              true_false (t.gone q) g (ap t.gone (sym is) ∙ o.2)
          | inr n ↦ not_there y.0 x.0 y.1 x.1 y.2 n x.2 (x.3 ∙ sym y.3) (ap is_instance (x.4 ∙ sym y.4)) (λ i. x.4 ∙ sym y.4)
        ]
      ]

  -- what went was right below the node, or below what went
  pub removed_below : (c : ℕ) (d : Seen X) → t.V c ≡ Some d → t.gone c ≡ true → (p : Ranked S) (i : ℕ)
      → IsChild (chain_of shapes p) i (chain_of shapes (rank d.node))
      → (place_of w p ≡ place_of w s) ⊎ ((k : Kind F P) (a : A) → Keeps before p k a → Keeps after p k a → ⊥)
  removed_below c d v g p i below =
      let up = gone_parent c d v g in
      let u = parent_of shapes content rules t.V t.start c up.0 d v up.1 in
      let under = child_rank shapes content rules t.V t.start c up.0 d u.0 v up.1 u.1 in
      let path : shapes.path p.shape ≡ shapes.path (content.shape u.0.node) = (snoc-same (shapes.path p.shape) (shapes.path (content.shape u.0.node)) i d.index (sym below.path ∙ under.path)).0 in
      let lot : shapes.lot p.shape ≡ shapes.lot (content.shape u.0.node) = sym below.lot ∙ under.lot in
      elim up.2 [
        | inl q ↦
            let owner : u.0 ≡ t.e = some_same u.0 t.e (sym u.1 ∙ ap t.V q ∙ t.r.was) in
            let lot' = lot ∙ ap (λ (y : Seen X). shapes.lot (content.shape y.node)) owner in
            let path' = path ∙ ap (λ (y : Seen X). shapes.path (content.shape y.node)) owner in
            inl (λ j. (lot' j, path' j))
        | inr goes ↦ inr (λ k a. gone_away up.0 u.0 u.1 goes p (lot, path) k a a)
      ]
