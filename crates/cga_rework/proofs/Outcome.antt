-- The children after a turn are those of the outcome, or those from before with their new priorities.
use Rattle.std.proofs.Common.{◌≡◌, ℕ, zero, suc, List, [], ◌∷◌, ◌++◌, map, true, inl, inr, refl, ap, sym, ◌∙◌, subst}
use Rattle.std.specs.Prelude.{Some, Result, Ok, Err, slice_get}
use Rattle.cga_tree.specs.Tree.{Seen}
use Rattle.cga_tree.specs.Replaced.{IsChildNow}
use Rattle.cga_order.specs.Chain.{IsChild}
use Rattle.cga_order.specs.World.{World, Has, is_instance}
use Rattle.cga_order.specs.declared.placed.Placed.{Placed}
use Rattle.cga_order.specs.declared.placed.Kind.{Kind}
use Rattle.cga_order.specs.declared.placed.Kind.TheVariants.{Waiting, Done, Faulted, Instance}
use Rattle.cga_order.specs.Consistent.{Stands}
use Rattle.cga_order.specs.Agenda.{Node, Keeps, members_of, HasChildren, IsSettled}
use Rattle.cga_order.proofs.Door.{Has-Keeps, Has-index, slice_get-Has, slice_get-map}
use Rattle.cga_agenda.specs.Edit.{Edit}
use Rattle.cga_agenda.specs.Work.{Expands, HasRenewed, Places, renewed_child, first_kind}
use Rattle.cga_rework.specs.Rules.{Shapes, Rules}
use Rattle.cga_rework.specs.Ranked.{Ranked, placed, all_placed, chain_of, edit_of, ranked_world}
use Rattle.cga_rework.specs.Nodes.{Content, ranked_of, placed_of, nodes_of, IsBound}
use Rattle.cga_rework.specs.City.{IsCity}
use Rattle.cga_rework.specs.Turn.{IsOutcome, AreAgain, IsExpanded, IsRepriced}
use Rattle.cga_rework.proofs.NodeLists.{some_same, none_some, keeps-node}
use Rattle.cga_rework.proofs.Place.{chain_line, child_rank, child_is, same_ranked, keeps, keeps_as}
use Rattle.cga_rework.proofs.Replaced.{Replacing, get_along, stayed, stays_fit, rank_old, rank_self, city_after}
use Rattle.cga_rework.proofs.Renewed.{ends_with, placed_below, renewed_below}

module _ {X S A B F P : Type 0} (shapes : Shapes S) (content : Content X S A F P) (old rules : Rules S A B F P) (t : Replacing shapes content rules)
    (small great : ℕ) (within : IsBound t.V small) (within' : IsBound t.T great) where
  abbrev w : World (Ranked S) A F P
  w = ranked_world shapes rules

  abbrev edit : Edit (Ranked S) A B F P
  edit = edit_of shapes old rules

  abbrev rank : X → Ranked S
  rank x = ranked_of content x

  abbrev s : Ranked S
  s = rank t.e.node

  abbrev before : List (Node (Ranked S) A F P)
  before = nodes_of content t.V small

  abbrev after : List (Node (Ranked S) A F P)
  after = nodes_of content t.T great

  city : IsCity shapes content rules t.T
  city = city_after shapes content rules t

  -- the child at a place is of the content asked for
  record IsChildAt (i c : ℕ) (x : X) : Type 0 where
    pub seen : Seen X
    pub here : t.T c ≡ Some seen
    pub at : slice_get t.now.children i ≡ Some c
    pub ranked : rank seen.node ≡ rank x
    pub instances : is_instance (content.kind seen.node) ≡ is_instance (content.kind x)
    pub solid : is_instance (content.kind x) ≡ true → content.kind seen.node ≡ content.kind x

  child_there : (i c : ℕ) (x : X) → slice_get t.now.children i ≡ Some c → slice_get t.news i ≡ Some x
      → IsChildNow t.V t.T t.id t.e t.gone x i c → IsChildAt i c x
  child_there i c x at wanted (inl stay) =
      let u = t.start.tree.down t.id i c t.e t.r.was stay.0 in
      let y = stayed shapes content rules t c u.0 u.1 stay.1 in
      let like = stays_fit shapes content rules t i c u.0 x stay.0 u.1 stay.1 wanted in
      let was = (t.start.child c t.id u.0 t.e u.1 u.2 t.r.was).line in
      let below = (t.are.below i x wanted).line in
      let line : content.line u.0.node ≡ content.line x = was ∙ ap (λ p. content.line t.e.node ++ p ∷ []) like.priority ∙ sym below in
      record {
        seen = y.seen;
        here = y.here;
        at = at;
        ranked = rank_old shapes content rules t c u.0 y.seen u.1 stay.1 y.here ∙ alike u.0.node x like.shape line;
        instances = y.same.instances ∙ like.instances;
        solid = λ q. y.same.solid (like.instances ∙ q) ∙ like.solid q;
      }
    where
      alike : (y x : X) → content.shape y ≡ content.shape x → content.line y ≡ content.line x → rank y ≡ rank x
      alike y x p q = λ i. record { shape = p i; priorities = q i }
  child_there i c x at wanted (inr n) =
      let k = n.1 in
      record {
        seen = k.seen;
        here = k.here;
        at = at;
        ranked = ap rank k.node;
        instances = ap (λ y. is_instance (content.kind y)) k.node;
        solid = λ q. ap content.kind k.node;
      }

  child_at : (i : ℕ) (x : X) → slice_get t.news i ≡ Some x → (c : ℕ) × IsChildAt i c x
  child_at i x wanted =
      let at = get_along t.news t.now.children i x (sym t.r.sized) wanted in
      let y = t.r.each i at.0 at.1 in
      let same : y.0 ≡ x = some_same y.0 x (sym y.1 ∙ wanted) in
      (at.0, child_there i at.0 x at.1 wanted (subst (λ z. IsChildNow t.V t.T t.id t.e t.gone z i at.0) same y.2))

  -- a child that is asked for stands there
  stands : (i : ℕ) (x : X) → slice_get t.news i ≡ Some x → Stands (members_of after) (rank x) (content.kind x)
  stands i x wanted =
      let c = child_at i x wanted in
      let k = keeps_as shapes content rules t.T city great within' c.0 c.1.seen (rank x) (content.kind c.1.seen.node) (content.answers c.1.seen.node) c.1.here c.1.ranked refl refl in
      (content.kind c.1.seen.node, Has-Keeps after (rank x) (content.kind c.1.seen.node) (content.answers c.1.seen.node) k, c.1.instances, c.1.solid)

  -- what stands right below the node was asked for
  wanted_there : (m : Ranked S) (k : Kind F P) (a : A) (i : ℕ) → Keeps after m k a
      → IsChild (chain_of shapes s) i (chain_of shapes m) → (x : X) × (slice_get t.news i ≡ Some x) × (rank x ≡ m)
  wanted_there m k a i h below =
      let y = keeps-node content t.T great m k a h in
      let under : IsChild (chain_of shapes (rank t.now.node)) i (chain_of shapes (rank y.1.node)) =
      subst (λ (l : Ranked S). IsChild (chain_of shapes l) i (chain_of shapes (rank y.1.node)))
      (sym (rank_self shapes content rules t)) (subst (λ (l : Ranked S). IsChild (chain_of shapes s) i (chain_of shapes l)) (sym y.3) below) in
      let is = child_is shapes content rules t.T city y.0 t.id i y.1 t.now y.2 t.r.is under in
      let x = t.r.each i y.0 is.2 in
      let c = child_at i x.0 x.1 in
      let one : c.0 ≡ y.0 = some_same c.0 y.0 (sym c.1.at ∙ is.2) in
      let node : c.1.seen ≡ y.1 = some_same c.1.seen y.1 (sym c.1.here ∙ ap t.T one ∙ y.2) in
      (x.0, x.1, sym c.1.ranked ∙ ap (λ (z : Seen X). rank z.node) node ∙ y.3)

  -- the priorities above the children are those of the node
  above_is : (chain_of shapes s).priorities ≡ content.line t.e.node
  above_is = chain_line shapes content rules t.V t.start t.id t.e t.r.was

  -- an instance that is asked for has the priority of the node
  drawn_own : (i : ℕ) (y : X) → slice_get t.news i ≡ Some y → is_instance (content.kind y) ≡ true
      → content.priority y ≡ content.priority t.e.node
  drawn_own i y wanted q = t.are.priced i y wanted ∙ t.by_symbol y t.e.node ((t.are.below i y wanted).symbol q) ∙ sym t.own

  abbrev child : Placed S F P → Placed (Ranked S) F P
  child c = placed rules.priority (chain_of shapes s).priorities c

  placed_is : (i : ℕ) (y : X) → slice_get t.news i ≡ Some y
      → child (placed_of content y) ≡ record { shape = rank y; kind = content.kind y }
  placed_is i y wanted =
      ap (λ above. placed rules.priority above (placed_of content y)) above_is
      ∙ placed_below shapes content rules (content.line t.e.node) (content.priority t.e.node)
      (ends_with shapes content rules t.V t.start t.id t.e t.r.was) y (t.are.below i y wanted).line
      (λ q. t.are.priced i y wanted) (λ q. drawn_own i y wanted q)

  -- the children are those of a list
  has_children : (children : List (Placed S F P)) → map (placed_of content) t.news ≡ children
      → HasChildren w after s (map child children)
  has_children children are = record {
    all = λ c k h.
        let i = Has-index (map child children) c k h in
        let m = slice_get-map child children i.0 i.1 i.2 in
        let x = slice_get-map (placed_of content) t.news i.0 m.0 (subst (λ l. slice_get l i.0 ≡ Some m.0) (sym are) m.1) in
        let is : record { shape = rank x.0; kind = content.kind x.0 } ≡ i.1 = sym (placed_is i.0 x.0 x.1) ∙ ap child x.2 ∙ m.2 in
        subst (λ j. Stands (members_of after) c j) i.4
        (subst (λ l. Stands (members_of after) l i.1.kind) i.3
        (subst (λ (y : Placed (Ranked S) F P). Stands (members_of after) y.shape y.kind) is (stands i.0 x.0 x.1)));
    only = λ c k a h i below.
        let x = wanted_there c k a i h below in
        let at : slice_get (map child (map (placed_of content) t.news)) i ≡ Some
        (child (placed_of content x.0)) = get_map child (map (placed_of content) t.news) i
        (placed_of content x.0) (get_map (placed_of content) t.news i x.0 x.1) in
        let at' : slice_get (map child children) i ≡ Some (record { shape = rank x.0; kind = content.kind x.0 }) = ap (λ l. slice_get (map child l) i) (sym are) ∙ at ∙ ap Some (placed_is i x.0 x.1) in
        (content.kind x.0, subst (λ l. Has (map child children) l (content.kind x.0)) x.2 (slice_get-Has (map child children) i (record { shape = rank x.0; kind = content.kind x.0 }) at'));
  }
    where
      get_map : {Y Z : Type 0} (f : Y → Z) (xs : List Y) (i : ℕ) (x : Y) → slice_get xs i ≡ Some x
          → slice_get (map f xs) i ≡ Some (f x)
      get_map f [] i x e = none_some x e
      get_map f (y ∷ xs) zero x e = ap (λ z. Some (f z)) (some_same y x e)
      get_map f (y ∷ xs) (suc i) x e = get_map f xs i x e

  settled : (outcome : Result (List (Placed S F P)) F) → IsOutcome content t.now.node t.news outcome
      → IsSettled w after s (content.kind t.now.node) (all_placed rules.priority (chain_of shapes s).priorities outcome)
  settled (Ok children) h = (h.0, has_children children h.1)
  settled (Err fault) h = (h.0, has_children [] (ap (map (placed_of content)) h.1))

  -- what stands at the node's place is the node
  self_there : (k : Kind F P) (a : A) → Keeps after s k a
      → (content.kind t.now.node ≡ k) × (content.answers t.now.node ≡ a)
  self_there k a h =
      let y = keeps-node content t.T great s k a h in
      let q = same_ranked shapes content rules t.T city y.0 t.id y.1 t.now y.2 t.r.is (y.3 ∙ sym (rank_self shapes content rules t)) in
      (ap (λ (d : Seen X). content.kind d.node) (sym q.1) ∙ y.4, ap (λ (d : Seen X). content.answers d.node) (sym q.1) ∙ y.5)

  -- the turn that expands
  pub expands : IsExpanded shapes content old rules t.V small t.e.node t.now.node t.news
      → Expands edit before after s (content.kind t.e.node) (content.answers t.e.node)
  expands x = record {
    must = x.must;
    now = λ k a h.
        let q = self_there k a h in (
          ap is_instance (sym q.0) ∙ t.self.is,
          sym q.1 ∙ x.answered,
          subst (λ b. IsSettled w after s k (edit.new.expand s b)) q.1
              (subst (λ j. IsSettled w after s j (edit.new.expand s (content.answers t.now.node))) q.0
              (settled (rules.expand (content.shape t.e.node) (content.answers t.now.node)) x.outcome)),
        );
  }

  -- a child from before, with its new priority, is what was asked for again
  renewed_is : AreAgain content t.V t.e t.news → (i b : ℕ) (y : X) (x : Seen X) → slice_get t.news i ≡ Some y
      → slice_get t.e.children i ≡ Some b → t.V b ≡ Some x
      → renewed_child edit (rank x.node) (content.kind x.node) ≡ record { shape = rank y; kind = content.kind y }
  renewed_is again i b y x wanted child v =
      let q = again.each i b y x wanted child v in
      let u = t.start.tree.down t.id i b t.e t.r.was child in
      let up : x.parent ≡ Some t.id = ap (λ (z : Seen X). z.parent) (some_same x u.0 (sym v ∙ u.1)) ∙ u.2 in
      renewed_below shapes content rules old (content.line t.e.node) x.node y (t.start.child b t.id x t.e v up t.r.was).line (t.are.below i y wanted).line q.0 q.1
      (λ n. t.are.priced i y wanted)
      (λ n. drawn_own i y wanted n ∙ sym (t.start.drawn b t.id x t.e v up t.r.was (solid_was (content.kind x.node) (ap is_instance (sym q.1) ∙ n))))
    where
      solid_was : (k : Kind F P) → is_instance (first_kind k) ≡ true → is_instance k ≡ true
      solid_was Waiting h = h
      solid_was Done h = h
      solid_was (Faulted f) h = h
      solid_was (Instance p) h = refl

  -- and the turn that doesn't
  renewed : AreAgain content t.V t.e t.news → HasRenewed edit before after s
  renewed again = record {
    all = λ c k a i h below.
        let y = keeps-node content t.V small c k a h in
        let under : IsChild (chain_of shapes s) i (chain_of shapes (rank y.1.node)) = subst (λ (l : Ranked S). IsChild (chain_of shapes s) i (chain_of shapes l)) (sym y.3) below in
        let is = child_is shapes content rules t.V t.start y.0 t.id i y.1 t.e y.2 t.r.was under in
        let x = get_along t.e.children t.news i y.0 (sym again.sized) is.2 in
        let q = renewed_is again i y.0 x.0 y.1 x.1 is.2 y.2 in
        let st = subst (λ (z : Placed (Ranked S) F P). Stands (members_of after) z.shape z.kind) (sym q) (stands i x.0 x.1) in
        subst (λ j. Stands (members_of after) (renewed_child edit c j).shape (renewed_child edit c j).kind) y.4
        (subst (λ (l : Ranked S). Stands (members_of after) (renewed_child edit l (content.kind y.1.node)).shape (renewed_child edit l (content.kind y.1.node)).kind) y.3 st);
    only = λ c k a i h below.
        let x = wanted_there c k a i h below in
        let b = get_along t.news t.e.children i x.0 again.sized x.1 in
        let u = t.start.tree.down t.id i b.0 t.e t.r.was b.1 in
        let q = renewed_is again i b.0 x.0 u.0 x.1 b.1 u.1 in (
          rank u.0.node,
          content.kind u.0.node,
          content.answers u.0.node,
          u.0.index,
          keeps shapes content rules t.V
              t.start small within b.0 u.0 u.1,
          child_rank shapes content rules t.V t.start b.0 t.id u.0 t.e u.1 u.2
              t.r.was,
          ap (λ (z : Placed (Ranked S) F P). z.shape) q ∙ x.2,
        );
  }

  pub places : IsRepriced shapes content old rules t.V small t.e t.now.node t.news
      → Places edit before after s (content.kind t.e.node) (content.answers t.e.node)
  places x = record {
    done = x.done;
    setting = x.same.0;
    asks = x.same.1;
    still = λ k a h.
        let q = self_there k a h in
        (sym q.0 ∙ x.kind, sym q.1 ∙ x.answers);
    children = renewed x.again;
  }
