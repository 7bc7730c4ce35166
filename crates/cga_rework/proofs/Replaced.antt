-- What a replacement of children makes of a city.
use Rattle.std.proofs.Common.{◌≡◌, ◌≢◌, ℕ, zero, suc, ◌<◌, List, [], ◌∷◌, ◌++◌, length, Bool, true, false, ◌⊎◌, inl, inr, refl, ap, sym, ◌∙◌, subst, arith}
use Rattle.std.specs.Prelude.{Some, None, slice_get, not, if◌then◌else◌}
use Rattle.cga_tree.specs.Tree.{Seen, View, IsTree}
use Rattle.cga_tree.specs.Replaced.{fits_at, IsReplaced}
use Rattle.cga_order.specs.World.{Among, is_instance}
use Rattle.cga_rework.specs.Rules.{Shapes, Rules}
use Rattle.cga_rework.specs.Nodes.{Content, ranked_of}
use Rattle.cga_rework.specs.City.{StandsBelow, IsCity}
use Rattle.cga_rework.specs.Turn.{AreAlike, IsFit, KeepsSelf, AreNews}
use Rattle.cga_rework.specs.TreeLaws.{GoesBySymbol}
use Rattle.cga_rework.proofs.NodeLists.{bool_cases, nat_cases, option_cases, some_same, none_some, true_false}
use Rattle.cga_rework.proofs.Place.{parent_of}
pub use Rattle.cga_fraction.proofs.Door.{slice_get_along as get_along}

pub get_there : {Y : Type 0} (xs : List Y) (i : ℕ) → i < length xs → (x : Y) × (slice_get xs i ≡ Some x)
get_there [] i h = absurd (omega arith)
get_there (x ∷ xs) zero h = (x, refl)
get_there (x ∷ xs) (suc i) h = get_there xs i (omega arith)

fit_true : (b g : Bool) → g ≡ false → g ≡ not b → b ≡ true
fit_true true g f q = refl
fit_true false g f q = true_false g q f

-- a replacement of children, with what a turn tells of it
pub record Replacing {X S A B F P : Type 0} (shapes : Shapes S) (content : Content X S A F P) (rules : Rules S A B F P) : Type 0 where
  pub fits : X → X → Bool
  pub is_fit : IsFit content fits
  pub by_symbol : GoesBySymbol content rules
  pub V : View X
  pub T : View X
  pub start : IsCity shapes content rules V
  pub id : ℕ
  pub news : List X
  pub e : Seen X
  pub now : Seen X
  pub gone : ℕ → Bool
  pub r : IsReplaced fits V T id news e now gone
  pub self : KeepsSelf content e.node now.node
  pub are : AreNews shapes content rules e.node news
  pub tree : IsTree T
  pub own : content.priority e.node ≡ rules.priority (content.shape e.node)

module _ {X S A B F P : Type 0} (shapes : Shapes S) (content : Content X S A F P) (rules : Rules S A B F P) (t : Replacing shapes content rules) where
  abbrev V : View X
  V = t.V

  abbrev T : View X
  T = t.T

  abbrev e : Seen X
  e = t.e

  abbrev now : Seen X
  now = t.now

  -- the second, but for kind, answers and children
  pub record SameNode (x v : Seen X) : Type 0 where
    pub shape : content.shape x.node ≡ content.shape v.node
    pub symbol : content.symbol x.node ≡ content.symbol v.node
    pub priority : content.priority x.node ≡ content.priority v.node
    pub line : content.line x.node ≡ content.line v.node
    pub instances : is_instance (content.kind x.node) ≡ is_instance (content.kind v.node)
    pub solid : is_instance (content.kind v.node) ≡ true → content.kind x.node ≡ content.kind v.node
    pub depth : x.depth ≡ v.depth
    pub parent : x.parent ≡ v.parent
    pub index : x.index ≡ v.index

  pub same_refl : (x : Seen X) → SameNode x x
  same_refl x = record { shape = refl; symbol = refl; priority = refl; line = refl; instances = refl; solid = λ i. refl; depth = refl; parent = refl; index = refl }

  pub self_same : SameNode now e
  self_same = record {
    shape = t.self.shape;
    symbol = t.self.symbol;
    priority = t.self.priority;
    line = t.self.line;
    instances = t.self.is ∙ sym t.self.was;
    solid = λ i. true_false (is_instance (content.kind e.node)) i t.self.was;
    depth = t.r.depth;
    parent = t.r.parent;
    index = t.r.index;
  }

  -- a node that stays, as it is now
  pub record Stayed (c : ℕ) (d : Seen X) : Type 0 where
    pub seen : Seen X
    pub here : T c ≡ Some seen
    pub same : SameNode seen d

  stay_slot : (c : ℕ) (d : Seen X) → V c ≡ Some d → c ≢ t.id → t.gone c ≡ false → T c ≡ Some d
  stay_slot c d v ne g = t.r.rest c d ne v ∙ ap (λ b. if b then None else Some d) g

  pub stayed : (c : ℕ) (d : Seen X) → V c ≡ Some d → t.gone c ≡ false → Stayed c d
  stayed c d v g = elim (nat_cases c t.id) [
    | inl q ↦
        let same : e ≡ d = some_same e d (sym t.r.was ∙ ap V (sym q) ∙ v) in
        record { seen = now; here = ap T q ∙ t.r.is; same = subst (λ x. SameNode now x) same self_same }
    | inr ne ↦ record { seen = d; here = stay_slot c d v ne g; same = same_refl d }
  ]

  rank_same : (x v : Seen X) → SameNode x v → ranked_of content x.node ≡ ranked_of content v.node
  rank_same x v s = let p = s.shape in let q = s.line in λ i. record { shape = p i; priorities = q i }

  -- so it is the same ranked shape
  pub rank_old : (c : ℕ) (d x : Seen X) → V c ≡ Some d → t.gone c ≡ false → T c ≡ Some x
      → ranked_of content x.node ≡ ranked_of content d.node
  rank_old c d x v g u =
      let y = stayed c d v g in
      let same : x ≡ y.seen = some_same x y.seen (sym u ∙ y.here) in
      ap (λ (z : Seen X). ranked_of content z.node) same ∙ rank_same y.seen d y.same

  pub rank_self : ranked_of content now.node ≡ ranked_of content e.node
  rank_self = rank_same now e self_same

  -- a node that came
  pub record IsComer (c : ℕ) (d : Seen X) : Type 0 where
    pub place : ℕ
    pub asked_for : X
    pub wanted : slice_get t.news place ≡ Some asked_for
    pub child : slice_get now.children place ≡ Some c
    pub vacant : V c ≡ None
    pub node : d.node ≡ asked_for
    pub parent : d.parent ≡ Some t.id
    pub index : d.index ≡ place
    pub leaf : d.children ≡ []

  pub comer : (c : ℕ) (d : Seen X) → V c ≡ None → T c ≡ Some d → IsComer c d
  comer c d v u = elim (t.r.created c v) [
    | inl none ↦ none_some d (sym none ∙ u)
    | inr x ↦
        let y = t.r.each x.0 c x.1 in
        elim y.2 [
          | inl stay ↦ let z = t.start.tree.down t.id x.0 c e t.r.was stay.0 in none_some z.0 (sym v ∙ z.1)
          | inr n ↦
              let same : n.1.seen ≡ d = some_same n.1.seen d (sym n.1.here ∙ u) in
              subst (λ z. IsComer c z) same (record {
                place = x.0;
                asked_for = y.0;
                wanted = y.1;
                child = x.1;
                vacant = v;
                node = n.1.node;
                parent = n.1.parent;
                index = n.1.index;
                leaf = n.1.leaf;
              })
        ]
  ]

  -- a node of the new view is the node itself, or as it was, or came
  pub where_from : (c : ℕ) (d : Seen X) → T c ≡ Some d
      → ((c ≡ t.id) × (d ≡ now)) ⊎ (((c ≢ t.id) × (V c ≡ Some d) × (t.gone c ≡ false)) ⊎ IsComer c d)
  where_from c d u = elim (nat_cases c t.id) [
    | inl q ↦ inl (q, some_same d now (sym u ∙ ap T q ∙ t.r.is))
    | inr ne ↦ elim (option_cases (V c)) [
      | inl none ↦ inr (inr (comer c d none u))
      | inr x ↦ elim (bool_cases (t.gone c)) [
        | inl y ↦ none_some d (sym (t.r.rest c x.0 ne x.1 ∙ ap (λ b. if b then None else Some x.0) y) ∙ u)
        | inr z ↦
            let same : x.0 ≡ d = some_same x.0 d (sym (stay_slot c x.0 x.1 ne z) ∙ u) in
            inr (inl (ne, x.1 ∙ ap Some same, z))
      ]
    ]
  ]

  -- a node of both views
  pub both : (p : ℕ) (x v : Seen X) → T p ≡ Some x → V p ≡ Some v → SameNode x v × (t.gone p ≡ false)
  both p x v u y = elim (where_from p x u) [
    | inl q ↦
        let same : e ≡ v = some_same e v (sym t.r.was ∙ ap V (sym q.0) ∙ y) in
        (subst (λ z. SameNode z v) (sym q.1) (subst (λ z. SameNode now z) same self_same), ap t.gone q.0 ∙ t.r.self)
    | inr z ↦ elim z [
      | inl o ↦ (subst (λ z. SameNode x z) (some_same x v (sym o.1 ∙ y)) (same_refl x), o.2)
      | inr n ↦ none_some v (sym n.vacant ∙ y)
    ]
  ]

  -- a node below another was below it, or came below the one whose children changed
  abbrev pub WasBelow : ℕ → ℕ → Seen X → Seen X → Type 0
  WasBelow c p d x =
      (d' : Seen X) × (x' : Seen X) × (V c ≡ Some d') × (d'.parent ≡ Some p) × (V p ≡ Some x') × SameNode d d' × SameNode x x'

  pub below_before : (c p : ℕ) (d x : Seen X) → T c ≡ Some d → d.parent ≡ Some p → T p ≡ Some x
      → WasBelow c p d x ⊎ (IsComer c d × (p ≡ t.id) × (x ≡ now))
  below_before c p d x u up at = elim (option_cases (V c)) [
    | inl none ↦
        let n = comer c d none u in
        let q : p ≡ t.id = some_same p t.id (sym up ∙ n.parent) in
        inr (n, q, some_same x now (sym at ∙ ap T q ∙ t.r.is))
    | inr y ↦
        let b = both c d y.0 u y.1 in
        let up' : y.0.parent ≡ Some p = sym b.0.parent ∙ up in
        let v = parent_of shapes content rules V t.start c p y.0 y.1 up' in
        let b' = both p x v.0 at v.1 in
        inl (y.0, v.0, y.1, up', v.1, b.0, b'.0)
  ]

  below_as : (x y x' y' : Seen X) → SameNode x x' → SameNode y y' → (i : ℕ)
      → StandsBelow shapes content x'.node i y'.node → StandsBelow shapes content x.node i y.node
  below_as x y x' y' a b i s = record {
    inner = a.instances ∙ s.inner;
    place = (
      ap shapes.lot b.shape ∙ s.place.0 ∙ ap shapes.lot (sym a.shape),
      ap shapes.path b.shape ∙ s.place.1 ∙ ap (λ m. shapes.path m ++ i ∷ []) (sym a.shape),
    );
    line = b.line ∙ s.line ∙ ap (λ l. l ++ content.priority y'.node ∷ []) (sym a.line) ∙ ap (λ p. content.line x.node ++ p ∷ []) (sym b.priority);
    symbol = λ q. b.symbol ∙ s.symbol (sym b.instances ∙ q) ∙ sym a.symbol;
  }

  self_below : (i : ℕ) (y : X) → StandsBelow shapes content e.node i y → StandsBelow shapes content now.node i y
  self_below i y s = record {
    inner = t.self.is;
    place = (s.place.0 ∙ ap shapes.lot (sym t.self.shape), s.place.1 ∙ ap (λ m. shapes.path m ++ i ∷ []) (sym t.self.shape));
    line = s.line ∙ ap (λ l. l ++ content.priority y ∷ []) (sym t.self.line);
    symbol = λ q. s.symbol q ∙ sym t.self.symbol;
  }

  pub comer_stands : (c : ℕ) (d : Seen X) (n : IsComer c d) → StandsBelow shapes content now.node d.index d.node
  comer_stands c d n =
      subst (λ i. StandsBelow shapes content now.node i d.node) (sym n.index)
      (subst (λ y. StandsBelow shapes content now.node n.place y) (sym n.node) (self_below n.place n.asked_for (t.are.below n.place n.asked_for n.wanted)))

  -- an instance that came has the priority of the node
  comer_drawn : (c : ℕ) (d : Seen X) (n : IsComer c d) → is_instance (content.kind d.node) ≡ true
      → content.priority d.node ≡ content.priority now.node
  comer_drawn c d n q =
      let below = t.are.below n.place n.asked_for n.wanted in
      let solid : is_instance (content.kind n.asked_for) ≡ true = ap (λ y. is_instance (content.kind y)) (sym n.node) ∙ q in
      ap content.priority n.node ∙ t.are.priced n.place n.asked_for n.wanted ∙ t.by_symbol n.asked_for e.node (below.symbol solid) ∙ sym t.own ∙ sym t.self.priority

  pub city_after : IsCity shapes content rules T
  city_after = record {
    tree = t.tree;
    root = λ c d u top. elim (option_cases (V c)) [
      | inl none ↦ let n = comer c d none u in none_some t.id (sym top ∙ n.parent)
      | inr y ↦
          let b = (both c d y.0 u y.1).0 in
          let at = t.start.root c y.0 y.1 (sym b.parent ∙ top) in
          record {
            inner = b.instances ∙ at.inner;
            path = ap shapes.path b.shape ∙ at.path;
            line = b.line ∙ at.line ∙ ap (λ p. p ∷ []) (sym b.priority);
          }
    ];
    child = λ c p d x u up at. elim (below_before c p d x u up at) [
      | inl z ↦ subst (λ i. StandsBelow shapes content x.node i d.node) (sym z.5.index) (below_as x d z.1 z.0 z.6 z.5 z.0.index (t.start.child c p z.0 z.1 z.2 z.3 z.4))
      | inr n ↦ subst (λ (y : Seen X). StandsBelow shapes content y.node d.index d.node) (sym n.2) (comer_stands c d n.0)
    ];
    drawn = λ c p d x u up at q. elim (below_before c p d x u up at) [
      | inl z ↦ z.5.priority ∙ t.start.drawn c p z.0 z.1 z.2 z.3 z.4 (sym z.5.instances ∙ q) ∙ sym z.6.priority
      | inr n ↦ comer_drawn c d n.0 q ∙ ap (λ (y : Seen X). content.priority y.node) (sym n.2)
    ];
    tops = record {
      top = λ c d u top. elim (option_cases (V c)) [
        | inl none ↦ let n = comer c d none u in none_some t.id (sym top ∙ n.parent)
        | inr y ↦
            let b = (both c d y.0 u y.1).0 in
            let at = t.start.tops.top c y.0 y.1 (sym b.parent ∙ top) in
            (subst (λ s. Among s rules.roots) (sym b.shape) at.0, b.priority ∙ at.1 ∙ ap rules.priority (sym b.shape))
      ];
      tops = λ s root.
          let x = t.start.tops.tops s root in
          let g = t.r.tops x.0 x.1 x.2 x.3 in
          let y = stayed x.0 x.1 x.2 g in
          (x.0, y.seen, y.here, y.same.parent ∙ x.3, y.same.shape ∙ x.4);
      one_top = λ c b d x u v top top' same. elim (option_cases (V c)) [
        | inl none ↦ let n = comer c d none u in none_some t.id (sym top ∙ n.parent)
        | inr y ↦ elim (option_cases (V b)) [
          | inl none ↦ let n = comer b x none v in none_some t.id (sym top' ∙ n.parent)
          | inr z ↦
              let f = (both c d y.0 u y.1).0 in
              let g = (both b x z.0 v z.1).0 in
              t.start.tops.one_top c b y.0 z.0 y.1 z.1 (sym f.parent ∙ top) (sym g.parent ∙ top') (ap shapes.lot (sym f.shape) ∙ same ∙ ap shapes.lot g.shape)
        ]
      ];
    };
  }

  -- a child that stays fits what was asked for at its place
  pub stays_fit : (i c : ℕ) (d : Seen X) (y : X) → slice_get e.children i ≡ Some c → V c ≡ Some d → t.gone c ≡ false
      → slice_get t.news i ≡ Some y → AreAlike content d.node y
  stays_fit i c d y child v g wanted =
      t.is_fit.sound d.node y (fit_true (t.fits d.node y) (t.gone c) g (t.r.fate i c d child v ∙ ap (λ o. not (fits_at t.fits d.node o)) wanted))

  -- so its priority is its symbol's
  pub child_priced : (c : ℕ) (d : Seen X) → V c ≡ Some d → d.parent ≡ Some t.id → t.gone c ≡ false
      → content.priority d.node ≡ rules.priority (content.shape d.node)
  child_priced c d v up g =
      let u = parent_of shapes content rules V t.start c t.id d v up in
      let owner : u.0 ≡ e = some_same u.0 e (sym u.1 ∙ t.r.was) in
      let child : slice_get e.children d.index ≡ Some c = ap (λ (y : Seen X). slice_get y.children d.index) (sym owner) ∙ u.3 in
      let y = t.r.each d.index c (t.r.stays d.index c child g) in
      let like = stays_fit d.index c d y.0 child v g y.1 in
      like.priority ∙ t.are.priced d.index y.0 y.1 ∙ ap rules.priority (sym like.shape)
