-- The fields of a turn, one by one.
use Rattle.std.proofs.Common.{◌≡◌, ◌≢◌, ℕ, List, Bool, true, false, ◌⊎◌, inl, inr, refl, ap, sym, ◌∙◌, subst}
use Rattle.std.specs.Prelude.{Some, None, if◌then◌else◌}
use Rattle.cga_tree.specs.Tree.{Seen, View}
use Rattle.cga_order.specs.Chain.{IsChild}
use Rattle.cga_order.specs.World.{World, is_instance, place_of, IsEarlier, stamp_of}
use Rattle.cga_order.specs.declared.placed.Kind.{Kind}
use Rattle.cga_order.specs.Agenda.{Node, Keeps, Created, Removed, Remains, QueuesWhatSees, QueuesOnly, IsNext}
use Rattle.cga_order.specs.Agenda as kept
use Rattle.cga_agenda.specs.Edit.{Edit}
use Rattle.cga_agenda.specs.Work.{IsFresh}
use Rattle.cga_rework.specs.Rules.{Shapes, Rules, IsRulesEdit}
use Rattle.cga_rework.specs.Ranked.{Ranked, chain_of, edit_of, ranked_world}
use Rattle.cga_rework.specs.Nodes.{Content, ranked_of, nodes_of, IsBound, ComesLater}
use Rattle.cga_rework.specs.City.{IsCity, IsPriced, AsksRight}
use Rattle.cga_rework.specs.Agenda.{AreQueued, IsTaken, IsMoved}
use Rattle.cga_rework.specs.Turn.{SeesWhatMeets}
use Rattle.cga_rework.proofs.NodeLists.{bool_cases, nat_cases, some_same, true_false, keeps-node}
use Rattle.cga_rework.proofs.Place.{keyed, earlier, later, same_node, keeps_as, is_tree}
use Rattle.cga_rework.proofs.Replaced.{Replacing, IsComer, comer, where_from, below_before, both, child_priced, rank_old, rank_self, stayed, city_after}
use Rattle.cga_rework.proofs.Removed as removed

module _ {X S A B F P : Type 0} (shapes : Shapes S) (content : Content X S A F P) (rules : Rules S A B F P) (V : View X) (city : IsCity shapes content rules V) where
  -- the node that was taken is the next
  pub is_next : (small id : ℕ) (e : Seen X) (agenda rest : ℕ → Bool) → IsTaken shapes content V id e agenda rest
      → (queued : Ranked S → Bool) → AreQueued shapes content V agenda queued
      → IsNext (ranked_world shapes rules) (nodes_of content V small) (ranked_of content e.node) queued
  is_next small id e agenda rest taken queued are = record {
    there = (are id e taken.here).1 taken.there;
    first = λ m k a h q apart.
        let w = ranked_world shapes rules in
        let y = keeps-node content V small m k a h in
        let other : y.0 ≢ id = λ i.
        let d : y.1 ≡ e = some_same y.1 e (sym y.2 ∙ ap V i ∙ taken.here) in
        apart (ap (place_of w) (sym y.3 ∙ ap (λ (z : Seen _). ranked_of content z.node) d)) in
        let on = taken.stay y.0 y.1 y.2 ((are y.0 y.1 y.2).0 (ap queued y.3 ∙ q)) other in
        subst (λ l. IsEarlier w (stamp_of w (ranked_of content e.node)) (stamp_of w l)) y.3
        (earlier shapes content rules e.node y.1.node (keyed shapes content rules V city id e taken.here) (keyed shapes content rules V city y.0 y.1 y.2) (taken.left y.0 y.1 y.2 on).2);
  }

module _ {X S A B F P : Type 0} (shapes : Shapes S) (content : Content X S A F P) (old rules : Rules S A B F P) (laws : IsRulesEdit shapes old rules) (t : Replacing shapes content rules)
    (small great : ℕ) (within : IsBound t.V small) (within' : IsBound t.T great)
    (asks : S → Bool) (meets : S → S → Bool) (sees_is : SeesWhatMeets rules asks meets)
    (agenda rest after : ℕ → Bool)
    (priced : IsPriced shapes content rules t.V agenda) (asking : AsksRight shapes content rules asks t.V agenda)
    (self_asks : content.asks t.now.node ≡ asks (content.shape t.now.node))
    (taken : IsTaken shapes content t.V t.id t.e agenda rest) (moved : IsMoved shapes content meets t.V t.T t.e.node rest after)
    (queued requeued : Ranked S → Bool) (are : AreQueued shapes content t.V agenda queued) (are' : AreQueued shapes content t.T after requeued) where
  abbrev w : World (Ranked S) A F P
  w = ranked_world shapes rules

  abbrev edit : Edit (Ranked S) A B F P
  edit = edit_of shapes old rules

  abbrev rank : X → Ranked S
  rank x = ranked_of content x

  abbrev s : Ranked S
  s = rank t.e.node

  abbrev nodes : List (Node (Ranked S) A F P)
  nodes = nodes_of content t.V small

  abbrev nodes' : List (Node (Ranked S) A F P)
  nodes' = nodes_of content t.T great

  city : IsCity shapes content rules t.T
  city = city_after shapes content rules t

  abbrev IsNewcomer : ℕ → Seen X → Type 0
  IsNewcomer c d = IsComer shapes content rules t c d

  from_where : (c : ℕ) (d : Seen X) → t.T c ≡ Some d
      → ((c ≡ t.id) × (d ≡ t.now)) ⊎ (((c ≢ t.id) × (t.V c ≡ Some d) × (t.gone c ≡ false)) ⊎ IsNewcomer c d)
  from_where = where_from shapes content rules t

  stays_on : (c : ℕ) (x d : Seen X) → t.V c ≡ Some x → t.T c ≡ Some d → c ≢ t.id → agenda c ≡ true → after c ≡ true
  stays_on c x d v u ne q = moved.kept c x d v u (taken.stay c x v q ne)

  on : (c : ℕ) (d : Seen X) (n : Ranked S) → t.T c ≡ Some d → rank d.node ≡ n → after c ≡ true → requeued n ≡ true
  on c d n u q h = ap requeued (sym q) ∙ (are' c d u).1 h

  -- off the new agenda a node asks where its shape does
  pub asks_after : AsksRight shapes content rules asks t.T after
  asks_after c d u solid = elim (from_where c d u) [
    | inl i ↦ inr (ap (λ (y : Seen X). content.asks y.node) i.1 ∙ self_asks ∙ ap (λ (y : Seen X). asks (content.shape y.node)) (sym i.1))
    | inr z ↦ elim z [
      | inl o ↦ elim (asking c d o.1 solid) [
        | inl q ↦ inl (stays_on c d d o.1 u o.0 q)
        | inr a ↦ inr a
      ]
      | inr n ↦ inl (moved.created c d n.vacant u solid)
    ]
  ]

  -- and where a child hasn't its symbol's priority, its parent is on it
  pub priced_after : IsPriced shapes content rules t.T after
  priced_after c p d x u up at solid = elim (below_before shapes content rules t c p d x u up at) [
    | inl z ↦ elim (priced c p z.0 z.1 z.2 z.3 z.4 (sym z.5.instances ∙ solid)) [
      | inl q ↦ elim (nat_cases p t.id) [
        | inl is ↦
            let stay = (both shapes content rules t c d z.0 u z.2).1 in
            inr (z.5.priority ∙ child_priced shapes content rules t c z.0 z.2 (z.3 ∙ ap Some is) stay ∙ ap rules.priority (sym z.5.shape))
        | inr ne ↦ inl (stays_on p z.1 x z.4 at ne q)
      ]
      | inr pr ↦ inr (z.5.priority ∙ pr ∙ ap rules.priority (sym z.5.shape))
    ]
    | inr n ↦
        let y = n.0 in
        inr (ap content.priority y.node ∙ t.are.priced y.place y.asked_for y.wanted ∙ ap (λ z. rules.priority (content.shape z)) (sym y.node))
  ]

  late : (c : ℕ) (d : Seen X) (n : Ranked S) → t.T c ≡ Some d → rank d.node ≡ n
      → IsEarlier w (stamp_of w s) (stamp_of w n) → ComesLater content shapes t.e.node d.node
  late c d n u q h = later shapes content rules t.e.node d.node (keyed shapes content rules t.V t.start t.id t.e
      t.r.was) (keyed shapes content rules t.T city c d u) (subst (λ m. IsEarlier w (stamp_of w s) (stamp_of w m)) (sym q) h)

  -- what sees what went is on the agenda
  seen_removed : (b : ℕ) (x : Seen X) → t.V b ≡ Some x → t.T b ≡ None → QueuesWhatSees w nodes' s (rank x.node) requeued
  seen_removed b x v gone n k a h solid after_s sees =
      let y = keeps-node content t.T great n k a h in
      let is = sees_is n.shape (content.shape x.node) sees in
      let shape : content.shape y.1.node ≡ n.shape = ap (λ (m : Ranked S). m.shape) y.3 in
      let plain : is_instance (content.kind y.1.node) ≡ false = ap is_instance y.4 ∙ solid in
      elim (asks_after y.0 y.1 y.2 plain) [
        | inl q ↦ on y.0 y.1 n y.2 y.3 q
        | inr a' ↦
            let does : content.asks y.1.node ≡ true = a' ∙ ap asks shape ∙ is.0 in
            let meet : meets (content.shape y.1.node) (content.shape x.node) ≡ true = ap (λ m. meets m (content.shape x.node)) shape ∙ is.1 in
            on y.0 y.1 n y.2 y.3 (moved.removed b y.0 x y.1 v gone y.2 plain does meet (late y.0 y.1 n y.2 y.3 after_s))
      ]

  seen_created : (b : ℕ) (x : Seen X) → t.V b ≡ None → t.T b ≡ Some x → QueuesWhatSees w nodes' s (rank x.node) requeued
  seen_created b x v created n k a h solid after_s sees =
      let y = keeps-node content t.T great n k a h in
      let is = sees_is n.shape (content.shape x.node) sees in
      let shape : content.shape y.1.node ≡ n.shape = ap (λ (m : Ranked S). m.shape) y.3 in
      let plain : is_instance (content.kind y.1.node) ≡ false = ap is_instance y.4 ∙ solid in
      elim (asks_after y.0 y.1 y.2 plain) [
        | inl q ↦ on y.0 y.1 n y.2 y.3 q
        | inr a' ↦
            let does : content.asks y.1.node ≡ true = a' ∙ ap asks shape ∙ is.0 in
            let meet : meets (content.shape y.1.node) (content.shape x.node) ≡ true = ap (λ m. meets m (content.shape x.node)) shape ∙ is.1 in
            on y.0 y.1 n y.2 y.3 (moved.arrived b y.0 x y.1 v created y.2 plain does meet (late y.0 y.1 n y.2 y.3 after_s))
      ]

  keeps_before : (c : ℕ) (d : Seen X) (m : Ranked S) (k : Kind F P) (a : A) → t.V c ≡ Some d → rank d.node ≡ m
      → content.kind d.node ≡ k → content.answers d.node ≡ a → Keeps nodes m k a
  keeps_before = keeps_as shapes content rules t.V t.start small within

  self_is : (d : Seen X) → d ≡ t.now → rank d.node ≡ s
  self_is d f = ap (λ (y : Seen X). rank y.node) f ∙ rank_self shapes content rules t

  -- each other node is as it was, or came
  pub from : (m : Ranked S) (k : Kind F P) (a : A) → Keeps nodes' m k a → m ≢ s
      → Keeps nodes m k a ⊎ (Created w nodes' s m k requeued × IsFresh edit nodes nodes' m k)
  from m k a h apart =
      let y = keeps-node content t.T great m k a h in
      elim (from_where y.0 y.1 y.2) [
        | inl i ↦ absurd (apart (sym y.3 ∙ self_is y.1 i.1))
        | inr z ↦ elim z [
          | inl o ↦ inl (keeps_before y.0 y.1 m k a o.1 y.3 y.4 y.5)
          | inr n ↦
              let below = removed.comer_below shapes content old rules laws t small great within within' y.0 y.1 y.2 n in
              let new = removed.fresh shapes content old rules laws t small great within within' y.0 y.1 y.2 n in
              let created : Created w nodes' s (rank y.1.node) (content.kind y.1.node) requeued = (
                (n.place, below),
                (λ i. on y.0 y.1 (rank y.1.node) y.2 refl (moved.created y.0 y.1 n.vacant y.2 i)),
                seen_created y.0 y.1 n.vacant y.2,
              ) in
              inr (subst (λ j. Created w nodes' s m j requeued × IsFresh edit nodes nodes' m j) y.4
              (subst (λ (l : Ranked S). Created w nodes' s l (content.kind y.1.node) requeued × IsFresh edit nodes nodes' l (content.kind y.1.node)) y.3 (created, new)))
        ]
      ]

  -- each node remains, or went
  pub to : (m : Ranked S) (k : Kind F P) (a : A) → Keeps nodes m k a
      → Remains w nodes' m k ⊎ Removed w s m nodes nodes' requeued
  to m k a h =
      let y = keeps-node content t.V small m k a h in
      elim (bool_cases (t.gone y.0)) [
        | inr stay ↦
            let x = stayed shapes content rules t y.0 y.1 y.2 stay in
            inl (
              content.kind x.seen.node,
              content.answers x.seen.node,
              keeps_as shapes content rules t.T city great within' y.0 x.seen m (content.kind x.seen.node)
                  (content.answers x.seen.node) x.here (rank_old shapes content rules t y.0 y.1 x.seen y.2 stay x.here ∙ y.3) refl refl,
              x.same.instances ∙ ap is_instance y.4,
              λ i. x.same.solid (ap is_instance y.4 ∙ i) ∙ y.4,
            )
        | inl goes ↦
            let apart : y.0 ≢ t.id = λ q. true_false (t.gone y.0) goes (ap t.gone q ∙ t.r.self) in
            let away : t.T y.0 ≡ None = t.r.rest y.0 y.1 apart y.2 ∙ ap (λ b. if b then None else Some y.1) goes in
            inr (subst (λ (l : Ranked S). Removed w s l nodes nodes' requeued) y.3 (record {
              late = removed.removed_late shapes content old rules laws t small great within within' y.1.depth y.0 y.1 refl y.2 goes;
              below = removed.removed_below shapes content old rules laws t small great within within' y.0 y.1 y.2 goes;
              seen = seen_removed y.0 y.1 y.2 away;
            }))
      ]

  pub tree : kept.IsTree w nodes'
  tree = is_tree shapes content rules t.T city great within'

  pub queued_still : (m : Ranked S) (k : Kind F P) (a : A) → Keeps nodes' m k a → is_instance k ≡ false → m ≢ s
      → queued m ≡ true → requeued m ≡ true
  queued_still m k a h solid apart q =
      let y = keeps-node content t.T great m k a h in
      let plain : is_instance (content.kind y.1.node) ≡ false = ap is_instance y.4 ∙ solid in
      elim (from_where y.0 y.1 y.2) [
        | inl i ↦ absurd (apart (sym y.3 ∙ self_is y.1 i.1))
        | inr z ↦ elim z [
          | inl o ↦ on y.0 y.1 m y.2 y.3 (stays_on y.0 y.1 y.1 o.1 y.2 o.0 ((are y.0 y.1 o.1).0 (ap queued y.3 ∙ q)))
          | inr n ↦ on y.0 y.1 m y.2 y.3 (moved.created y.0 y.1 n.vacant y.2 plain)
        ]
      ]

  -- another number of the new view names another place
  elsewhere : (c : ℕ) (d : Seen X) → t.T c ≡ Some d → c ≢ t.id → place_of w (rank d.node) ≡ place_of w s → ⊥
  elsewhere c d u apart same =
      let lots : shapes.lot (content.shape d.node) ≡ shapes.lot (content.shape t.now.node) = ap (λ p. p.0) same ∙ ap shapes.lot (sym t.self.shape) in
      let paths : shapes.path (content.shape d.node) ≡ shapes.path (content.shape t.now.node) = ap (λ p. p.1) same ∙ ap shapes.path (sym t.self.shape) in
      apart (same_node shapes content rules t.T city c t.id d t.now u t.r.is (lots, paths)).0

  pub queues_only : QueuesOnly w nodes nodes' s queued requeued
  queues_only m k a h q =
      let y = keeps-node content t.T great m k a h in
      let comes : (n : IsNewcomer y.0 y.1) → (i : ℕ) × IsChild (chain_of shapes s) i (chain_of shapes m) =
      λ n. (
        n.place,
        subst (λ (l : Ranked S). IsChild (chain_of shapes s) n.place (chain_of shapes l)) y.3
            (removed.comer_below shapes content old rules laws t small great within within' y.0 y.1 y.2 n),
      ) in
      elim (moved.only y.0 y.1 y.2 ((are' y.0 y.1 y.2).0 (ap requeued y.3 ∙ q))) [
        | inl u ↦
            let left = taken.left y.0 u.0 u.1 u.2 in
            elim (from_where y.0 y.1 y.2) [
              | inl i ↦ absurd (left.0 i.0)
              | inr z ↦ elim z [
                | inl o ↦ inl (keeps_before y.0 y.1 m k a o.1 y.3 y.4 y.5, ap queued (sym y.3) ∙ (are y.0 y.1 o.1).1 left.1, λ p. elsewhere y.0 y.1 y.2 left.0 (ap (place_of w) y.3 ∙ p))
                | inr n ↦ inr (inl (comes n))
              ]
            ]
        | inr v ↦ elim v [
          | inl none ↦ inr (inl (comes (comer shapes content rules t y.0 y.1 none y.2)))
          | inr lat ↦ inr (inr (subst (λ (l : Ranked S). IsEarlier w (stamp_of w s) (stamp_of w l)) y.3
              (earlier shapes content rules t.e.node y.1.node (keyed shapes content rules t.V t.start t.id t.e t.r.was) (keyed shapes content rules t.T city y.0 y.1 y.2) lat)))
        ]
      ]
