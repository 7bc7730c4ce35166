-- A turn of a kept tree is a turn of the work of an edit.
use Rattle.std.proofs.Common.{◌≡◌, ◌≢◌, ℕ, ◌+◌, List, length, Bool, false, inl, inr, refl, ap, sym, ◌∙◌, subst, arith}
use Rattle.std.specs.Prelude.{Some}
use Rattle.cga_tree.specs.Tree.{Seen, View}
use Rattle.cga_order.specs.Chain.{IsChild}
use Rattle.cga_order.specs.Stamp.{stamps_cmp}
use Rattle.cga_order.specs.World.{World, IsEarlier, stamp_of}
use Rattle.cga_order.specs.declared.placed.Placed.{Placed}
use Rattle.cga_order.specs.declared.placed.Kind.{Kind}
use Rattle.cga_order.specs.Consistent.{Stands}
use Rattle.cga_order.specs.Agenda.{Node, Keeps, members_of}
use Rattle.cga_derivation.proofs.Door.{length-fitted}
use Rattle.cga_order.specs.Total.{stamps_total}
use Rattle.cga_order.proofs.Door.{Has-Keeps, stamp-child}
use Rattle.cga_order.proofs.Door as stamps
use Rattle.cga_agenda.specs.Edit.{Edit}
use Rattle.cga_agenda.specs.Work.{IsTurnOf, Places, HasRenewed, renewed_child, first_kind}
use Rattle.cga_rework.specs.Rules.{Shapes, Rules, IsRulesEdit}
use Rattle.cga_rework.specs.Ranked.{Ranked, chain_of, edit_of, ranked_world}
use Rattle.cga_rework.specs.Nodes.{Content, ranked_of, nodes_of, IsBound}
use Rattle.cga_rework.specs.City.{IsCity, IsUnderway}
use Rattle.cga_rework.specs.Agenda.{AreQueued}
use Rattle.cga_rework.specs.Turn.{IsFit, SeesWhatMeets, IsNodeTurn, IsQuietTurn}
use Rattle.cga_rework.specs.TreeLaws.{GoesBySymbol, NodeTurns, QuietTurns, TakenIsPriced, AgendaIsQueued}
use Rattle.cga_rework.proofs.NodeLists.{nat_cases, option_cases, some_same, keeps-node}
use Rattle.cga_rework.proofs.Place.{parent_of, keyed, earlier, child_rank, child_is, same_node, same_ranked, keeps, is_tree}
use Rattle.cga_rework.proofs.Replaced.{Replacing, city_after}
use Rattle.cga_rework.proofs.Queue.{queued_by, are_queued}
use Rattle.cga_rework.proofs.Fields as fields
use Rattle.cga_rework.proofs.Outcome.{expands, places}
use Rattle.cga_rework.proofs.Renewed.{ends_with, renew_same, first_alike, first_same, first_plain}

-- at its turn a node has its symbol's priority: its parent comes earlier
pub taken_is_priced : {X S A B F P : Type 0} → TakenIsPriced X S A B F P
taken_is_priced {X} {S} {A} {B} {F} {P} shapes content rules derives asks V id e agenda rest under taken solid = elim (option_cases e.parent) [
  | inl top ↦ (under.city.tops.top id e taken.here top).1
  | inr up ↦
      let u = parent_of shapes content rules V under.city id up.0 e taken.here up.1 in
      elim (under.priced id up.0 e u.0 taken.here up.1 u.1 solid) [
        | inr p ↦ p
        | inl q ↦
            let w = ranked_world shapes rules in
            let deep = u.2 in
            let apart : up.0 ≢ id = λ i. absurd (omega (arith, deep, ap (λ (y : Seen X). y.depth) (some_same u.0 e (sym u.1 ∙ ap V i ∙ taken.here)))) in
            let left = taken.left up.0 u.0 u.1 (taken.stay up.0 u.0 u.1 q apart) in
            let key_e = keyed shapes content rules V under.city id e taken.here in
            let key_u = keyed shapes content rules V under.city up.0 u.0 u.1 in
            let one : IsEarlier w (stamp_of w (ranked_of content e.node)) (stamp_of w (ranked_of content u.0.node)) = earlier shapes content rules e.node u.0.node key_e key_u left.2 in
            let other : IsEarlier w (stamp_of w (ranked_of content u.0.node)) (stamp_of w (ranked_of content e.node)) =
            stamp-child shapes.mode (chain_of shapes (ranked_of content u.0.node)) e.index
            (chain_of shapes (ranked_of content e.node))
            (length-fitted (length (shapes.path (content.shape u.0.node)) + 1) (content.line u.0.node))
            (child_rank shapes content rules V under.city id up.0 e u.0 taken.here up.1 u.1) in
            absurd (stamps.not_self (stamps_cmp shapes.mode) (stamps_total shapes.mode)
            (stamp_of w (ranked_of content e.node))
            ((stamps_total shapes.mode).trans (stamp_of w (ranked_of content e.node))
            (stamp_of w (ranked_of content u.0.node)) (stamp_of w (ranked_of content e.node)) one other))
      ]
]

module _ {X S A B F P : Type 0} (shapes : Shapes S) (content : Content X S A F P) (old new : Rules S A B F P) (laws : IsRulesEdit shapes old new) (by_symbol : GoesBySymbol content new)
    (fits : X → X → Bool) (asks : S → Bool) (meets : S → S → Bool) (is_fit : IsFit content fits)
    (V T : View X) (small great id : ℕ) (news : List X) (e now : Seen X) (gone agenda rest after : ℕ → Bool) (expanded : Bool)
    (within : IsBound V small) (within' : IsBound T great) (under : IsUnderway shapes content new asks V agenda)
    (turn : IsNodeTurn shapes content old new fits asks meets V T small id news e now gone agenda rest after expanded) where
  abbrev pub replacing : Replacing shapes content new
  replacing = record {
    fits = fits;
    is_fit = is_fit;
    by_symbol = by_symbol;
    V = V;
    T = T;
    start = under.city;
    id = id;
    news = news;
    e = e;
    now = now;
    gone = gone;
    r = turn.replaced;
    self = turn.self;
    are = turn.are;
    tree = turn.tree;
    own = taken_is_priced shapes content new laws.is asks V id e agenda rest under turn.taken turn.self.was;
  }

  city : IsCity shapes content new T
  city = city_after shapes content new replacing

  abbrev requeued : Ranked S → Bool
  requeued = queued_by shapes content T after great

  are' : AreQueued shapes content T after requeued
  are' = are_queued shapes content T after new city great within'

  module _ (sees_is : SeesWhatMeets new asks meets) (queued : Ranked S → Bool) (are : AreQueued shapes content V agenda queued) where
    abbrev IsTurnNow : Type 0
    IsTurnNow = IsTurnOf (edit_of shapes old new) (nodes_of content V small) (nodes_of content T great) (ranked_of content e.node) queued requeued expanded

    is_turn : IsTurnNow
    is_turn = record {
      next = fields.is_next shapes content new V under.city small id e agenda rest turn.taken queued are;
      was = (
        content.kind e.node,
        content.answers e.node,
        keeps shapes content new V under.city small within id e turn.replaced.was,
        turn.self.was,
        elim turn.outcome [
          | inl x ↦ inl (x.0, expands shapes content old new replacing small great within within' x.1)
          | inr x ↦ inr (x.0, places shapes content old new replacing small great within within' x.1)
        ],
      );
      tree = fields.tree shapes content old new laws replacing small great within within' asks meets sees_is agenda
          rest after under.priced under.asking turn.self_asks turn.taken turn.moved queued requeued are are';
      from = fields.from shapes content old new laws replacing small great within within' asks meets sees_is agenda
          rest after under.priced under.asking turn.self_asks turn.taken turn.moved queued requeued are are';
      to = fields.to shapes content old new laws replacing small great within within' asks meets sees_is agenda
          rest after under.priced under.asking turn.self_asks turn.taken turn.moved queued requeued are are';
      queued_still = fields.queued_still shapes content old new laws replacing small great within within' asks
          meets sees_is agenda rest after under.priced under.asking turn.self_asks turn.taken turn.moved queued requeued are are';
      queues_only = fields.queues_only shapes content old new laws replacing small great within within' asks meets
          sees_is agenda rest after under.priced under.asking turn.self_asks turn.taken turn.moved queued requeued are are';
    }

    pub turns : IsUnderway shapes content new asks T after
        × ((requeued : Ranked S → Bool) × AreQueued shapes content T after requeued
        × IsTurnOf (edit_of shapes old new) (nodes_of content V small) (nodes_of content T great)
        (ranked_of content e.node) queued requeued expanded)
    turns = (
      record {
        city = city;
        priced = fields.priced_after shapes content old new laws replacing small great within within' asks meets
            sees_is agenda rest after under.priced under.asking turn.self_asks turn.taken turn.moved queued requeued are are';
        asking = fields.asks_after shapes content old new laws replacing small great within within' asks meets
            sees_is agenda rest after under.priced under.asking turn.self_asks turn.taken turn.moved queued requeued are are';
      },
      (requeued, are', is_turn),
    )

-- where a tree is underway, a turn of it is a turn of the work, and leaves it underway
pub node_turns : {X S A B F P : Type 0} → NodeTurns X S A B F P
node_turns shapes content old new laws by_symbol fits asks meets is_fit sees_is V T small great id news e now gone agenda rest after expanded within within' under turn queued are =
    turns shapes content old new laws by_symbol fits asks meets is_fit V T small great id news e now gone agenda rest after expanded within within' under turn sees_is queued are

module _ {X S A B F P : Type 0} (shapes : Shapes S) (content : Content X S A F P) (old new : Rules S A B F P) (asks : S → Bool)
    (V : View X) (small id : ℕ) (e : Seen X) (agenda rest : ℕ → Bool) (within : IsBound V small)
    (under : IsUnderway shapes content new asks V agenda) (turn : IsQuietTurn shapes content old new asks V small id e agenda rest) where
  abbrev w : World (Ranked S) A F P
  w = ranked_world shapes new

  abbrev edit : Edit (Ranked S) A B F P
  edit = edit_of shapes old new

  abbrev rank : X → Ranked S
  rank x = ranked_of content x

  abbrev s : Ranked S
  s = rank e.node

  abbrev nodes : List (Node (Ranked S) A F P)
  nodes = nodes_of content V small

  -- a child of the node stays when it is renewed
  child_stays : (c : Ranked S) (k : Kind F P) (a : A) (i : ℕ) → Keeps nodes c k a
      → IsChild (chain_of shapes s) i (chain_of shapes c)
      → renewed_child edit c k ≡ record { shape = c; kind = first_kind k }
  child_stays c k a i h below =
      let y = keeps-node content V small c k a h in
      let under_s : IsChild (chain_of shapes s) i (chain_of shapes (rank y.1.node)) = subst (λ (l : Ranked S). IsChild (chain_of shapes s) i (chain_of shapes l)) (sym y.3) below in
      let is = child_is shapes content new V under.city y.0 id i y.1 e y.2 turn.taken.here under_s in
      let ends = ends_with shapes content new V under.city y.0 y.1 y.2 in
      let here : renewed_child edit (rank y.1.node) (content.kind y.1.node) ≡ record { shape = rank y.1.node; kind = first_kind (content.kind y.1.node) } =
      renew_same new.priority (rank y.1.node) (first_kind (content.kind y.1.node)) ends.0
      (content.priority y.1.node) ends.1 (λ q. turn.priced y.0 y.1 y.2 is.0 (first_plain (content.kind y.1.node) q)) in
      subst (λ j. renewed_child edit c j ≡ record { shape = c; kind = first_kind j }) y.4
      (subst (λ (l : Ranked S). renewed_child edit l (content.kind y.1.node) ≡ record { shape = l; kind = first_kind (content.kind y.1.node) }) y.3 here)

  renewed : HasRenewed edit nodes nodes s
  renewed = record {
    all = λ c k a i h below.
        let stays = child_stays c k a i h below in
        let st : Stands (members_of nodes) c (first_kind k) = (k, Has-Keeps nodes c k a h, first_alike k, λ q. first_same k q) in
        subst (λ (z : Placed (Ranked S) F P). Stands (members_of nodes) z.shape z.kind) (sym stays) st;
    only = λ c k a i h below.
        (c, k, a, i, h, below, ap (λ (z : Placed (Ranked S) F P). z.shape) (child_stays c k a i h below));
  }

  quiet_places : Places edit nodes nodes s (content.kind e.node) (content.answers e.node)
  quiet_places = record {
    done = turn.done;
    setting = turn.same.0;
    asks = turn.same.1;
    still = λ k a h.
        let y = keeps-node content V small s k a h in
        let q = same_ranked shapes content new V under.city y.0 id y.1 e y.2 turn.taken.here y.3 in
        (sym y.4 ∙ ap (λ (d : Seen X). content.kind d.node) q.1, sym y.5 ∙ ap (λ (d : Seen X). content.answers d.node) q.1);
    children = renewed;
  }

  abbrev left_queued : Ranked S → Bool
  left_queued = queued_by shapes content V rest small

  left_are : AreQueued shapes content V rest left_queued
  left_are = are_queued shapes content V rest new under.city small within

  pub under_still : IsUnderway shapes content new asks V rest
  under_still = record {
    city = under.city;
    priced = λ c p d x v up at solid. elim (under.priced c p d x v up at solid) [
      | inr pr ↦ inr pr
      | inl q ↦ elim (nat_cases p id) [
        | inl is ↦ inr (turn.priced c d v (up ∙ ap Some is) solid)
        | inr ne ↦ inl (turn.taken.stay p x at q ne)
      ]
    ];
    asking = λ c d v solid. elim (nat_cases c id) [
      | inl is ↦
          let same : e ≡ d = some_same e d (sym turn.taken.here ∙ ap V (sym is) ∙ v) in
          inr (subst (λ (y : Seen X). content.asks y.node ≡ asks (content.shape y.node)) same turn.self_asks)
      | inr ne ↦ elim (under.asking c d v solid) [
        | inl q ↦ inl (turn.taken.stay c d v q ne)
        | inr a ↦ inr a
      ]
    ];
  }

  module _ (queued : Ranked S → Bool) (are : AreQueued shapes content V agenda queued) where
    other : (m : Ranked S) (c : ℕ) (d : Seen X) → V c ≡ Some d → rank d.node ≡ m → m ≢ s → c ≢ id
    other m c d v q apart i =
        let same : d ≡ e = some_same d e (sym v ∙ ap V i ∙ turn.taken.here) in
        apart (sym q ∙ ap (λ (z : Seen X). rank z.node) same)

    pub quiet_turn : IsTurnOf edit nodes nodes s queued left_queued false
    quiet_turn = record {
      next = fields.is_next shapes content new V under.city small id e agenda rest turn.taken queued are;
      was = (content.kind e.node, content.answers e.node, keeps shapes content new V under.city small within id e turn.taken.here, turn.inner, inr (refl, quiet_places));
      tree = is_tree shapes content new V under.city small within;
      from = λ m k a h apart. inl h;
      to = λ m k a h. inl (k, a, h, refl, λ i. refl);
      queued_still = λ m k a h solid apart q.
          let y = keeps-node content V small m k a h in
          let on = (are y.0 y.1 y.2).0 (ap queued y.3 ∙ q) in
          ap left_queued (sym y.3) ∙ (left_are y.0 y.1 y.2).1 (turn.taken.stay y.0 y.1 y.2 on (other m y.0 y.1 y.2 y.3 apart));
      queues_only = λ m k a h q.
          let y = keeps-node content V small m k a h in
          let left = turn.taken.left y.0 y.1 y.2 ((left_are y.0 y.1 y.2).0 (ap left_queued y.3 ∙ q)) in
          inl (
            h,
            ap queued (sym y.3) ∙ (are y.0 y.1 y.2).1 left.1,
            λ p.
                let lots : shapes.lot (content.shape y.1.node) ≡ shapes.lot (content.shape e.node) = ap (λ (n : Ranked S). shapes.lot n.shape) y.3 ∙ ap (λ z. z.0) p in
                let paths : shapes.path (content.shape y.1.node) ≡ shapes.path (content.shape e.node) = ap (λ (n : Ranked S). shapes.path n.shape) y.3 ∙ ap (λ z. z.1) p in
                left.0 (same_node shapes content new V under.city y.0 id y.1 e y.2 turn.taken.here (lots, paths)).0,
          );
    }

-- where a tree is underway, a turn that changes only the agenda is a turn of the work, and leaves it underway
pub quiet_turns : {X S A B F P : Type 0} → QuietTurns X S A B F P
quiet_turns shapes content old new laws by_symbol asks V small id e agenda rest within under turn queued are = (
  under_still shapes content old new asks V small id e agenda rest within under turn,
  (
    queued_by shapes content V rest small,
    are_queued shapes content V rest new under.city small within,
    quiet_turn shapes content old new asks V small id e agenda rest within under turn queued are,
  ),
)

pub agenda_is_queued : {X S A B F P : Type 0} → AgendaIsQueued X S A B F P
agenda_is_queued shapes content rules V n agenda bound city = (queued_by shapes content V agenda n, are_queued shapes content V agenda rules city n bound)
