-- A turn in code is a turn of the work of the theory.
use Rattle.std.proofs.Common.{◌≡◌, ◌≢◌, ℕ, List, ◌++◌, ◌+◌, length, map, refl, sym, ap, ◌∙◌, subst, ◌⊎◌, inl, inr, Option, Some, None, Bool, true, false, not, Bor}
use Rattle.std.specs.Prelude.{◌&&◌, IsSome, if◌then◌else◌}
use Rattle.cga_word.specs.declared.primitive.Primitive.{Primitive}
use Rattle.std.specs.declared.cmp.Ordering.TheVariants.{Less}
use Rattle.cga_fraction.proofs.Door.{None-not-Some as none_some, cases_Option as option_cases, eq_or_ne as nat_cases, map-append as map_both}
use Rattle.cga_order.proofs.Door.{stamp-child}
use Rattle.cga_rework.proofs.Door.{lists_are_changes, node_turns}
use Rattle.cga_order.specs.Chain.{Chain}
use Rattle.cga_order.specs.Stamp.{stamp_cmp}
use Rattle.cga_order.specs.World.{is_instance}
use Rattle.cga_order.specs.Agenda.{asked}
use Rattle.cga_agenda.specs.declared.turned.Turned.{Turned}
use Rattle.cga_agenda.specs.Edit.{new_world}
use Rattle.cga_agenda.specs.Loop.{Turns, calls_of, children_of}
use Rattle.cga_agenda.specs.Record.{Drawn, IsChange}
use Rattle.cga_agenda.specs.Work.{IsTurnOf}
use Rattle.cga_shape.specs.declared.shape.Shape.{Shape}
use Rattle.cga_shape.specs.declared.sources.Sources.{Sources}
use Rattle.cga_tree.specs.Replaced.{IsReplaced}
use Rattle.cga_forest.specs.Node.{chain_kept, fits, with_state}
use Rattle.cga_forest.specs.Placing.{children_after, emitted, state_after}
use Rattle.cga_forest.specs.View.{Seen}
use Rattle.cga_forest.specs.Tree.{ForestView, IsForest, Replaces, marked_at, node_at}
use Rattle.cga_forest.specs.declared.node.Node.{Node}
use Rattle.cga_rework.specs.Agenda.{AreQueued, IsTaken}
use Rattle.cga_rework.specs.City.{IsUnderway}
use Rattle.cga_rework.specs.Ranked.{Ranked}
use Rattle.cga_rework.specs.Turn.{IsFit, IsNodeTurn}
use Rattle.cga_rework.specs.Changes.{ListsLost}
use Rattle.cga_rework.specs.Turn as theory
use Rattle.cga_update.specs.declared.work.Work.{Work}
use Rattle.cga_queue.specs.Agenda.{AgendaView, IsLeast}
use Rattle.cga_queue.specs.Remembered.{AreOn, IsRemembered, RememberedView}
use Rattle.cga_depend.specs.Both.{both}
use Rattle.cga_update.specs.Clear.{IsClear}
use Rattle.cga_update.specs.Due.{AskersAreDue, AsksStill, ComersAreDue, HasCome}
use Rattle.cga_update.specs.Edit.{asks_by, content, kept_nodes, meets_box, ranked, rules_of, shapes_of, the_edit}
use Rattle.cga_check.specs.Uses.{same_name}
use Rattle.cga_rule.specs.declared.grammar.Grammar.{Grammar}
use Rattle.cga_expand.specs.Expand.{expand_of}
use Rattle.cga_update.specs.Follow.{IsFollowed}
use Rattle.cga_update.specs.Last.{AskersAreUpTo}
use Rattle.cga_depend.specs.Log.{noted_all}
use Rattle.cga_update.specs.Log.{IsLogged, StayAlike, created_of, drawn_of, is_of, removed_of}
use Rattle.cga_update.specs.Means.{ArePriced, Means, told_ranked}
use Rattle.cga_update.specs.Queue.{chains_of, on_of}
use Rattle.cga_update.specs.Turned.{IsPlacing}
use Rattle.cga_update.proofs.DueNodes.{may_be_on}
use Rattle.cga_update.proofs.Children.{are_news, is_fit, is_outcome, keeps_self}
use Rattle.cga_update.proofs.Facts.{said_asks}
use Rattle.cga_update.proofs.Edits.{by_symbol, is_rules_edit}
use Rattle.cga_update.proofs.Clearing.{turn_clear}
use Rattle.cga_update.proofs.Idle.{TheEdit, TheState}
use Rattle.cga_update.proofs.Lasting.{turn_up_to}
use Rattle.cga_update.proofs.Moved.{comer_on, is_moved, later_in, later_on, stays_on, still_due}
use Rattle.cga_update.proofs.Moves.{remembered_rest, some_one, stay_due, taken_at}
use Rattle.cga_update.proofs.Nodes.{kept_bound}
use Rattle.cga_update.proofs.Drawing.{lists_lost}
use Rattle.cga_update.proofs.Logged.{logged_more}
use Rattle.cga_update.proofs.Meeting.{sees_what_meets}
use Rattle.cga_update.proofs.Places.{same_node}
use Rattle.cga_update.proofs.Renewing.{are_again, expansion_count, still_plain, still_priced, still_silent}

-- one turn: was and now are the work before and after it
module _ (was now : Work) (rest : AgendaView) (id : ℕ) (x : Chain) (turned : Turned) (edit : TheEdit)
    (s : TheState) (means : Means was edit s) (before : IsForest was.forest)
    (least : IsLeast (chains_of was.forest) was.agenda rest id x) (less : RememberedView) (forgot : (c : ℕ)
    → IsRemembered less c → (c ≢ id) × IsRemembered was.remembered c) (turn : IsPlacing (record was { agenda = rest; remembered = less }) now id turned) where
  abbrev new : Sources
  new = was.renewal.new.now

  abbrev V : ℕ → Option Seen
  V = node_at was.forest

  abbrev T : ℕ → Option Seen
  T = node_at now.forest

  abbrev e : Seen
  e = turn.node

  abbrev g : Grammar
  g = was.renewal.new.now.grammar

  abbrev news : List Node
  news = children_after g e.node turn.outcome

  taken : (is_instance e.node.kind ≡ false)
      × IsTaken (shapes_of new) content V id e (on_of was.forest was.agenda) (on_of was.forest rest)
  taken = taken_at was.forest new was.agenda rest id x e means.agenda_mode least turn.here

  inner : is_instance e.node.kind ≡ false
  inner = taken.0

  replaces : Replaces V T id (state_after g e.node turn.answers turn.outcome) news
  replaces = subst (λ h. Replaces V T id (state_after h e.node turn.answers turn.outcome) (children_after h e.node turn.outcome)) means.symbols (turn.placed.1.replaced e turn.here)

  abbrev gone : ℕ → Bool
  gone = replaces.2

  abbrev after_e : Seen
  after_e = record e { node = with_state (state_after g e.node turn.answers turn.outcome) e.node; children = replaces.1 }

  replaced : IsReplaced fits V T id news e after_e gone
  replaced = subst (λ (d : Seen). IsReplaced fits V T id news d
      (record d {
        node = with_state (state_after g e.node turn.answers turn.outcome) d.node;
        children = replaces.1;
      }) gone) (some_one (V id) replaces.0 e replaces.3.was turn.here) replaces.3

  still : is_instance after_e.node.kind ≡ false
  still = (keeps_self new e.node turn.answers turn.outcome inner).is

  -- what is remembered still when its children are replaced is on the agenda
  are_on : AreOn (chains_of now.forest) turn.placed.1.less rest
  are_on c is =
      let left = turn.placed.1.forgot c is in
      let on = remembered_rest (chains_of was.forest) was.remembered less was.agenda rest id x least means.remembered forgot c left.0 in
      stays_on was.forest now.forest new id news e after_e gone replaced inner still refl rest turn.placed.0.removed turn.placed.1.removed c left.1 on

  marks_stay : (c : ℕ) → marked_at now.forest c ≡ marked_at was.forest c
  marks_stay = turn.placed.1.bounds.mark.1 means.marked

  clear_now : IsClear now.forest now.clear
  clear_now = turn_clear was.forest now.forest id gone replaced.rest marks_stay turn.placed.1.unmarked was.clear now.clear turn.placed.1.clear means.clear

  followed : IsFollowed now.forest id turn.placed.0 turn.placed.1.nobody rest now.agenda
  followed = turn.placed.1.followed are_on clear_now

  abbrev IsAfter : Seen → Type 0
  IsAfter d = stamp_cmp new.mode (chain_kept e.node) (chain_kept d.node) ≡ Less

  comers : (c : ℕ) (d : Seen) → V c ≡ Some d → marked_at now.forest c ≡ None → is_instance d.node.kind ≡ false
      → IsAfter d → on_of was.forest rest c ≡ true
  comers c d here created solid less = stay_due (HasCome was.forest) was.forest new was.agenda rest id x e least turn.here means.due c d
      (record { here = here; one = sym (marks_stay c) ∙ created; solid = solid; less = less })

  was_marked : (c : ℕ) → IsSome (marked_at now.forest c) → IsSome (marked_at was.forest c)
  was_marked c marked = subst IsSome (marks_stay c) marked

  askers : was.all_queued ≡ true → (c : ℕ) (d : Seen) → V c ≡ Some d → AsksStill now.forest c d
      → is_instance d.node.kind ≡ false → IsAfter d → on_of was.forest rest c ≡ true
  askers is c d here asks solid less = stay_due (AsksStill was.forest) was.forest new was.agenda rest id x e least turn.here (means.all_queued is) c d
      (record { here = here; one = (was_marked c asks.0, asks.1); solid = solid; less = less })

  up_to : AskersAreUpTo new.mode was.last g now.forest
  up_to = turn_up_to was.forest now.forest g id e after_e turn.here replaced.is gone replaced.rest inner refl
      (λ is. sym (said_asks g e.node.shape) ∙ is) refl marks_stay turn.placed.1.unmarked new.mode was.last means.last

  left : turn.placed.1.nobody ≡ true → (c : ℕ) (d : Seen) → V c ≡ Some d → IsSome (marked_at now.forest c)
      → is_instance d.node.kind ≡ false → d.node.asks ≡ true → IsAfter d → on_of was.forest rest c ≡ true
  left is c d here marked solid asks less = elim (turn.placed.1.nobody_left is) [
    | inl all ↦ askers all c d here (marked, asks) solid less
    | inr past ↦ absurd (past e turn.here (chain_kept d.node) (means.last c d here (was_marked c marked) solid (inl asks)) less)
  ]

  -- what came is a child of the node, and so comes later
  born_later : (c : ℕ) (d : Seen) → V c ≡ None → T c ≡ Some d → IsAfter d
  born_later c d none here = elim (replaced.created c none) [
    | inl gone ↦ none_some d (sym gone ∙ here)
    | inr at ↦
        let w = turn.placed.1.forest.present.tree.down id at.0 c after_e replaced.is at.1 in
        let is_w : w.0 ≡ d = some_one (T c) w.0 d w.1 here in
        let up : d.parent ≡ Some id = ap (λ (q : Seen). q.parent) (sym is_w) ∙ w.2 in
        let b = turn.placed.1.forest.present.places.child c id d after_e here up replaced.is in
        stamp-child new.mode (chain_kept after_e.node) d.index (chain_kept d.node)
        (turn.placed.1.forest.present.places.chain id after_e replaced.is) (record { lot = b.lot; path = b.path; priorities = (d.node.priority, b.line) })
  ]

  symbols : (c b : ℕ) (d y : Seen) → V c ≡ Some d → d.parent ≡ Some b → V b ≡ Some y → is_instance d.node.kind ≡ true
      → d.node.shape.symbol ≡ y.node.shape.symbol
  symbols c b d y t u k solid = (means.underway.city.child c b d y t u k).symbol solid

  told : ((turned.expanded ≡ true)
      × theory.IsExpanded (shapes_of new) content (rules_of was.renewal.old.now) (rules_of new) V
      (length was.forest.slots) e.node after_e.node news)
      ⊎ ((turned.expanded ≡ false)
      × theory.IsRepriced (shapes_of new) content (rules_of was.renewal.old.now) (rules_of new) V (length was.forest.slots) e
      after_e.node news)
  told = elim turn.told [
    | inl h ↦ inl (
      h.0,
      record {
        must = elim h.1.must [ inl w ↦ inl w | inr f ↦ inr (λ y. f (y.0, y.1 ∙ sym turn.asked)) ];
        answered = turn.asked;
        outcome = is_outcome new e.node turn.answers turn.answers turn.outcome h.1.value;
      },
    )
    | inr h ↦ inr (
      h.0,
      record {
        done = h.1.done;
        same = (h.1.same.0, h.1.same.1 ∙ turn.asked);
        kind = h.1.again.0;
        answers = sym h.1.same.1;
        again = are_again was.forest before g id e turn.here turn.outcome h.1.again symbols means.plain;
      },
    )
  ]

  node_turn : IsNodeTurn (shapes_of new) content (rules_of was.renewal.old.now) (rules_of new) fits (asks_by g)
      meets_box V T (length was.forest.slots) id news e after_e gone (on_of was.forest was.agenda) (on_of was.forest rest)
      (on_of now.forest now.agenda) turned.expanded
  node_turn = record {
    taken = taken.1;
    replaced = replaced;
    tree = turn.placed.1.forest.present.tree;
    self = keeps_self new e.node turn.answers turn.outcome inner;
    self_asks = said_asks g e.node.shape;
    are = are_news new e.node turn.outcome inner;
    outcome = told;
    moved = is_moved was.forest now.forest new id news e after_e gone replaced inner still refl rest now.agenda
        (least.mode ∙ means.agenda_mode) turn.placed.0 turn.placed.1.removed turn.placed.1.created turn.placed.1.nobody followed comers left;
  }

  abbrev Result : Type 0
  Result =
      IsUnderway (shapes_of new) content (rules_of new) (asks_by g) T (on_of now.forest now.agenda)
      × ((requeued : Ranked Shape → Bool) × AreQueued (shapes_of new) content T (on_of now.forest now.agenda) requeued
      × IsTurnOf (the_edit was.renewal.old.now new) (kept_nodes was.forest) (kept_nodes now.forest) (ranked e.node) s.queued requeued turned.expanded)

  result : Result
  result = node_turns (shapes_of new) content (rules_of was.renewal.old.now) (rules_of new)
      (is_rules_edit was.renewal.old.now new was.renewal.old_names was.renewal.names) (by_symbol new) fits
      (asks_by g) meets_box is_fit (sees_what_meets new) V T (length was.forest.slots) (length now.forest.slots) id
      news e after_e gone (on_of was.forest was.agenda) (on_of was.forest rest) (on_of now.forest now.agenda)
      turned.expanded (kept_bound was.forest) (kept_bound now.forest) means.underway node_turn s.queued means.queued

  -- ---- the record

  one_node : (v : ForestView) → IsForest v → (c b : ℕ) (d y : Seen) → node_at v c ≡ Some d → node_at v b ≡ Some y
      → d.node.shape ≡ y.node.shape → c ≡ b
  one_node v f c b d y t u same = (same_node v f c b d y t u (ap (λ (q : Shape). q.lot) same, ap (λ (q : Shape). q.path) same)).0

  removed : (list : List (Drawn (Ranked Shape) Primitive)) × ListsLost content V T list
      × (map told_ranked list ≡ drawn_of turn.placed.0.removed)
  removed = lists_lost V T (one_node was.forest before) turn.placed.0.removed turn.placed.1.removed

  created : (list : List (Drawn (Ranked Shape) Primitive)) × ListsLost content T V list
      × (map told_ranked list ≡ drawn_of turn.placed.0.created)
  created = lists_lost T V (one_node now.forest turn.placed.1.forest) turn.placed.0.created turn.placed.1.created

  change : IsChange (kept_nodes was.forest) (kept_nodes now.forest) removed.0 created.0
  change = lists_are_changes.turn (shapes_of new) content (rules_of was.renewal.old.now) (rules_of new)
      (is_rules_edit was.renewal.old.now new was.renewal.old_names was.renewal.names) (by_symbol new) fits
      (asks_by g) meets_box is_fit V T (length was.forest.slots) (length now.forest.slots) id news e after_e gone
      (on_of was.forest was.agenda) (on_of was.forest rest) (on_of now.forest now.agenda) turned.expanded
      (kept_bound was.forest) (kept_bound now.forest) means.underway node_turn removed.0 created.0 removed.1 created.1

  abbrev after : TheState
  after = record { nodes = kept_nodes now.forest; queued = result.1.0; gone = s.gone ++ removed.0; come = s.come ++ created.0 }

  children_is : turned.children ≡ children_of (the_edit was.renewal.old.now new) (kept_nodes was.forest) (ranked e.node)
      turned.expanded
  children_is = elim turn.told [
    | inl h ↦ h.1.count ∙ ap (λ o. length (emitted o)) (h.1.value ∙ ap (expand_of g e.node.shape) turn.asked)
        ∙ sym (expansion_count was.renewal.old.now new (ranked e.node)
        (asked (new_world (the_edit was.renewal.old.now new)) (kept_nodes was.forest) (ranked e.node)))
        ∙ ap (children_of (the_edit was.renewal.old.now new) (kept_nodes was.forest) (ranked e.node)) (sym h.0)
    | inr h ↦ h.1.count ∙ ap (children_of (the_edit was.renewal.old.now new) (kept_nodes was.forest) (ranked e.node)) (sym h.0)
  ]

  turns : (calls since : ℕ) → since ≡ calls + calls_of turned.expanded → Turns edit s after calls since turned.children
  turns calls since ticks =
      let first : Turns (the_edit was.renewal.old.now new)
      (record { nodes = kept_nodes was.forest; queued = s.queued; gone = s.gone; come = s.come }) after calls
      since turned.children = (ranked e.node, turned.expanded, result.1.2, (removed.0, created.0, change, refl, refl), children_is, ticks) in
      let here : Turns (the_edit was.renewal.old.now new) s after calls since
      turned.children = subst (λ (st : TheState). Turns (the_edit was.renewal.old.now new) st after calls since
      turned.children) (λ i. record { nodes = sym means.nodes i; queued = s.queued; gone = s.gone; come = s.come }) first in
      subst (λ (ed : TheEdit). Turns ed s after calls since turned.children) (sym means.edit_is) here

  -- ---- what it means then

  alike : StayAlike V T
  alike c d y name t u = elim (nat_cases c id) [
    | inl same ↦
        let was_e : d ≡ e = some_one (V id) d e (ap V (sym same) ∙ t) turn.here in
        let is_e : y ≡ after_e = some_one (T id) y after_e (ap T (sym same) ∙ u) replaced.is in
        ap (λ (q : Seen). is_of (Some q) name) is_e ∙ ap (λ b. not b && same_name e.node.shape.symbol name) (still ∙ sym inner) ∙ ap (λ (q : Seen). is_of (Some q) name) (sym was_e)
    | inr other ↦ ap (λ (q : Seen). is_of (Some q) name) (kept_one (gone c) refl (replaced.rest c d other t))
  ]
    where
      kept_one : (b : Bool) → gone c ≡ b → T c ≡ (if gone c then None else Some d) → y ≡ d
      kept_one true q r = let z : None ≡ Some y = sym (r ∙ ap (λ h. if h then None else Some d) q) ∙ u in cc
      kept_one false q r = let z : Some y ≡ Some d = sym u ∙ (r ∙ ap (λ h. if h then None else Some d) q) in cc

  log_is : IsLogged (marked_at was.forest) T
      ((was.log.items ++ removed_of turn.placed.0.removed) ++ created_of turn.placed.0.created)
  log_is = logged_more (marked_at was.forest) V T was.log.items turn.placed.0.removed turn.placed.0.created means.logged turn.placed.1.removed turn.placed.1.created alike

  to_new : (P : Bor Sources → Type 0) → P was.renewal.new → P now.renewal.new
  to_new P h = subst P (sym turn.placed.1.bounds.new) h

  to_old : (P : Bor Sources → Type 0) → P was.renewal.old → P now.renewal.old
  to_old P h = subst P (sym turn.placed.1.bounds.old) h

  due_now : ComersAreDue new.mode now.forest now.agenda
  due_now =
      still_due was.forest now.forest new id news e after_e gone replaced inner still refl rest now.agenda
      (least.mode ∙ means.agenda_mode) turn.placed.0 turn.placed.1.removed turn.placed.1.created
      turn.placed.1.nobody followed comers left (HasCome now.forest)
      (comer_on was.forest now.forest new id news e after_e gone replaced inner still refl rest now.agenda
      (least.mode ∙ means.agenda_mode) turn.placed.0 turn.placed.1.removed turn.placed.1.created turn.placed.1.nobody followed comers left)
      born_later (λ c x there on. (taken.1.left c x there on).2)

  asker_on : now.all_queued ≡ true → (c : ℕ) (d : Seen) → T c ≡ Some d → AsksStill now.forest c d
      → is_instance d.node.kind ≡ false → IsAfter d → on_of now.forest now.agenda c ≡ true
  asker_on is c d here asks solid less = elim (turn.placed.1.all_queued are_on is) [
    | inl all ↦
        later_on was.forest now.forest new id news e after_e gone replaced inner still refl rest now.agenda
        (least.mode ∙ means.agenda_mode) turn.placed.0 turn.placed.1.removed turn.placed.1.created
        turn.placed.1.nobody followed comers left c d here solid less
        (λ there. askers all c d there asks solid less)
    | inr has ↦
        let late = later_in was.forest now.forest new id news e after_e gone replaced inner still refl rest
        now.agenda (least.mode ∙ means.agenda_mode) turn.placed.0 turn.placed.1.removed turn.placed.1.created
        turn.placed.1.nobody followed comers left c d here solid less in
        has c (record { seen = d; there = here; marked = asks.0; asks = asks.1 }, late) (may_be_on now.forest c d here solid)
  ]

  askers_now : now.all_queued ≡ true → AskersAreDue new.mode now.forest now.agenda
  askers_now is =
      still_due was.forest now.forest new id news e after_e gone replaced inner still refl rest now.agenda
      (least.mode ∙ means.agenda_mode) turn.placed.0 turn.placed.1.removed turn.placed.1.created
      turn.placed.1.nobody followed comers left (AsksStill now.forest)
      (asker_on is) born_later (λ c x there on. (taken.1.left c x there on).2)

  means_now : Means now edit after
  means_now = record {
    edit_is = to_new (λ b. edit ≡ the_edit now.renewal.old.now b.now) (to_old (λ b. edit ≡ the_edit b.now new) means.edit_is);
    mode = to_new (λ b. now.forest.mode ≡ b.now.mode) (turn.placed.1.bounds.mode ∙ means.mode);
    agenda_mode = to_new (λ b. now.agenda.mode ≡ b.now.mode) (followed.grows.mode ∙ least.mode ∙ means.agenda_mode);
    nodes = refl;
    underway = to_new (λ b. IsUnderway (shapes_of b.now) content (rules_of b.now) (asks_by b.now.grammar) T (on_of now.forest now.agenda)) result.0;
    queued = to_new (λ b. AreQueued (shapes_of b.now) content T (on_of now.forest now.agenda) result.1.0) result.1.1;
    due = to_new (λ b. ComersAreDue b.now.mode now.forest now.agenda) due_now;
    remembered = turn.placed.1.remembered are_on;
    all_queued = λ is. to_new (λ b. AskersAreDue b.now.mode now.forest now.agenda) (askers_now is);
    priced = λ is. to_new (λ b. ArePriced b.now.grammar now.forest)
        (still_priced was.forest now.forest before g id turn.outcome e after_e gone replaced refl turn.here refl
        refl inner (means.priced (sym turn.placed.1.bounds.priced ∙ is)));
    last = to_new (λ b. AskersAreUpTo b.now.mode now.last b.now.grammar now.forest) (subst (λ l. AskersAreUpTo new.mode l g now.forest) (sym turn.placed.1.bounds.last) up_to);
    clear = clear_now;
    silent = still_silent was.forest now.forest before g id turn.outcome e after_e gone replaced refl means.silent;
    plain = still_plain was.forest now.forest before g id turn.outcome e after_e gone replaced refl means.plain;
    gone = turn.placed.1.gone ∙ (λ i. means.gone i ++ sym removed.2 i) ∙ sym (map_both told_ranked s.gone removed.0);
    come = turn.placed.1.come ∙ (λ i. means.come i ++ sym created.2 i) ∙ sym (map_both told_ranked s.come created.0);
    symbols = to_new (λ b. now.symbols ≡ b.now.grammar) (turn.placed.1.bounds.symbols ∙ means.symbols);
    rules = to_new (λ b. now.rules ≡ b.now.grammar) (turn.placed.1.bounds.rules ∙ means.rules);
    grammars = to_new (λ b. now.grammars ≡ both now.renewal.old.now.grammar b.now.grammar) (to_old (λ b. now.grammars ≡ both b.now.grammar g) (turn.placed.1.bounds.grammars ∙ means.grammars));
    marked = turn.placed.1.bounds.mark.0 ∙ means.marked;
    logged = λ name c. log_is name c ∙ (λ i. noted_all (sym turn.placed.1.log i) name c (is_of (sym (turn.placed.1.bounds.mark.1 means.marked c) i) name));
  }

  pub turn_means : (calls since : ℕ) → since ≡ calls + calls_of turned.expanded
      → (last : TheState) × Means now edit last × Turns edit s last calls since turned.children
  turn_means calls since ticks = (after, means_now, turns calls since ticks)
