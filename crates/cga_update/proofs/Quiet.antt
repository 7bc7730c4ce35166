-- A turn that changes nothing but the agenda is a turn of the work of the theory.
use Rattle.std.proofs.Common.{◌≡◌, ◌≢◌, ◌+◌, ℕ, [], length, refl, sym, ap, ◌∙◌, subst, Bool, false}
use Rattle.std.proofs.lemmas.List.{append-nil}
use Rattle.cga_order.specs.Total.{stamp_total}
use Rattle.cga_rework.proofs.Door.{lists_are_changes, quiet_turns}
use Rattle.cga_order.specs.Chain.{Chain}
use Rattle.cga_order.specs.World.{is_instance}
use Rattle.cga_agenda.specs.declared.turned.Turned.{Turned}
use Rattle.cga_agenda.specs.Loop.{Turns, calls_of, children_of}
use Rattle.cga_agenda.specs.Work.{IsTurnOf}
use Rattle.cga_rework.specs.Agenda.{AreQueued, IsTaken}
use Rattle.cga_rework.specs.City.{IsUnderway}
use Rattle.cga_rework.specs.Ranked.{Ranked}
use Rattle.cga_rework.specs.Turn.{IsQuietTurn}
use Rattle.cga_shape.specs.declared.shape.Shape.{Shape}
use Rattle.cga_shape.specs.declared.sources.Sources.{Sources}
use Rattle.cga_expand.specs.Settings.{Setting}
use Rattle.cga_forest.specs.Node.{chain_kept}
use Rattle.cga_forest.specs.View.{Seen}
use Rattle.cga_forest.specs.Tree.{node_at}
use Rattle.cga_update.specs.declared.work.Work.{Work}
use Rattle.cga_queue.specs.Agenda.{AgendaView, IsLeast}
use Rattle.cga_queue.specs.Remembered.{IsRemembered, RememberedView}
use Rattle.cga_update.specs.Due.{AsksStill, HasCome}
use Rattle.cga_update.specs.Edit.{asks_by, content, kept_nodes, ranked, rules_of, shapes_of, the_edit}
use Rattle.cga_update.specs.Means.{Means}
use Rattle.cga_update.specs.Queue.{chains_of, on_of}
use Rattle.cga_update.specs.Turned.{IsQuiet}
use Rattle.cga_update.proofs.Edits.{by_symbol, is_rules_edit}
use Rattle.cga_update.proofs.Idle.{TheEdit, TheState}
use Rattle.cga_update.proofs.Moves.{remembered_rest, stay_due, taken_at}
use Rattle.cga_update.proofs.Nodes.{kept_bound}

module _ (was now : Work) (rest : AgendaView) (id : ℕ) (x : Chain) (edit : TheEdit) (s : TheState)
    (means : Means was edit s) (least : IsLeast (chains_of was.forest) was.agenda rest id x)
    (less : RememberedView) (forgot : (c : ℕ) → IsRemembered less c → (c ≢ id) × IsRemembered was.remembered c) where
  abbrev passed : Work
  passed = record was { agenda = rest; remembered = less }

  abbrev new : Sources
  new = was.renewal.new.now

  module _ (turned : Turned) (turn : IsQuiet passed now id turned) where
    abbrev e : Seen
    e = turn.node

    taken : (is_instance e.node.kind ≡ false)
        × IsTaken (shapes_of new) content (node_at was.forest) id e (on_of was.forest was.agenda)
        (on_of was.forest rest)
    taken = taken_at was.forest new was.agenda rest id x e means.agenda_mode least turn.here

    quiet : IsQuietTurn (shapes_of new) content (rules_of was.renewal.old.now) (rules_of new) (asks_by new.grammar)
        (node_at was.forest) (length was.forest.slots) id e (on_of was.forest was.agenda) (on_of was.forest rest)
    quiet = record {
      taken = taken.1;
      inner = taken.0;
      done = turn.done;
      same = turn.same;
      priced = λ b y there up inner. means.priced turn.priced b y there inner;
      self_asks = turn.asks;
    }

    result : IsUnderway (shapes_of new) content (rules_of new) (asks_by new.grammar) (node_at was.forest)
        (on_of was.forest rest)
        × ((requeued : Ranked Shape → Bool)
        × AreQueued (shapes_of new) content (node_at was.forest) (on_of was.forest rest) requeued
        × IsTurnOf (the_edit was.renewal.old.now new) (kept_nodes was.forest) (kept_nodes was.forest) (ranked e.node) s.queued
        requeued false)
    result = quiet_turns (shapes_of new) content (rules_of was.renewal.old.now) (rules_of new)
        (is_rules_edit was.renewal.old.now new was.renewal.old_names was.renewal.names) (by_symbol new)
        (asks_by new.grammar) (node_at was.forest) (length was.forest.slots) id e (on_of was.forest was.agenda)
        (on_of was.forest rest) (kept_bound was.forest) means.underway quiet s.queued means.queued

    abbrev after : TheState
    after = record { nodes = kept_nodes was.forest; queued = result.1.0; gone = s.gone; come = s.come }

    -- ---- a turn with no call, in which nothing went or came

    no_children : turned.children
        ≡ children_of (the_edit was.renewal.old.now new) (kept_nodes was.forest) (ranked e.node) false
    no_children = ap (λ (t : Turned). t.children) turn.told

    no_calls : (calls since : ℕ) → since ≡ calls + calls_of turned.expanded → since ≡ calls + calls_of false
    no_calls calls since ticks = ticks ∙ ap (λ (t : Turned). calls + calls_of t.expanded) turn.told

    turns : (calls since : ℕ) → since ≡ calls + calls_of turned.expanded
        → Turns edit s after calls since turned.children
    turns calls since ticks =
        let first : Turns (the_edit was.renewal.old.now new) (record { nodes = kept_nodes was.forest; queued = s.queued; gone = s.gone; come = s.come }) after calls since turned.children = (
          ranked e.node,
          false,
          result.1.2,
          (
            [],
            [],
            (lists_are_changes {B = Setting}).quiet content (node_at was.forest)
                (length was.forest.slots),
            sym (append-nil s.gone),
            sym (append-nil s.come),
          ),
          no_children,
          no_calls calls since ticks,
        ) in
        let here : Turns (the_edit was.renewal.old.now new) s after calls since
        turned.children = subst (λ (st : TheState). Turns (the_edit was.renewal.old.now new) st after calls
        since turned.children) (λ i. record { nodes = sym means.nodes i; queued = s.queued; gone = s.gone; come = s.come }) first in
        subst (λ (ed : TheEdit). Turns ed s after calls since turned.children) (sym means.edit_is) here

    -- ---- what it means then

    still_means : Means passed edit after
    still_means = record {
      edit_is = means.edit_is;
      mode = means.mode;
      agenda_mode = least.mode ∙ means.agenda_mode;
      nodes = refl;
      underway = result.0;
      queued = result.1.1;
      due = λ b c y d there on here created solid less. stay_due (HasCome was.forest) was.forest new was.agenda rest id x e least turn.here means.due c d
          (record { here = here; one = created; solid = solid; less = (stamp_total new.mode).trans (chain_kept e.node) (chain_kept y.node) (chain_kept d.node) (taken.1.left b y there on).2 less });
      remembered = remembered_rest (chains_of was.forest) was.remembered less was.agenda rest id x least means.remembered forgot;
      all_queued = λ is b c y d there on here asks solid less. stay_due (AsksStill was.forest) was.forest new was.agenda rest id x e least turn.here (means.all_queued is) c d
          (record { here = here; one = asks; solid = solid; less = (stamp_total new.mode).trans (chain_kept e.node) (chain_kept y.node) (chain_kept d.node) (taken.1.left b y there on).2 less });
      priced = means.priced;
      last = means.last;
      clear = means.clear;
      silent = means.silent;
      plain = means.plain;
      gone = means.gone;
      come = means.come;
      symbols = means.symbols;
      rules = means.rules;
      grammars = means.grammars;
      marked = means.marked;
      logged = means.logged;
    }

    pub quiet_means : (calls since : ℕ) → since ≡ calls + calls_of turned.expanded
        → (last : TheState) × Means now edit last × Turns edit s last calls since turned.children
    quiet_means calls since ticks = (after, subst (λ (w : Work). Means w edit after) (sym turn.stays) still_means, turns calls since ticks)
