-- A turn where no node is on the agenda.
use Rattle.std.proofs.Common.{ℕ, refl, sym, ◌∙◌, subst, inl, inr}
use Rattle.cga_agenda.specs.Edit.{Edit}
use Rattle.cga_agenda.specs.Loop.{IsIdle, LoopState}
use Rattle.cga_agenda.specs.Work.{NoneQueued}
use Rattle.cga_word.specs.declared.answers.Answers.{Answers}
use Rattle.cga_word.specs.declared.primitive.Primitive.{Primitive}
use Rattle.cga_shape.specs.declared.shape.Shape.{Shape}
use Rattle.cga_shape.specs.declared.shape_fault.ShapeFault.{ShapeFault}
use Rattle.cga_expand.specs.Settings.{Setting}
use Rattle.cga_forest.specs.Tree.{node_at}
use Rattle.cga_rework.specs.Ranked.{Ranked}
use Rattle.cga_rework.proofs.Door.{empty_is_none}
use Rattle.std.proofs.lemmas.Bool.{false_from_ne_true as is_false}
use Rattle.cga_update.specs.declared.work.Work.{Work}
use Rattle.cga_queue.specs.Agenda.{AgendaView, NoneOn, SameOn}
use Rattle.cga_update.specs.Edit.{content, kept_nodes, rules_of, shapes_of, the_edit}
use Rattle.cga_update.specs.Means.{Means}
use Rattle.cga_update.specs.Queue.{chains_of, on_of}
use Rattle.cga_update.proofs.Nodes.{kept_bound}

abbrev pub TheEdit : Type 0
TheEdit = Edit (Ranked Shape) Answers Setting ShapeFault Primitive

abbrev pub TheState : Type 0
TheState = LoopState (Ranked Shape) Answers ShapeFault Primitive

module _ (was : Work) (rest : AgendaView) (edit : TheEdit) (s : TheState) (means : Means was edit s) (same : SameOn (chains_of was.forest) was.agenda rest) where
  abbrev passed : Work
  passed = record was { agenda = rest }

  still_means : Means passed edit s
  still_means = record {
    edit_is = means.edit_is;
    mode = means.mode;
    agenda_mode = same.mode ∙ means.agenda_mode;
    nodes = means.nodes;
    underway = record {
      city = means.underway.city;
      priced = λ c b d y t u k solid. elim (means.underway.priced c b d y t u k solid) [ inl q ↦ inl (same.there b q) | inr r ↦ inr r ];
      asking = λ c d t solid. elim (means.underway.asking c d t solid) [ inl q ↦ inl (same.there c q) | inr r ↦ inr r ];
    };
    queued = λ c d t. (λ q. same.there c ((means.queued c d t).0 q), λ q. (means.queued c d t).1 (same.back c q));
    due = λ b c x d there on here created solid less. same.there c (means.due b c x d there (same.back b on) here created solid less);
    remembered = λ c is. same.there c (means.remembered c is);
    all_queued = λ is b c x d there on here asks solid less. same.there c (means.all_queued is b c x d there (same.back b on) here asks solid less);
    priced = means.priced;
    last = means.last;
    clear = means.clear;
    silent = means.silent;
    plain = means.plain;
    gone = means.gone;
    come = means.come;
    symbols = means.symbols;
    rules = means.rules;
    grammars = means.grammars;
    marked = means.marked;
    logged = means.logged;
  }

  none_queued : NoneOn (chains_of was.forest) was.agenda → NoneQueued edit s.nodes s.queued
  none_queued none =
      let first : NoneQueued (the_edit was.renewal.old.now was.renewal.new.now) (kept_nodes was.forest)
      s.queued = empty_is_none (shapes_of was.renewal.new.now) content (rules_of was.renewal.old.now)
      (rules_of was.renewal.new.now) (node_at was.forest) _ (on_of was.forest was.agenda) s.queued
      (kept_bound was.forest) means.queued (λ c d t. is_false (on_of was.forest was.agenda c) (none c)) in
      subst (λ (ed : TheEdit). NoneQueued ed s.nodes s.queued) (sym means.edit_is) (subst (λ n. NoneQueued (the_edit was.renewal.old.now was.renewal.new.now) n s.queued) (sym means.nodes) first)

  pub turn_idle : NoneOn (chains_of was.forest) was.agenda → (calls : ℕ)
      → (last : TheState) × Means passed edit last × IsIdle edit s last calls calls
  turn_idle none calls = (s, still_means, record { same = refl; none_queued = none_queued none; no_call = refl })
