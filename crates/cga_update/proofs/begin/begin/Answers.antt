use Rattle.std.proofs.Common.{◌∙◌, refl, sym, subst, List, ℕ, Some}
use Rattle.cga_fraction.proofs.Door.{None-not-Some}
use Rattle.cga_rule.specs.declared.grammar.Grammar.{Grammar}
use Rattle.cga_forest.specs.declared.node_change.NodeChange.{NodeChange}
use Rattle.cga_forest.specs.NodeChange.{ListsOnlyIn}
use Rattle.cga_forest.specs.Tree.{marked_at, node_at}
use Rattle.cga_depend.specs.declared.log.Pairing.{Pairing}
use Rattle.cga_depend.specs.Pairs.{nodes_in}
use Rattle.cga_queue.specs.Remembered.{IsRemembered, RememberedView}
use Rattle.cga_update.specs.Begun.{HasMoved, IsFirst}
use Rattle.cga_depend.specs.Both.{BothGrammars}
use Rattle.cga_update.specs.Last.{AskersAreUpTo, IsTold}
use Rattle.cga_update.specs.Log.{IsLogged}
use Rattle.cga_update.specs.Near.{IsAny, IsChangedFor, IsPricedFor, KeepsPriorities}
use Rattle.cga_update.specs.Roots.{HasLost}
use Rattle.cga_update.proofs.Adding.{none_created}
use Rattle.cga_update.proofs.Beginning as proof
use Rattle.cga_update.proofs.RootsGo as roots_go
use Rattle.cga_update.proofs.DueNodes.{one_each}
use Rattle.cga_update.proofs.Lasting.{first_up_to}
use Rattle.cga_update.proofs.Logged.{drawn_from, log_from}
use Rattle.cga_update.proofs.Nearby.{moved_kept}
use Rattle.cga_update.proofs.Rooting.{IsRooted, still, wanted_after}
use Rattle.cga_update.proofs.Unkept.{all_created, first_due, is_zero, none_asks}
use Rattle.cga_update.proofs.begin.begin.Goals as goal

pub remove_roots-requires : goal.remove_roots-requires
remove_roots-requires g c = record {
  symbols = c.requires.fresh.symbols;
  wanted = roots_go.old_wanted c.args.work.now.renewal.old.now c.args.work.now.renewal.new.now c.args.work.now.forest c.args.dependents.now c.requires.stands;
}

pub add_roots-requires : goal.add_roots-requires
add_roots-requires g c = record {
  symbols = c.remove_roots.ensures.symbols ∙ c.requires.fresh.symbols;
  there = roots_go.there_still c.args.work.now.renewal.changed c.args.work.now.renewal.old.now c.args.work.now.renewal.new.now c.args.work.now.forest c.remove_roots.new.forest c.args.dependents.now
      c.requires.stands c.args.work.now.renewal.roots c.args.work.now.renewal.told c.in_ok-remove_roots.ensures.loses;
}

pub queue_rooted-requires : goal.queue_rooted-requires
queue_rooted-requires g c = record {
  one = one_each c.add_roots.new.forest c.laws-2.ensures;
  nobody = λ is. c.in_ok-clear.ensures.nobody (sym c.is_some.ensures ∙ is);
}

pub queue_changed-requires : goal.queue_changed-requires
queue_changed-requires g c = record { one = one_each c.add_roots.new.forest c.laws-2.ensures }

pub returns-clause-begun : goal.returns-clause-begun
returns-clause-begun g c =
    let old = c.args.work.now.renewal.old.now in
    let new = c.args.work.now.renewal.new.now in
    let first = c.args.work.now.forest in
    let d = c.args.dependents.now in
    let stands = c.requires.stands in
    let before = c.remove_roots.new.forest in
    let v = c.add_roots.new.forest in
    let a = c.queue_changed.new.agenda in
    let removed = c.remove_roots.new.removed.items in
    let created = c.add_roots.new.created.items in
    let first_laws = c.laws.ensures in
    let laws = c.laws-2.ensures in
    let lost : HasLost (node_at first) before removed = c.in_ok-remove_roots.ensures.lost (node_at first) (roots_go.nothing_lost old new first d c.new-removed.result.items c.new-removed.ensures.items stands first_laws) in
    let gains = c.in_ok-add_roots.ensures.gains in
    let loses = c.in_ok-remove_roots.ensures.loses in
    let r = roots_go.now_rerooted old new first before v d removed stands first_laws lost loses gains in
    let keeps = still new (node_at first) first before v removed (λ k. refl) (roots_go.parent_there first first_laws) lost loses gains in
    let listed = roots_go.created_since (node_at first) before v removed created lost keeps (c.in_ok-add_roots.ensures.created (node_at before) (λ k x at. at)
    (subst (λ (list : List NodeChange). ListsOnlyIn (node_at before) (node_at before) list) (sym c.new-created.ensures.items) (none_created (node_at before)))) in
    let wanted = wanted_after new before v c.in_ok-remove_roots.ensures.wanted gains in
    let there = c.in_ok-add_roots.ensures.there in
    let moved : HasMoved v removed created a =
    moved_kept v IsAny c.queue_rooted.new.agenda a c.in_ok-priced.ensures.grows removed created
    (subst (λ (list : List NodeChange). HasMoved v list created c.queue_rooted.new.agenda) c.as_slice-removed_nodes.ensures.value
    (subst (λ (list : List NodeChange). HasMoved v c.as_slice-removed_nodes.result.now list c.queue_rooted.new.agenda) c.as_slice-created_nodes.ensures.value c.in_ok-queue_rooted.ensures.moved)) in
    let grammars = c.requires.fresh.grammars in
    let known = c.add_roots.ensures.symbols ∙ (c.remove_roots.ensures.symbols ∙ c.requires.fresh.symbols) in
    let agenda : IsFirst old new v d removed created a = record {
      moved = moved;
      changed = subst (λ (g : BothGrammars). (symbol : List ℕ) → IsChangedFor v g.before g.after (nodes_in d symbol) symbol a) grammars c.in_ok-priced.ensures.there;
      priced = subst (λ (g : BothGrammars). (symbol : List ℕ) → IsPricedFor v g.before g.after (nodes_in d symbol) symbol a) grammars c.in_ok-priced.ensures.parents;
    } in
    let start : IsRooted old new first v d removed created a = record {
      old_names = c.args.work.now.renewal.old_names;
      names = c.args.work.now.renewal.names;
      stands = stands;
      roots = r;
      listed = listed;
      wanted = wanted;
      there = there;
      first_laws = first_laws;
      laws = laws;
      agenda = agenda;
    } in
    let begins = proof.begins start in
    let lost_list = proof.lost start in (
      proof.first_state start,
      record {
        edit_is = refl;
        mode = c.in_ok-add_roots.ensures.mode ∙ (c.in_ok-remove_roots.ensures.mode ∙ stands.mode);
        agenda_mode = c.in_ok-priced.ensures.grows.mode ∙ c.in_ok-queue_rooted.ensures.mode ∙ c.requires.fresh.mode;
        nodes = refl;
        underway = begins.0;
        queued = begins.1.1;
        due = first_due start new.mode;
        remembered = λ k is. None-not-Some (Some k) (subst (λ (ns : RememberedView). IsRemembered ns k) c.requires.fresh.remembered is);
        all_queued = λ is. none_asks v new.mode _ (λ k x there. r.marked k ∙ all_created (node_at first) before v keeps (is_zero c.count.result _ c.count.ensures is) k x there);
        priced = λ is. proof.priced_now start (subst (λ (g : BothGrammars). KeepsPriorities g.before g.after d) grammars (c.in_ok-priced.ensures.priced is));
        last = subst (λ mode. AskersAreUpTo mode c.in_ok-last.last new.grammar v) (c.in_ok-priced.ensures.grows.mode ∙ c.in_ok-queue_rooted.ensures.mode ∙ c.requires.fresh.mode)
            (first_up_to start a.mode c.in_ok-last.last (subst (λ (g : Grammar). IsTold a.mode v d old.grammar g c.in_ok-last.last) known c.in_ok-last.ensures.told));
        clear = c.in_ok-clear.ensures.clear;
        silent = proof.silent_now start;
        plain = proof.plain_now start;
        gone = drawn_from c.note_removed.new.gone.items c.args.work.now.gone.items c.as_slice-removed_nodes.result.now removed c.in_ok-note_removed.ensures.gone c.requires.fresh.gone c.as_slice-removed_nodes.ensures.value ∙ sym lost_list.2;
        come = drawn_from c.note_created.new.come.items c.args.work.now.come.items c.as_slice-created_nodes.result.now created c.in_ok-note_created.ensures.come c.requires.fresh.come c.as_slice-created_nodes.ensures.value
            ∙ proof.created_drawn start;
        symbols = c.last_asker.ensures.symbols ∙ known;
        rules = c.requires.fresh.rules;
        grammars = c.queue_changed.ensures.grammars ∙ grammars;
        marked = r.marking;
        logged = subst (λ (log : List Pairing). IsLogged (marked_at v) (node_at v) log)
            (sym (log_from c.note_created.new.log.items c.note_removed.new.log.items c.args.work.now.log.items c.as_slice-removed_nodes.result.now c.as_slice-created_nodes.result.now removed created
            c.in_ok-note_created.ensures.log c.in_ok-note_removed.ensures.log c.requires.fresh.log c.as_slice-removed_nodes.ensures.value c.as_slice-created_nodes.ensures.value))
            (proof.logged start);
      },
      proof.is_ready start,
    )

pub returns-clause-mark : goal.returns-clause-mark
returns-clause-mark g c =
    let first = c.args.work.now.forest in
    let lost : HasLost (node_at first) c.remove_roots.new.forest c.remove_roots.new.removed.items =
    c.in_ok-remove_roots.ensures.lost (node_at first) (roots_go.nothing_lost c.args.work.now.renewal.old.now c.args.work.now.renewal.new.now first c.args.dependents.now c.new-removed.result.items c.new-removed.ensures.items c.requires.stands c.laws.ensures) in
    λ k. c.in_ok-add_roots.ensures.gains.marked lost.marking k ∙ lost.marked k
