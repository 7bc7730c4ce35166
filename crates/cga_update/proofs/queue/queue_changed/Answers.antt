use Rattle.std.proofs.Common.{◌≡◌, ◌∙◌, true, refl, arith, sym, subst, List, ℕ}
use Rattle.cga_depend.specs.Pairs.{nodes_in}
use Rattle.cga_order.specs.World.{Among}
use Rattle.cga_queue.specs.Agenda.{HasAll}
use Rattle.cga_queue.proofs.Door.{all_kept, grows_not, grows_on}
use Rattle.cga_depend.specs.Both.{BothGrammars}
use Rattle.cga_depend.specs.Changed.{IsNoted}
use Rattle.cga_update.specs.Near.{IsAny, IsPricedFor, KeepsPriority}
use Rattle.cga_update.specs.Queue.{chains_of}
use Rattle.cga_update.proofs.InLoops.{item_at}
use Rattle.cga_update.proofs.Changing.{names_more, names_end, priced_kept, all_changed, all_keep, all_priced}
use Rattle.cga_update.proofs.queue.queue_changed.Goals as goal
use Rattle.cga_update.proofs.queue.queue_changed.Goals.{then-priced, else-priced}

pub loop-symbol-init : goal.loop-symbol-init
loop-symbol-init c = record {
  grammars = c.changed.ensures.grammars;
  grows = grows_not (chains_of c.args.forest.now) IsAny c.args.agenda.now;
  there = λ i s le. absurd (omega (arith, le));
  parents = λ i s le. absurd (omega (arith, le));
  prices = λ i s le. absurd (omega (arith, le));
}

pub loop-symbol-preserved : goal.loop-symbol-preserved
loop-symbol-preserved c =
    let v = c.args.forest.now in
    let D = chains_of v in
    let d = c.args.dependents.now in
    let names = c.as_slice-symbol-items.result.now in
    let before = c.loop-symbol.agenda in
    let after = c.queue_symbol.new.agenda in
    let one = c.in_ok-kept.ensures in
    let same = c.loop-symbol.invariant.grammars in
    let both : c.if-priced.priced ≡ true → (c.loop-symbol.priced ≡ true) × (c.in_ok-kept.kept ≡ true) = λ is. elim c.if-priced.branch [
      | then-priced w ↦ (w.if-priced.true, sym w.priced-is ∙ is)
      | else-priced w ↦ absurd (cc)
    ] in
    let item = item_at names names refl c.loop-symbol.symbol-index c.symbol-item.result c.loop-symbol-test.true c.symbol-item.is in record {
      grammars = c.queue_symbol.ensures.grammars ∙ same;
      grows = grows_on D IsAny c.args.agenda.now before after c.loop-symbol.invariant.grows one.grows;
      there = names_more (λ s. HasAll D (λ k. Among k (nodes_in d s)) before) (λ s. HasAll D (λ k. Among k (nodes_in d s)) after) names c.loop-symbol.symbol-index c.symbol-item.result item
          (λ s. all_kept D (λ k. Among k (nodes_in d s)) IsAny before after one.grows)
          (subst (λ xs. HasAll D (λ k. Among k xs) after) c.nodes_of-nodes.ensures.nodes one.there) c.loop-symbol.invariant.there;
      parents = names_more (λ s. IsPricedFor v c.args.grammars.now.before c.args.grammars.now.after (nodes_in d s) s before) (λ s. IsPricedFor v c.args.grammars.now.before c.args.grammars.now.after (nodes_in d s) s after) names c.loop-symbol.symbol-index c.symbol-item.result item
          (λ s. priced_kept v c.args.grammars.now.before c.args.grammars.now.after (nodes_in d s) s before after one.grows)
          (subst (λ xs. IsPricedFor v c.args.grammars.now.before c.args.grammars.now.after xs c.symbol-item.result after) c.nodes_of-nodes.ensures.nodes (subst (λ (g : BothGrammars). IsPricedFor v g.before g.after c.nodes_of-nodes.result.now c.symbol-item.result after) same one.parents)) c.loop-symbol.invariant.parents;
      prices = names_more (λ s. c.loop-symbol.priced ≡ true → KeepsPriority c.args.grammars.now.before c.args.grammars.now.after (nodes_in d s) s) (λ s. c.if-priced.priced ≡ true → KeepsPriority c.args.grammars.now.before c.args.grammars.now.after (nodes_in d s) s) names c.loop-symbol.symbol-index c.symbol-item.result item
          (λ s before_is is. before_is (both is).0)
          (λ is. subst (λ xs. KeepsPriority c.args.grammars.now.before c.args.grammars.now.after xs c.symbol-item.result) c.nodes_of-nodes.ensures.nodes (subst (λ (g : BothGrammars). KeepsPriority g.before g.after c.nodes_of-nodes.result.now c.symbol-item.result) same (one.priced (both is).1))) c.loop-symbol.invariant.prices;
    }

pub returns-clause-there : goal.returns-clause-there
returns-clause-there c = λ s. all_changed c.args.forest.now c.args.grammars.now.before c.args.grammars.now.after c.args.dependents.now c.as_slice-symbol-items.result.now c.loop-symbol.agenda
    (names_end (λ t. HasAll (chains_of c.args.forest.now) (λ k. Among k (nodes_in c.args.dependents.now t)) c.loop-symbol.agenda) c.as_slice-symbol-items.result.now c.as_slice-symbol-items.result.now c.loop-symbol.symbol-index refl c.loop-symbol-test.false c.loop-symbol.invariant.there) s (subst (λ (xs : List (List ℕ)). IsNoted c.args.grammars.now.before c.args.grammars.now.after xs s) (sym c.as_slice-symbol-items.ensures.value) (c.in_ok-changed.ensures.listed s))

pub returns-clause-parents : goal.returns-clause-parents
returns-clause-parents c = λ s. all_priced c.args.forest.now c.args.grammars.now.before c.args.grammars.now.after c.args.dependents.now c.as_slice-symbol-items.result.now c.loop-symbol.agenda
    (names_end (λ t. IsPricedFor c.args.forest.now c.args.grammars.now.before c.args.grammars.now.after (nodes_in c.args.dependents.now t) t c.loop-symbol.agenda) c.as_slice-symbol-items.result.now c.as_slice-symbol-items.result.now c.loop-symbol.symbol-index refl c.loop-symbol-test.false c.loop-symbol.invariant.parents) s (subst (λ (xs : List (List ℕ)). IsNoted c.args.grammars.now.before c.args.grammars.now.after xs s) (sym c.as_slice-symbol-items.ensures.value) (c.in_ok-changed.ensures.listed s))

pub returns-clause-priced : goal.returns-clause-priced
returns-clause-priced c = λ is s. all_keep c.args.grammars.now.before c.args.grammars.now.after c.args.dependents.now c.as_slice-symbol-items.result.now
    (λ t among. names_end (λ t. c.loop-symbol.priced ≡ true → KeepsPriority c.args.grammars.now.before c.args.grammars.now.after (nodes_in c.args.dependents.now t) t) c.as_slice-symbol-items.result.now c.as_slice-symbol-items.result.now c.loop-symbol.symbol-index refl c.loop-symbol-test.false c.loop-symbol.invariant.prices t among is)
    s (subst (λ (xs : List (List ℕ)). IsNoted c.args.grammars.now.before c.args.grammars.now.after xs s) (sym c.as_slice-symbol-items.ensures.value) (c.in_ok-changed.ensures.listed s))
