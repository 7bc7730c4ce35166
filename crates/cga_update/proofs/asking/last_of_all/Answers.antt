use Rattle.std.proofs.Common.{◌≡◌, ◌∙◌, true, refl, sym, subst, arith}
use Rattle.cga_order.specs.World.{Among}
use Rattle.cga_rule.specs.declared.grammar.Grammar.{Grammar}
use Rattle.cga_depend.specs.Asking.{asks_in}
use Rattle.cga_update.specs.Queue.{chains_of}
use Rattle.cga_queue.proofs.Door.{first_each, first_next}
use Rattle.cga_update.proofs.Bounding.{EntryUpTo}
use Rattle.cga_update.proofs.asking.last_of_all.Goals as goal

pub loop-place-init : goal.loop-place-init
loop-place-init c = record { before = refl; after = refl; all = λ i e lt. absurd (omega (arith, lt)) }

pub loop-place-preserved : goal.loop-place-preserved
loop-place-preserved c =
    let D = chains_of c.args.nodes.now.forest.now in
    let more = c.last_among-last.ensures in record {
      before = c.asking_nodes.ensures.before ∙ c.loop-place.invariant.before;
      after = c.asking_nodes.ensures.after ∙ c.loop-place.invariant.after;
      all = first_next (EntryUpTo c.args.mode D c.args.before.now c.args.after.now c.loop-place.last)
          (EntryUpTo c.args.mode D c.args.before.now c.args.after.now c.last_among-last.result) c.args.dependents.now.nodes c.loop-place.place
          (λ e up asks k x among is. more.kept x (up asks k x among is))
          (λ e here asks k x among is.
          let asks_here = subst (λ (g : Grammar). asks_in g c.loop-place.after e.0 ≡ true) (sym c.loop-place.invariant.before) (subst (λ (g : Grammar). asks_in c.args.before.now g e.0 ≡ true) (sym c.loop-place.invariant.after) asks) in
          more.all k x (subst (Among k) (sym (c.in_ok-ids.ensures.nodes e here asks_here)) among) is)
          c.loop-place.invariant.all;
    }

pub returns-clause-all : goal.returns-clause-all
returns-clause-all c =
    first_each (EntryUpTo c.args.mode (chains_of c.args.nodes.now.forest.now) c.args.before.now c.args.after.now c.loop-place.last) c.args.dependents.now.nodes c.loop-place.place (omega (arith, c.symbols-place-end.ensures, c.loop-place-test.false)) c.loop-place.invariant.all
