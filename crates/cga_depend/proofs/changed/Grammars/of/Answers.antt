use Rattle.std.proofs.Common.{sym, subst, ◌∙◌}
use Rattle.cga_check.specs.Latest.{AreKept}
use Rattle.cga_check.proofs.Door.{still_kept}
use Rattle.cga_depend.specs.Both.{BothGrammars}
use Rattle.cga_depend.specs.Changed.{AreFacts}
use Rattle.cga_depend.proofs.changed.Grammars.of.Goals as goal

pub returns-in-Some-clause-facts : goal.returns-in-Some-clause-facts
returns-in-Some-clause-facts c = subst (λ (g : BothGrammars). AreFacts g.before g.after c.args.symbol c.in-Some.facts) c.self.view_is
    (c.self.invariant.kept c.args.symbol c.in-Some.facts (sym c.in-Some.ensures))

pub invariant_of-self : goal.invariant_of-self
invariant_of-self c =
    let old = c.self-2.inside.before.now in
    let new = c.self-2.inside.after.now in
    let same = c.self-2.view_is ∙ c.in_ok-facts.ensures.grammars in
    let are = subst (λ (g : BothGrammars). AreFacts g.before g.after c.args.symbol c.in_ok-facts.facts) (sym same) c.in_ok-facts.ensures.facts in record {
      rules = c.self-2.invariant.rules;
      apart = c.self-2.invariant.apart;
      facts = c.self-2.invariant.facts;
      kept = subst (AreKept (AreFacts old new)) (sym c.note.ensures) (still_kept (AreFacts old new) c.self-2.inside.latest c.args.symbol c.in_ok-facts.facts are c.self-2.invariant.kept);
    }
