use Rattle.std.proofs.Common.{◌∙◌, sym, ap}
use Rattle.cga_expand.specs.Choices.{Found, found_of}
use Rattle.cga_expand.proofs.Choices.{tried_in, tried_out, tried_end, chosen_by_id, matches}
use Rattle.cga_expand.proofs.choose.chosen_rule.Goals as goal
use Rattle.cga_expand.proofs.choose.chosen_rule.Goals.{then-eq, else-eq}

pub loop-entry-preserved : goal.loop-entry-preserved
loop-entry-preserved c =
    elim c.if-eq.branch [
      | then-eq w ↦
          tried_in c.args.attributes.now c.args.shape.now c.args.answers.now c.args.shape.now.symbol _ _ _ _ _ c.loop-entry-test.true c.entry-item.is c.loop-entry.invariant _ (sym c.eq.ensures ∙ w.if-eq.true)
          (ap found_of w.choice-is ∙ w.tried-choice.ensures)
      | else-eq w ↦
          tried_out c.args.attributes.now c.args.shape.now c.args.answers.now c.args.shape.now.symbol _ _ _ _ _ c.loop-entry-test.true c.entry-item.is c.loop-entry.invariant _ (sym c.eq.ensures ∙ w.if-eq.false)
          (ap found_of w.choice-is)
    ]

pub returns : goal.returns
returns c =
    matches c.loop-entry.choice.rule _
    (ap (λ (f : Found). f.rule) (tried_end c.args.attributes.now c.args.shape.now c.args.answers.now c.args.shape.now.symbol _ _ _ _ c.loop-entry-test.false c.loop-entry.invariant)
    ∙ chosen_by_id c.args.attributes.now c.args.shape.now c.args.answers.now _)
