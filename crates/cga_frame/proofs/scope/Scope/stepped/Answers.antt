use Rattle.std.proofs.Common.{◌∙◌, ap}
use Rattle.cga_fraction.specs.Refusals.{checked}
use Rattle.cga_frame.specs.Scope.{step_of, stepped}
use Rattle.cga_frame.specs.declared.signed.Signed.{Signed}
use Rattle.cga_frame.proofs.Standing.{joined_is}
use Rattle.cga_frame.proofs.scope.Scope.stepped.Goals as goal

pub returns : goal.returns
returns c =
    rw (← c.self.view_is)
    (joined_is (step_of (record { at = c.self.inside.at; frame = c.self.inside.frame; size = c.self.inside.size }) c.args.axis c.args.by) _ _ _ _
    (c.stepped-x.ensures ∙ ap (λ (s : Signed). checked (stepped s c.args.axis c.self.inside.at.x c.args.by)) c.along.ensures.value)
    (c.stepped-y.ensures ∙ ap (λ (s : Signed). checked (stepped s c.args.axis c.self.inside.at.y c.args.by)) c.along-2.ensures.value)
    (c.stepped-z.ensures ∙ ap (λ (s : Signed). checked (stepped s c.args.axis c.self.inside.at.z c.args.by)) c.along-3.ensures.value)
    c.joined.ensures)
