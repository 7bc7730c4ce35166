use Rattle.std.proofs.Common.{◌∙◌, ap}
use Rattle.cga_fraction.specs.Refusals.{checked}
use Rattle.cga_frame.specs.Scope.{world_point, moved_along}
use Rattle.cga_frame.specs.declared.signed.Signed.{Signed}
use Rattle.cga_frame.proofs.Standing.{joined_is}
use Rattle.cga_frame.proofs.scope.placed.Goals as goal

pub returns-clause-value : goal.returns-clause-value
unfolding world_point
returns-clause-value c =
    joined_is (world_point c.args.at.now c.args.frame.now c.args.local.now) _ _ _ _
    (c.moved-x.ensures.value ∙ ap (λ (s : Signed). checked (moved_along s c.args.at.now.x c.args.local.now)) c.along.ensures.value)
    (c.moved-y.ensures.value ∙ ap (λ (s : Signed). checked (moved_along s c.args.at.now.y c.args.local.now)) c.along-2.ensures.value)
    (c.moved-z.ensures.value ∙ ap (λ (s : Signed). checked (moved_along s c.args.at.now.z c.args.local.now)) c.along-3.ensures.value)
    c.joined.ensures
