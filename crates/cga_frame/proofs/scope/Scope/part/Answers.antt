use Rattle.std.proofs.Common.{◌∙◌, ap}
use Rattle.cga_frame.specs.Points.{with_coordinate}
use Rattle.cga_frame.specs.Scope.{Scope}
use Rattle.cga_frame.proofs.Standing.{no_negative, no_part, part_is}
use Rattle.cga_frame.proofs.scope.Scope.part.Goals as goal

pub standing-requires : goal.standing-requires
standing-requires c = rw c.with.ensures (no_negative c.self.inside.size c.args.axis c.args.length c.self.invariant.sizes c.requires)

pub returns-in-Ok-clause-value : goal.returns-in-Ok-clause-value
returns-in-Ok-clause-value c =
    part_is c.args.self.now c.args.axis c.args.from c.args.length c.in-Ok.at _ _ _ (ap (λ (s : Scope). s.frame) c.self.view_is) (c.with.ensures ∙ ap (λ (s : Scope). with_coordinate s.size c.args.axis c.args.length) c.self.view_is) c.in-Ok.ensures c.standing.ensures.value

pub returns-in-Err-clause-value : goal.returns-in-Err-clause-value
returns-in-Err-clause-value c = no_part c.args.self.now c.args.axis c.args.from c.args.length c.in-Err.field-0 c.in-Err.ensures
