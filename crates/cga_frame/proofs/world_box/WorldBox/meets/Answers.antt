use Rattle.std.proofs.Common.{sym, ◌∙◌}
use Rattle.cga_frame.proofs.Boxes.{meets_points, points_meet}
use Rattle.cga_frame.proofs.world_box.WorldBox.meets.Goals as goal

pub returns-clause-points : goal.returns-clause-points
returns-clause-points c = (
  λ h. meets_points c.args.self.now c.args.other.now c.bounds_meet.ensures.first c.bounds_meet.ensures.second (sym c.bounds_meet.ensures.value ∙ h),
  λ m. c.bounds_meet.ensures.value ∙ points_meet c.args.self.now c.args.other.now m,
)
