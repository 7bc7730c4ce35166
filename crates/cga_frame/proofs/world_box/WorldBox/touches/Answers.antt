use Rattle.std.proofs.Common.{sym, ◌∙◌}
use Rattle.cga_frame.proofs.Boxes.{touches_points, points_touch}
use Rattle.cga_frame.proofs.world_box.WorldBox.touches.Goals as goal

pub returns-clause-points : goal.returns-clause-points
returns-clause-points c = (
  λ h. touches_points c.args.self.now c.args.other.now c.bounds_touch.ensures.first c.bounds_touch.ensures.second (sym c.bounds_touch.ensures.value ∙ h),
  λ m. c.bounds_touch.ensures.value ∙ points_touch c.args.self.now c.args.other.now m,
)
