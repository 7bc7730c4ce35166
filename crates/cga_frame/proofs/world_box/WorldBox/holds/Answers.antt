use Rattle.std.proofs.Common.{sym, ◌∙◌}
use Rattle.cga_frame.proofs.Boxes.{holds_points, points_hold}
use Rattle.cga_frame.proofs.world_box.WorldBox.holds.Goals as goal

pub returns-clause-points : goal.returns-clause-points
returns-clause-points c = (
  λ h. holds_points c.args.self.now c.args.other.now (sym c.bounds_hold.ensures.value ∙ h),
  λ m. c.bounds_hold.ensures.value ∙ points_hold c.args.self.now c.args.other.now c.bounds_hold.ensures.second m,
)
