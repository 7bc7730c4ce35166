use Rattle.std.proofs.Common.{◌≡◌, drop}
use Rattle.cga_fraction.specs.Results.{onto}
use Rattle.cga_asset.specs.Fit.{all_fitted}
use Rattle.cga_asset.proofs.fitting.fit_points.Given as goal

abbrev pub invariant-loop-point : goal.invariant-loop-point
invariant-loop-point l = onto l.fitted (all_fitted l.spans l.scope (drop l.point-index l.points)) ≡ all_fitted l.spans l.scope l.points
