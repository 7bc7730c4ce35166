use Rattle.std.proofs.Common.{◌≡◌, take}
use Rattle.cga_asset.specs.Fit.{least, greatest}
use Rattle.cga_asset.proofs.span.spanned.Given as goal

abbrev pub invariant-loop-point : goal.invariant-loop-point
invariant-loop-point l = record {
  low : l.low ≡ least l.axis l.fn.first (take l.point-index l.rest);
  high : l.high ≡ greatest l.axis l.fn.first (take l.point-index l.rest);
}
