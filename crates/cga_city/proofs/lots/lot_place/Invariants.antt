use Rattle.std.proofs.Common.{◌≡◌, ◌+◌, drop, length}
use Rattle.std.specs.List.{position_from}
use Rattle.cga_check.specs.Uses.{same_name}
use Rattle.cga_shape.specs.Runs.{joined}
use Rattle.cga_shape.specs.declared.lot.Lot.{Lot}
use Rattle.cga_city.specs.Lots.{lot_place}
use Rattle.cga_city.proofs.lots.lot_place.Given as goal

abbrev pub invariant-loop-run : goal.invariant-loop-run
invariant-loop-run l = record {
  within : l.before + length (joined (drop l.run-index l.run-items)) ≡ length l.lots;
  place : position_from (λ (lot : Lot). same_name lot.name l.name) l.before (joined (drop l.run-index l.run-items)) ≡ lot_place l.name l.lots;
}
