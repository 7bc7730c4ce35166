use Rattle.std.proofs.Common.{◌≡◌, drop, false}
use Rattle.cga_asset.specs.Dressed.{dressed_mesh, is_over}
use Rattle.cga_top.specs.Prints.{in_lots}
use Rattle.cga_top.proofs.Sizes.{Left}
use Rattle.cga_top.proofs.models.is_large.Given as goal

abbrev pub invariant-loop-lot : goal.invariant-loop-lot
invariant-loop-lot l = record {
  small : is_over l.size ≡ false;
  left : Left (dressed_mesh l.session.wardrobe) (in_lots l.session.city) l.lots (drop l.lot-index l.lots) l.size;
}
