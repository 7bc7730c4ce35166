use Rattle.std.proofs.Common.{arith}
use Rattle.std.proofs.lemmas.Grind.{common_steps}
use Rattle.cga_obj.proofs.Decimals.{no_digit, one_digit_more, one_place_less}
use Rattle.cga_obj.proofs.piece.Piece.put_places.Goals as goal

pub loop-place-init : goal.loop-place-init
loop-place-init c = record {
  value = no_digit c.args.number c.args.self.now;
  room = omega arith;
  left = omega arith;
}

pub loop-place-preserved : goal.loop-place-preserved
loop-place-preserved c = record {
  value = one_digit_more c.loop-place._place c.args.number c.loop-place.left c.args.self.now _ _ c.loop-place.invariant.left c.loop-place.invariant.value c.put.ensures;
  room = grind (arith, common_steps);
  left = one_place_less c.loop-place._place c.args.number c.loop-place.left c.loop-place.invariant.left;
}
