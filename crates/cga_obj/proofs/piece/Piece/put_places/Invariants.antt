use Rattle.std.proofs.Common.{◌≡◌, ◌++◌, ◌+◌, ◌/◌, ◌^◌, length}
use Rattle.cga_fraction.specs.Texts.{padded}
use Rattle.cga_obj.proofs.piece.Piece.put_places.Given as goal

abbrev pub invariant-loop-place : goal.invariant-loop-place
invariant-loop-place l = record {
  value : l.self ≡ padded l._place l.number ++ l.fn.self;
  room : length l.self ≡ length l.fn.self + l._place;
  left : l.left ≡ l.number / 10 ^ l._place;
}
