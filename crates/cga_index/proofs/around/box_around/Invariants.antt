use Rattle.cga_index.proofs.Widening.{HoldsFirst}
use Rattle.cga_index.proofs.around.box_around.Given as goal

abbrev pub invariant-loop-area : goal.invariant-loop-area
invariant-loop-area l = HoldsFirst l.areas l.area-index l.hull
