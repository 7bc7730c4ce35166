use Rattle.std.proofs.Common.{◌≡◌, drop}
use Rattle.cga_city.specs.Lots.{rooted}
use Rattle.cga_city.proofs.lots.rooted_in.Given as goal

abbrev pub invariant-loop-lot : goal.invariant-loop-lot
invariant-loop-lot l = rooted l.grammar (drop l.lot-index l.lots) ≡ rooted l.grammar l.lots
