use Rattle.std.proofs.Common.{◌≡◌, drop}
use Rattle.cga_city.specs.Lots.{accepted}
use Rattle.cga_city.proofs.lots.accepted_in.Given as goal

abbrev pub invariant-loop-lot : goal.invariant-loop-lot
invariant-loop-lot l = accepted l.grammar (drop l.lot-index l.lots) ≡ accepted l.grammar l.lots
