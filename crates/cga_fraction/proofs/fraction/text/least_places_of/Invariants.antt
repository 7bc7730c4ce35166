use Rattle.std.proofs.Common.{◌≡◌, ◌≤◌, ◌-◌}
use Rattle.cga_fraction.specs.Texts.{places_from}
use Rattle.cga_fraction.proofs.fraction.text.least_places_of.Given as goal

abbrev pub invariant-loop-places : goal.invariant-loop-places
invariant-loop-places l = record {
  few : l.places ≤ 17;
  least : places_from (17 - l.places) l.places l.d ≡ places_from 17 0 l.fn.d;
}

abbrev pub decreases-loop-places : goal.decreases-loop-places
decreases-loop-places l = 17 - l.places
