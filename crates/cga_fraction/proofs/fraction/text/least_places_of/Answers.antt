use Rattle.std.proofs.Common.{◌∙◌, sym, ap, arith, ◌%◌, ◌-◌, ℕ}
use Rattle.cga_fraction.proofs.Places.{goes_on, stops, ends}
use Rattle.cga_fraction.proofs.fraction.text.least_places_of.Goals as goal

pub loop-places-preserved : goal.loop-places-preserved
loop-places-preserved c = record {
  few = omega arith;
  least = goes_on 17 c.loop-places.places c.args.d _ (ap (λ (n : ℕ). n % c.args.d) c.power_of_ten.ensures.value) c.if-power_of_ten-d-ne0.true (omega arith) ∙ c.loop-places.invariant.least;
}

pub returns-else-power_of_ten-d-ne0-clause-value : goal.returns-else-power_of_ten-d-ne0-clause-value
returns-else-power_of_ten-d-ne0-clause-value c =
    sym (stops (17 - c.loop-places.places) c.loop-places.places c.args.d _ (ap (λ (n : ℕ). n % c.args.d) c.power_of_ten.ensures.value) c.if-power_of_ten-d-ne0.false (omega arith)) ∙ c.loop-places.invariant.least

pub returns-after-loop-places-clause-value : goal.returns-after-loop-places-clause-value
returns-after-loop-places-clause-value c =
    sym (ends (17 - c.loop-places.places) c.loop-places.places c.args.d (omega arith)) ∙ c.loop-places.invariant.least
