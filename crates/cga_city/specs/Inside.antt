-- What holds of the sources of each city.
use Rattle.std.specs.Prelude.{◌≤◌, length, All, IsTrue, IsFalse, bytes_eq}
use Rattle.std.specs.List.{IsDistinct}
use Rattle.cga_check.specs.Faults.{IsValid}
use Rattle.cga_shape.specs.declared.lot.Lot.{Lot}
use Rattle.cga_shape.specs.declared.sources.Sources.{Sources}
use Rattle.cga_city.specs.declared.limits.TheConstants.{MOST_LOTS}
use Rattle.cga_city.specs.Grammars.{is_plain, IsRising}
use Rattle.cga_city.specs.Lots.{names_of, is_bad}

-- the grammar has no fault, and its rules rise by id; lots differ and aren't too many, none is bad, and their symbols have rules
pub record AreSound (s : Sources) : Type 0 where
  pub grammar : IsValid s.grammar
  pub rising : IsRising s.grammar.rules
  pub few : length s.lots ≤ MOST_LOTS
  pub names : IsDistinct bytes_eq (names_of s.lots)
  pub good : All (λ (lot : Lot). IsFalse (is_bad lot)) s.lots
  pub plain : All (λ (lot : Lot). IsTrue (is_plain s.grammar lot.symbol)) s.lots
