-- What a city keeps beside its sources.
use Rattle.std.specs.Prelude.{◌≡◌, ℕ, List, Bool, true, Some}
use Rattle.cga_shape.specs.declared.sources.Sources.{Sources}
use Rattle.cga_expand.specs.Children.{Member}
use Rattle.cga_update.specs.declared.kept.Kept.{Kept}
use Rattle.cga_update.specs.Stands.{Stands}
use Rattle.cga_city.specs.Derived.{derived}
use Rattle.cga_city.specs.Inside.{AreSound}

-- the sources are sound and within the budget, and while the city is warm what is kept stands for them
pub record IsCity (s : Sources) (budget : ℕ) (warm : Bool) (kept : Kept) : Type 0 where
  pub sound : AreSound s
  pub within : (list : List Member) × (derived budget s ≡ Some list)
  pub stands : warm ≡ true → Stands s kept
