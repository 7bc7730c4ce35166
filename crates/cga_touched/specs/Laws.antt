-- What is proved of the number of touched shapes.
use Rattle.std.specs.Prelude.{◌≡◌, ℕ, List, Some}
use Rattle.cga_agenda.specs.Work.{AreSoMany}
use Rattle.cga_shape.specs.declared.sources.Sources.{Sources}
use Rattle.cga_derivation.specs.Derivation.{derive}
use Rattle.cga_expand.specs.Children.{Member}
use Rattle.cga_expand.specs.Derivation.{derivation_of, NamesDiffer}
use Rattle.cga_expand.specs.Touched.{Touched}
use Rattle.cga_touched.specs.Count.{touched_count}

-- where both derivations are within the budget, that many shapes are touched as it counts, and no other number is right
abbrev pub TouchedIsCounted : Type 0
TouchedIsCounted =
    (budget : ℕ) (old new : Sources) (before after : List Member) → NamesDiffer old.lots → NamesDiffer new.lots
    → derive (derivation_of old) budget ≡ Some before → derive (derivation_of new) budget ≡ Some after
    → AreSoMany (Touched old new before after) (touched_count budget old new before after)
    × ((n : ℕ) → AreSoMany (Touched old new before after) n → n ≡ touched_count budget old new before after)
