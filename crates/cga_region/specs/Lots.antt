-- Lots of a town in two districts: what is told of each is what its district tells.
use Rattle.std.specs.Prelude.{◌≡◌, ℕ, List, [], ◌∷◌, ◌⊎◌}
use Rattle.cga_order.specs.World.{Among}
use Rattle.cga_shape.specs.declared.lot.Lot.{Lot}
use Rattle.cga_shape.specs.declared.sources.Sources.{Sources}
use Rattle.cga_derivation.specs.Derivation.{IsDerived}
use Rattle.cga_expand.specs.Children.{Member}
use Rattle.cga_expand.specs.Derivation.{derivation_of, NamesDiffer}
use Rattle.cga_region.specs.Towns.{with_lots, AreLots, NoneAsks, MeetsNone}
use Rattle.cga_city.specs.Reports.{drawn_in, faults_in}

-- of this lot both lists tell the same, in the same order
abbrev pub TellAlike : List ℕ → List Member → List Member → Type 0
TellAlike lot list other =
    (drawn_in (lot ∷ []) list ≡ drawn_in (lot ∷ []) other) × (faults_in (lot ∷ []) list ≡ faults_in (lot ∷ []) other)

-- of each of these lots
abbrev pub TellAlikeOf : List Lot → List Member → List Member → Type 0
TellAlikeOf lots list other = (lot : Lot) → Among lot lots → TellAlike lot.name list other

-- what the town derives to tells of the lots of each part what the part does
abbrev pub LotsAreTheirDistricts : Type 0
LotsAreTheirDistricts =
    (sources : Sources) → NamesDiffer sources.lots
    → (left right : List Lot) → AreLots sources left right
    → (xs ys : List Member) → IsDerived (derivation_of (with_lots sources left)) xs
    → IsDerived (derivation_of (with_lots sources right)) ys
    → NoneAsks sources.grammar ⊎ (MeetsNone sources.grammar xs ys × MeetsNone sources.grammar ys xs)
    → (list : List Member) × IsDerived (derivation_of sources) list × TellAlikeOf left list xs × TellAlikeOf right list ys
