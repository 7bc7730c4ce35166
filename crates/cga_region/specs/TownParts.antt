-- Any number of districts of a town, each with lots of its own.
use Rattle.std.specs.Prelude.{◌≡◌, ◌↔◌, ◌+◌, ℕ, List, [], ◌∷◌, ◌++◌, ◌⊎◌, length}
use Rattle.cga_order.specs.World.{Among}
use Rattle.cga_order.specs.Consistent.{SameMembers}
use Rattle.cga_rule.specs.declared.grammar.Grammar.{Grammar}
use Rattle.cga_shape.specs.declared.lot.Lot.{Lot}
use Rattle.cga_shape.specs.declared.sources.Sources.{Sources}
use Rattle.cga_derivation.specs.Derivation.{IsDerived}
use Rattle.cga_expand.specs.Children.{Member}
use Rattle.cga_expand.specs.Derivation.{derivation_of, NamesDiffer}
use Rattle.cga_region.specs.Towns.{with_lots, NoneAsks, MeetsNone}

-- all of several lists, one after the other
abbrev pub joined : {X : Type 0} → List (List X) → List X
joined [] = []
joined (xs ∷ lists) = xs ++ joined lists

-- how many stand in several lists
abbrev pub total : {X : Type 0} → List (List X) → ℕ
total [] = 0
total (xs ∷ lists) = length xs + total lists

-- the lots stand in these parts, in whatever order, and no name twice
pub record ArePartsOf (sources : Sources) (parts : List (List Lot)) : Type 0 where
  pub same : (x : Lot) → Among x sources.lots ↔ Among x (joined parts)
  pub differ : NamesDiffer (joined parts)

-- each part is derived apart
abbrev pub AreDerived : Sources → List (List Lot) → List (List Member) → Type 0
AreDerived sources [] [] = Unit {0}
AreDerived sources (part ∷ parts) (xs ∷ lists) =
    IsDerived (derivation_of (with_lots sources part)) xs × AreDerived sources parts lists
AreDerived sources parts lists = ⊥

-- the box of no shape that asks in this list meets one of another, nor the other way round
abbrev pub MeetsNoOther : Grammar → List Member → List (List Member) → Type 0
MeetsNoOther grammar xs [] = Unit {0}
MeetsNoOther grammar xs (ys ∷ lists) =
    MeetsNone grammar xs ys × MeetsNone grammar ys xs × MeetsNoOther grammar xs lists

-- so for each two of them
abbrev pub AllMeetNone : Grammar → List (List Member) → Type 0
AllMeetNone grammar [] = Unit {0}
AllMeetNone grammar (xs ∷ lists) = MeetsNoOther grammar xs lists × AllMeetNone grammar lists

-- what the parts derive to are together the members of what the town derives to
abbrev pub PartsAreApart : Type 0
PartsAreApart =
    (sources : Sources) → NamesDiffer sources.lots
    → (parts : List (List Lot)) → ArePartsOf sources parts
    → (lists : List (List Member)) → AreDerived sources parts lists
    → NoneAsks sources.grammar ⊎ AllMeetNone sources.grammar lists
    → (list : List Member) × IsDerived (derivation_of sources) list × SameMembers (joined lists) list
    × (length list ≡ total lists)
