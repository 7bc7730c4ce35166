-- A region in any number of parts: what is told of each lot is what its part tells, and counts are sums.
use Rattle.std.specs.Prelude.{◌≡◌, ◌+◌, ℕ, List, [], ◌∷◌, ◌⊎◌, Bool, count_by}
use Rattle.cga_frame.specs.Box.{Box}
use Rattle.cga_shape.specs.declared.drawn.Drawn.{Drawn}
use Rattle.cga_shape.specs.declared.lot.Lot.{Lot}
use Rattle.cga_shape.specs.declared.sources.Sources.{Sources}
use Rattle.cga_derivation.specs.Derivation.{IsDerived}
use Rattle.cga_expand.specs.Children.{Member}
use Rattle.cga_expand.specs.Derivation.{derivation_of, NamesDiffer}
use Rattle.cga_region.specs.Towns.{NoneAsks}
use Rattle.cga_region.specs.TownParts.{ArePartsOf, AreDerived}
use Rattle.cga_region.specs.Hulls.{AllFar, AllHeld}
use Rattle.cga_bill.specs.Parts.{IsSumOfBills}
use Rattle.cga_city.specs.Lots.{names_of}
use Rattle.cga_city.specs.Reports.{drawn_in}
use Rattle.cga_region.specs.Lots.{TellAlikeOf}

-- of the lots of each part the list tells what the part's list tells
abbrev pub AllTellAlike : List (List Lot) → List (List Member) → List Member → Type 0
AllTellAlike [] lists list = Unit {0}
AllTellAlike (part ∷ parts) [] list = ⊥
AllTellAlike (part ∷ parts) (xs ∷ lists) list = TellAlikeOf part list xs × AllTellAlike parts lists list

-- how many members of several lists pass a test
abbrev pub total_by : (Member → Bool) → List (List Member) → ℕ
total_by test [] = 0
total_by test (xs ∷ lists) = count_by test xs + total_by test lists

-- of the list as many members pass each test as of the lists together
abbrev pub AreSums : List (List Member) → List Member → Type 0
AreSums lists list = (test : Member → Bool) → count_by test list ≡ total_by test lists

-- what each part draws for its own lots
abbrev pub drawn_apart : List (List Lot) → List (List Member) → List (List Drawn)
drawn_apart [] lists = []
drawn_apart (part ∷ parts) [] = []
drawn_apart (part ∷ parts) (xs ∷ lists) = drawn_in (names_of part) xs ∷ drawn_apart parts lists

-- the bill of the town is the sum of the bills of its parts
abbrev pub BillsAreSums : Sources → List (List Lot) → List (List Member) → List Member → Type 0
BillsAreSums sources parts lists list = IsSumOfBills (drawn_in (names_of sources.lots) list) (drawn_apart parts lists)

-- told boxes hold the shapes of their lots, and those of different parts don't touch
abbrev pub HullsAreApart : List (List Lot) → List (List Member) → Type 0
HullsAreApart parts lists = (hull : List ℕ → Box) × AllHeld hull lists × AllFar hull parts

-- where no rule asks, or the told boxes of different parts don't touch: each lot's instances and faults are those of
-- its part, and counts and bills are sums
abbrev pub RegionIsItsParts : Type 0
RegionIsItsParts =
    (sources : Sources) → NamesDiffer sources.lots
    → (parts : List (List Lot)) → ArePartsOf sources parts
    → (lists : List (List Member)) → AreDerived sources parts lists
    → NoneAsks sources.grammar ⊎ HullsAreApart parts lists
    → (list : List Member) × IsDerived (derivation_of sources) list × AllTellAlike parts lists list × AreSums lists list
    × BillsAreSums sources parts lists list
