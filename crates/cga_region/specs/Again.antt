-- Which pairs of lots have to be compared again behind an edit.
use Rattle.std.specs.Prelude.{◌≡◌, ◌↔◌, ℕ, List, map, ◌⊎◌}
use Rattle.cga_order.specs.World.{Among}
use Rattle.cga_region.specs.TownJobs.{LotJob, lots_of}
use Rattle.cga_region.specs.Told.{AgreeOn, AllAgree, HaveSameSteps, Told}
use Rattle.cga_shape.specs.declared.lot.Lot.{Lot}

-- of this lot both tell the same box and the same steps
pub record IsToldAlike (lot : List ℕ) (told other : Told) : Type 0 where
  pub box : told.hull lot ≡ other.hull lot
  pub steps : HaveSameSteps lot told.steps other.steps

-- a part before an edit and behind it; one that comes or goes has no lots there
pub record Part : Type 0 where
  pub was : LotJob
  pub now : LotJob

module _ (before behind : LotJob → Told) where
  -- lots of these names were own ones of the same parts before. Nothing is told otherwise: neither the first lot's box, nor that
  -- of the second. The first part derives the second lot where it did before, and then tells the same of it, by the same steps
  pub record IsAsBefore (part other : Part) (x y : Lot) : Type 0 where
    pub first : Lot
    pub second : Lot
    pub own : Among first part.was.own
    pub other_own : Among second other.was.own
    pub first_name : first.name ≡ x.name
    pub second_name : second.name ≡ y.name
    pub box : (before part.was).hull x.name ≡ (behind part.now).hull x.name
    pub other_box : (before other.was).hull y.name ≡ (behind other.now).hull y.name
    pub derived : Among second (lots_of part.was) ↔ Among y (lots_of part.now)
    pub seen : Among y (lots_of part.now)
        → IsToldAlike y.name (before part.was) (behind part.now)
        × HaveSameSteps y.name (before other.was).steps (behind other.now).steps

  -- each two own lots are as before, or are compared again
  abbrev pub AreCompared : List Part → Type 0
  AreCompared parts =
      (part other : Part) (x y : Lot) → Among part parts → Among other parts → Among x part.now.own → Among y other.now.own
      → IsAsBefore part other x y ⊎ AgreeOn part.now (behind part.now) (behind other.now) x y

abbrev pub parts_were : List Part → List LotJob
parts_were parts = map (λ (part : Part). part.was) parts

abbrev pub parts_are : List Part → List LotJob
parts_are parts = map (λ (part : Part). part.now) parts

-- where all agreed before, those that are as before agree still
abbrev pub RestAgrees : Type 0
RestAgrees =
    (before behind : LotJob → Told) (parts : List Part) → AllAgree (parts_were parts) before
    → AreCompared before behind parts → AllAgree (parts_are parts) behind
