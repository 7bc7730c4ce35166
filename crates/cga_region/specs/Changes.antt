-- What the jobs of a region tell of an edit, and how that is what the region's print draws before and behind.
use Rattle.std.specs.Prelude.{◌≡◌, ◌↔◌, ◌+◌, ℕ, List, [], ◌∷◌, ◌++◌, ◌⊎◌, Bool, bytes_eq, count_by, filter, map}
use Rattle.std.specs.List.{list_any}
use Rattle.cga_bill.specs.Bill.{Balances}
use Rattle.cga_city.specs.Lots.{names_of}
use Rattle.cga_city.specs.Reports.{drawn_in}
use Rattle.cga_derivation.specs.Derivation.{IsDerived}
use Rattle.cga_region.specs.TownJobs.{LotJob}
use Rattle.cga_region.specs.TownParts.{joined}
use Rattle.cga_region.specs.Towns.{with_lots}
use Rattle.cga_expand.specs.Children.{Member}
use Rattle.cga_expand.specs.Derivation.{derivation_of, NamesDiffer}
use Rattle.cga_order.specs.World.{Among}
use Rattle.cga_shape.specs.declared.changes.Changes.{Changes}
use Rattle.cga_shape.specs.declared.drawn.Drawn.{Drawn}
use Rattle.cga_shape.specs.declared.lot.Lot.{Lot}
use Rattle.cga_shape.specs.declared.sources.Sources.{Sources}
use Rattle.cga_region.specs.Kept.{all_of, IsKept, own_of}

-- ---- changes

abbrev pub no_changes : Changes
no_changes = record { gone = []; come = [] }

-- both, one behind the other
abbrev pub both : Changes → Changes → Changes
both c k = record { gone = c.gone ++ k.gone; come = c.come ++ k.come }

-- it is one of the names
abbrev pub is_named : List (List ℕ) → List ℕ → Bool
is_named names name = list_any (λ other. bytes_eq other name) names

-- the instances of lots with these names
abbrev pub drawn_for : List (List ℕ) → List Drawn → List Drawn
drawn_for names list = filter (λ (d : Drawn). is_named names d.lot) list

abbrev pub changes_for : List (List ℕ) → Changes → Changes
changes_for names c = record { gone = drawn_for names c.gone; come = drawn_for names c.come }

-- ---- a job

-- a step of a job: the lots of which its changes are told, these changes, and what its program draws behind them
pub record Step : Type 0 where
  pub names : List (List ℕ)
  pub changes : Changes
  pub drawn : List Drawn

-- each instance is told of by both names, or by neither
abbrev pub TellOfSame : List (List ℕ) → List (List ℕ) → List Drawn → Type 0
TellOfSame names others list = (d : Drawn) → Among d list → is_named names d.lot ≡ is_named others d.lot

-- each step's changes balance what is drawn before and behind, and what stands between two steps is told of in both or neither
abbrev pub LeadTo : List (List ℕ) → List Drawn → List Step → List (List ℕ) → List Drawn → Type 0
LeadTo names drawn [] others behind = (drawn ≡ behind) × TellOfSame names others drawn
LeadTo names drawn (step ∷ steps) others behind =
    TellOfSame names step.names drawn
    × Balances drawn step.drawn step.changes
    × LeadTo step.names step.drawn steps others behind

-- what a job tells by its steps
abbrev pub told_by : List Step → Changes
told_by [] = no_changes
told_by (step ∷ steps) = both (changes_for step.names step.changes) (told_by steps)

-- a job before an edit and behind it, by its parts, and its steps; one that comes or goes has no parts there
pub record Course : Type 0 where
  pub was : List LotJob
  pub now : List LotJob
  pub steps : List Step

-- one part with its neighbours, or parts without any
abbrev pub IsOneOrAlone : List LotJob → Type 0
IsOneOrAlone parts = ((part : LotJob) × (parts ≡ part ∷ [])) ⊎ ((part : LotJob) → Among part parts → part.ring ≡ [])

-- what a job's program draws: it has the lots of the parts, in whatever order
pub record Draws (sources : Sources) (parts : List LotJob) (drawn : List Drawn) : Type 0 where
  pub are : IsOneOrAlone parts
  pub lots : List Lot
  pub same : (x : Lot) → Among x lots ↔ Among x (all_of parts)
  pub differ : NamesDiffer lots
  pub members : List Member
  pub derived : IsDerived (derivation_of (with_lots sources lots)) members
  pub all : drawn ≡ drawn_in (names_of lots) members

-- the job's program drew the lots of before, draws those of behind, and came there by the steps
pub record IsLed (old new : Sources) (course : Course) : Type 0 where
  pub before : List Drawn
  pub behind : List Drawn
  pub drew : Draws old course.was before
  pub draws : Draws new course.now behind
  pub led : LeadTo (names_of (own_of course.was)) before course.steps (names_of (own_of course.now)) behind

-- ---- the region

-- what all jobs tell
abbrev pub told_by_all : List Course → Changes
told_by_all [] = no_changes
told_by_all (course ∷ courses) = both (told_by course.steps) (told_by_all courses)

abbrev pub parts_before : List Course → List LotJob
parts_before courses = joined (map (λ (course : Course). course.was) courses)

abbrev pub parts_behind : List Course → List LotJob
parts_behind courses = joined (map (λ (course : Course). course.now) courses)

-- what a print of the sources draws
pub record Prints (sources : Sources) (drawn : List Drawn) : Type 0 where
  pub members : List Member
  pub derived : IsDerived (derivation_of sources) members
  pub all : drawn ≡ drawn_in (names_of sources.lots) members

-- what came and went again may be left out of both
abbrev pub IsNetOf : Changes → Changes → Type 0
IsNetOf told all =
    (test : Drawn → Bool)
    → count_by test told.come + count_by test all.gone ≡ count_by test all.come + count_by test told.gone

-- where the parts of jobs agree before and behind an edit, what the jobs tell of their own lots balances what the region's
-- print draws before and behind
abbrev pub ChangesBalance : Type 0
ChangesBalance =
    (old new : Sources) (courses : List Course)
    → IsKept old (parts_before courses) → IsKept new (parts_behind courses)
    → ((course : Course) → Among course courses → IsLed old new course)
    → (before : List Drawn) × (behind : List Drawn) × Prints old before × Prints new behind
    × ((told : Changes) → IsNetOf told (told_by_all courses) → Balances before behind told)
