-- Halos: jobs that derive others along with the roots that they answer for, and answer for their own alone.
use Rattle.std.specs.Prelude.{◌≡◌, ◌≢◌, ℕ, List, [], ◌∷◌, ◌++◌, Bool, true, false, ◌||◌, ◌⊎◌, filter, length, map, nat_eq}
use lib.Pointwise.{pointwise}
use Rattle.cga_order.specs.declared.placed.Placed.{Placed}
use Rattle.cga_order.specs.declared.placed.Kind.{Kind}
use Rattle.cga_order.specs.World.{Has, Among, is_instance}
use Rattle.cga_order.specs.Consistent.{SameMembers}
use Rattle.cga_derivation.specs.Derivation.{Derivation, IsDerivation, IsDerived}
use Rattle.cga_derivation.specs.Stamps.{chain_in}
use Rattle.cga_region.specs.Districts.{district}
use Rattle.cga_region.specs.TownParts.{joined}

-- the roots, or lots, that a job answers for, those round them, and what all of these came to
pub record Job (R N F P : Type 0) : Type 0 where
  pub own : List R
  pub ring : List R
  pub members : List (Placed N F P)

module _ {N A F P : Type 0} (derivation : Derivation N A F P) where
  -- it is the lot of one of these roots
  abbrev pub is_lot_of : List N → List ℕ → Bool
  is_lot_of [] lot = false
  is_lot_of (r ∷ roots) lot = pointwise nat_eq (derivation.lot r) lot || is_lot_of roots lot

  -- the members that a job answers for
  abbrev pub own_of : Job N N F P → List (Placed N F P)
  own_of job = filter (λ m. is_lot_of job.own (derivation.lot m.shape)) job.members

  -- those of each job, one job after the other
  abbrev pub all_own : List (Job N N F P) → List (Placed N F P)
  all_own jobs = joined (map own_of jobs)

  -- no two jobs answer for one lot
  abbrev pub LotsDiffer : List (Job N N F P) → Type 0
  LotsDiffer [] = Unit {0}
  LotsDiffer (job ∷ jobs) =
      ((other : Job N N F P) (n m : N) → Among other jobs → Among n job.own → Among m other.own
      → derivation.lot n ≢ derivation.lot m)
      × LotsDiffer jobs

  -- each root is an own one of a job, and each job derives its own roots with those round them
  pub record AreJobs (jobs : List (Job N N F P)) : Type 0 where
    pub each : (n : N) → Among n derivation.roots → (job : Job N N F P) × Among job jobs × Among n job.own
    pub roots : (job : Job N N F P) (n : N) → Among job jobs → Among n job.own → Among n derivation.roots
    pub lots : LotsDiffer jobs
    pub laws : (job : Job N N F P) → Among job jobs → IsDerivation (district derivation (job.own ++ job.ring))
    pub derived : (job : Job N N F P) → Among job jobs
        → IsDerived (district derivation (job.own ++ job.ring)) job.members

  -- what stands in one of the lists stands in the other, and below ancestors of the same priorities
  abbrev pub StandsAlike : List (Placed N F P) → List (Placed N F P) → N → Kind F P → Type 0
  StandsAlike xs ys n kind =
      Has xs n kind ⊎ Has ys n kind
      → Has xs n kind × Has ys n kind × (chain_in derivation xs n ≡ chain_in derivation ys n)

  -- what an own member of the job compares stands in its list as in those of the jobs that answer for it
  abbrev pub SeesAlike : List (Job N N F P) → Job N N F P → Type 0
  SeesAlike jobs job =
      (n m : N) (k j : Kind F P) → Has (own_of job) n k → is_instance k ≡ false → derivation.sees n m ≡ true
      → StandsAlike job.members (all_own jobs) m j

  -- then the own members of all jobs are together the members of the whole derivation, which ends
  abbrev pub AreTheWhole : Type 0
  AreTheWhole =
      (jobs : List (Job N N F P)) → AreJobs jobs → ((job : Job N N F P) → Among job jobs → SeesAlike jobs job)
      → (list : List (Placed N F P)) × IsDerived derivation list × SameMembers (all_own jobs) list
      × (length list ≡ length (all_own jobs))

abbrev pub OwnMembersAreTheWhole : (N A F P : Type 0) → Type 0
OwnMembersAreTheWhole N A F P = (derivation : Derivation N A F P) → IsDerivation derivation → AreTheWhole derivation
