-- Jobs of a town: each derives the lots that it answers for with lots round them.
use Rattle.std.specs.Prelude.{◌≡◌, ◌↔◌, ℕ, List, ◌++◌, map, true, false, ◌⊎◌, length}
use Rattle.cga_word.specs.declared.target.Target.{Target}
use Rattle.cga_word.specs.declared.primitive.Primitive.{Primitive}
use Rattle.cga_frame.specs.Box.{box_of, meets}
use Rattle.cga_order.specs.declared.placed.Kind.{Kind}
use Rattle.cga_order.specs.World.{Has, Among, is_instance}
use Rattle.cga_order.specs.Consistent.{SameMembers}
use Rattle.cga_rule.specs.declared.grammar.Grammar.{Grammar}
use Rattle.cga_shape.specs.declared.lot.Lot.{Lot}
use Rattle.cga_shape.specs.declared.shape.Shape.{Shape}
use Rattle.cga_shape.specs.declared.shape_fault.ShapeFault.{ShapeFault}
use Rattle.cga_shape.specs.declared.sources.Sources.{Sources}
use Rattle.cga_derivation.specs.Derivation.{IsDerived}
use Rattle.cga_expand.specs.Asked.{asks_for}
use Rattle.cga_expand.specs.Children.{Member}
use Rattle.cga_expand.specs.Derivation.{derivation_of, roots_of, NamesDiffer}
use Rattle.cga_region.specs.Halos.{Job, all_own}
use Rattle.cga_region.specs.Towns.{with_lots}
use Rattle.cga_region.specs.TownParts.{ArePartsOf}

abbrev pub LotJob : Type 0
LotJob = Job Lot Shape ShapeFault Primitive

abbrev pub lots_of : LotJob → List Lot
lots_of job = job.own ++ job.ring

-- a job of lots, over the roots of its lots
abbrev pub rooted : LotJob → Job Shape Shape ShapeFault Primitive
rooted job = record { own = roots_of job.own; ring = roots_of job.ring; members = job.members }

-- the members of the lots that the jobs answer for
abbrev pub own_members : Sources → List LotJob → List Member
own_members sources jobs = all_own (derivation_of sources) (map rooted jobs)

-- the jobs answer for the lots of the town, each for a part, and each derives its part with other lots of the town
pub record AreJobsOf (sources : Sources) (jobs : List LotJob) : Type 0 where
  pub parts : ArePartsOf sources (map (λ job. job.own) jobs)
  pub rings : (job : LotJob) (x : Lot) → Among job jobs → Among x job.ring → Among x sources.lots
  pub differ : (job : LotJob) → Among job jobs → NamesDiffer (lots_of job)
  pub derived : (job : LotJob) → Among job jobs
      → IsDerived (derivation_of (with_lots sources (lots_of job))) job.members

-- of this lot both lists have the same members
abbrev pub HaveAlike : List ℕ → List Member → List Member → Type 0
HaveAlike lot xs ys = (n : Shape) (k : Kind ShapeFault Primitive) → n.lot ≡ lot → Has xs n k ↔ Has ys n k

-- the box of no shape of this lot that asks meets one of the other lot in the other list
abbrev pub LotMeetsNone : Grammar → List ℕ → List ℕ → List Member → List Member → Type 0
LotMeetsNone grammar lot other xs ys =
    (n m : Shape) (k j : Kind ShapeFault Primitive) (target : Target) → Has xs n k → n.lot ≡ lot
    → is_instance k ≡ false → asks_for grammar n.symbol target ≡ true → Has ys m j → m.lot ≡ other
    → meets (box_of m.scope) (box_of n.scope) ≡ false

-- both jobs derived of the second lot the same, or it meets no shape of the first, as neither job derived it
abbrev pub IsSettled : Grammar → LotJob → LotJob → Lot → Lot → Type 0
IsSettled grammar job other x y =
    HaveAlike y.name job.members other.members
    ⊎ (LotMeetsNone grammar x.name y.name job.members job.members
    × LotMeetsNone grammar x.name y.name job.members other.members)

-- so for each lot of a job and each lot of a job
abbrev pub AreSettled : Grammar → List LotJob → Type 0
AreSettled grammar jobs =
    (job other : LotJob) (x y : Lot) → Among job jobs → Among other jobs → Among x job.own → Among y other.own
    → IsSettled grammar job other x y

-- the list has of each lot what the job that answers for it derived
abbrev pub HasTheirs : List LotJob → List Member → Type 0
HasTheirs jobs list =
    (job : LotJob) (x : Lot) → Among job jobs → Among x job.own → HaveAlike x.name list job.members

-- then what the jobs answer for are together the members of what the town derives to
abbrev pub JobsAreTheTown : Type 0
JobsAreTheTown =
    (sources : Sources) → NamesDiffer sources.lots → (jobs : List LotJob) → AreJobsOf sources jobs
    → AreSettled sources.grammar jobs
    → (list : List Member) × IsDerived (derivation_of sources) list × SameMembers (own_members sources jobs) list
    × (length list ≡ length (own_members sources jobs)) × HasTheirs jobs list
