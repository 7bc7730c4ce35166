-- A region that is kept: its parts are some lots, each perhaps with neighbours, and they agree on what they see.
use Rattle.std.specs.Prelude.{List, map, ◌⊎◌}
use Rattle.cga_order.specs.World.{Among}
use Rattle.cga_shape.specs.declared.lot.Lot.{Lot}
use Rattle.cga_shape.specs.declared.sources.Sources.{Sources}
use Rattle.cga_expand.specs.Derivation.{NamesDiffer}
use Rattle.cga_region.specs.TownJobs.{AreJobsOf, LotJob, lots_of}
use Rattle.cga_region.specs.TownParts.{joined}
use Rattle.cga_region.specs.Told.{AllAgree, IsToldOf, Told}
use Rattle.cga_region.specs.Towns.{NoneAsks}

-- the lots that parts answer for, and those with their neighbours
abbrev pub own_of : List LotJob → List Lot
own_of parts = joined (map (λ (part : LotJob). part.own) parts)

abbrev pub all_of : List LotJob → List Lot
all_of parts = joined (map lots_of parts)

-- no rule asks, or each two lots agree, by what is told of the parts
abbrev pub Agree : Sources → List LotJob → Type 0
Agree sources parts =
    NoneAsks sources.grammar
    ⊎ ((tell : LotJob → Told) × ((part : LotJob) → Among part parts → IsToldOf sources part (tell part)) × AllAgree parts tell)

-- the parts answer for the lots of the sources, and agree
pub record IsKept (sources : Sources) (parts : List LotJob) : Type 0 where
  pub names : NamesDiffer sources.lots
  pub are : AreJobsOf sources parts
  pub agree : Agree sources parts
