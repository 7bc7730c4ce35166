-- Hulls: the box round all, and the box round those that ask.
use Rattle.std.specs.Prelude.{ℕ, zero, suc, List, Option, Some, None, Bool, true, false, ◌&&◌, slice_get, if◌then◌else◌}
use Rattle.cga_frame.specs.Box.{Box, hull, holds}
use Rattle.cga_kept_hulls.specs.declared.hulls.Hulls.{Hulls}
use Rattle.cga_kept_hulls.specs.declared.kept_hulls.KeptHulls.{KeptHulls}
use Rattle.cga_kept_hulls.specs.declared.kept_hulls.KeptHulls.TheVariants.{Own, Other}

-- those of one box, which asks or not
abbrev pub hulls_alone : Box → Bool → Hulls
hulls_alone b asks = record { all = b; asking = if asks then Some b else None }

-- the hulls of a box, by what is kept of them
abbrev pub hulls_from : Box → KeptHulls → Hulls
hulls_from b (Own asks) = hulls_alone b asks
hulls_from b (Other h) = h

abbrev pub joined : Option Box → Option Box → Option Box
joined None b = b
joined (Some a) None = Some a
joined (Some a) (Some b) = Some (hull a b)

abbrev pub with_hulls : Hulls → Option Hulls → Hulls
with_hulls h None = h
with_hulls h (Some k) = record { all = hull h.all k.all; asking = joined h.asking k.asking }

abbrev pub at_hulls : (ℕ → Option Hulls) → Option ℕ → Option Hulls
at_hulls H None = None
at_hulls H (Some k) = H k

-- the hulls with those of the first so many children
unfoldable pub over : (ℕ → Option Hulls) → Hulls → List ℕ → ℕ → Hulls
over H own kids zero = own
over H own kids (suc i) = with_hulls (over H own kids i) (at_hulls H (slice_get kids i))

-- ---- what holds what

-- those that ask lie within, and where there are some there are some in the first too
abbrev pub opt_within : Option Box → Option Box → Bool
opt_within a None = true
opt_within None (Some b) = false
opt_within (Some a) (Some b) = holds a b

abbrev pub holds_hulls : Hulls → Hulls → Bool
holds_hulls h k = holds h.all k.all && opt_within h.asking k.asking

-- each holds the other
abbrev pub alike : Hulls → Hulls → Bool
alike h k = holds_hulls h k && holds_hulls k h

-- the new hulls, where they only grew
abbrev pub grown_from : Hulls → Hulls → Option Hulls
grown_from new old = if holds_hulls new old then Some new else None
