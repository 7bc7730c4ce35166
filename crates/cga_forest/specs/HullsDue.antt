-- What is known of a node whose hulls are brought up to date.
use Rattle.std.specs.Prelude.{◌≡◌, ℕ, length, Option, Some, None, true, if◌then◌else◌}
use Rattle.cga_kept_hulls.specs.declared.hulls.Hulls.{Hulls}
use Rattle.cga_kept_hulls.specs.Hull.{holds_hulls, over}
use Rattle.cga_forest.specs.declared.hulls_due.HullsDue.{HullsDue}
use Rattle.cga_forest.specs.declared.hulls_due.HullsDue.TheVariants.{Grown, Changed}
use Rattle.cga_forest.specs.Hull.{own_hulls}
use Rattle.cga_forest.specs.View.{Seen}

-- to what a child grew
abbrev pub grown_of : HullsDue → Option Hulls
grown_of (Grown k) = Some k
grown_of due = None

-- what the parent of a node is told whose hulls changed
abbrev pub due_above : Hulls → Hulls → ℕ → HullsDue
due_above new old place = if holds_hulls new old then Grown new else Changed place new

-- where the node's own hulls hold those to which a child's changed, they hold those of all
abbrev pub HoldsAll : (ℕ → Option Seen) → (ℕ → Option Hulls) → ℕ → HullsDue → Type 0
HoldsAll T H id due = (e : Seen) (old k : Hulls) (place : ℕ) → T id ≡ Some e → H id ≡ Some old → due ≡ Changed place k
    → holds_hulls old k ≡ true → holds_hulls old (over H (own_hulls e.node) e.children (length e.children)) ≡ true
