-- The box of a lot.
use Rattle.std.specs.Prelude.{◌≡◌, ◌↔◌, ℕ, List, true}
use Rattle.cga_frame.specs.Box.{Box, box_of, holds}
use Rattle.cga_order.specs.World.{Among}
use Rattle.cga_expand.specs.Children.{Member}

-- the least box that holds the boxes of all members of a lot, drawn or not
abbrev pub IsHullOf : List ℕ → List Member → Box → Type 0
IsHullOf lot list hull = (b : Box) → (holds b hull ≡ true) ↔ ((m : Member) → Among m list → m.shape.lot ≡ lot → holds b (box_of m.shape.scope) ≡ true)
