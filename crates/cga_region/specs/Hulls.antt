-- Districts of a town that the boxes of their lots tell apart.
use Rattle.std.specs.Prelude.{◌≡◌, ℕ, List, [], ◌∷◌, true, false}
use Rattle.cga_word.specs.declared.primitive.Primitive.{Primitive}
use Rattle.cga_frame.specs.Box.{Box, box_of, holds, touches}
use Rattle.cga_order.specs.declared.placed.Kind.{Kind}
use Rattle.cga_order.specs.World.{Has, Among}
use Rattle.cga_shape.specs.declared.lot.Lot.{Lot}
use Rattle.cga_shape.specs.declared.shape.Shape.{Shape}
use Rattle.cga_shape.specs.declared.shape_fault.ShapeFault.{ShapeFault}
use Rattle.cga_shape.specs.declared.sources.Sources.{Sources}
use Rattle.cga_expand.specs.Children.{Member}
use Rattle.cga_expand.specs.Derivation.{NamesDiffer}
use Rattle.cga_region.specs.TownParts.{AllMeetNone, AreDerived, joined}

module _ (hull : List ℕ → Box) where
  -- the box of its lot holds the box of each member
  abbrev pub AreHeld : List Member → Type 0
  AreHeld list =
      (n : Shape) (k : Kind ShapeFault Primitive) → Has list n k → holds (hull n.lot) (box_of n.scope) ≡ true

  -- the box of no lot of the first touches that of a lot of the second
  abbrev pub AreFar : List Lot → List Lot → Type 0
  AreFar left right = (x y : Lot) → Among x left → Among y right → touches (hull x.name) (hull y.name) ≡ false

  -- so for each of the lists
  abbrev pub AllHeld : List (List Member) → Type 0
  AllHeld [] = Unit {0}
  AllHeld (xs ∷ lists) = AreHeld xs × AllHeld lists

  -- so for one part and each of the others
  abbrev pub IsFarFrom : List Lot → List (List Lot) → Type 0
  IsFarFrom part [] = Unit {0}
  IsFarFrom part (other ∷ parts) = AreFar part other × IsFarFrom part parts

  -- and for each two
  abbrev pub AllFar : List (List Lot) → Type 0
  AllFar [] = Unit {0}
  AllFar (part ∷ parts) = IsFarFrom part parts × AllFar parts

-- where the boxes of lots of different parts don't touch, no shape of a part meets one of another
abbrev pub HullsTellApart : Type 0
HullsTellApart =
    (sources : Sources) (parts : List (List Lot)) → NamesDiffer (joined parts)
    → (lists : List (List Member)) → AreDerived sources parts lists
    → (hull : List ℕ → Box) → AllHeld hull lists → AllFar hull parts
    → AllMeetNone sources.grammar lists
