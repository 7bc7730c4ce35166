-- Districts of a town: two parts of its lots, with one grammar and one mode.
use Rattle.std.specs.Prelude.{◌≡◌, ◌+◌, ℕ, List, ◌++◌, true, false, ◌⊎◌, length}
use Rattle.cga_word.specs.declared.target.Target.{Target}
use Rattle.cga_word.specs.declared.primitive.Primitive.{Primitive}
use Rattle.cga_frame.specs.Box.{box_of, meets}
use Rattle.cga_order.specs.declared.placed.Kind.{Kind}
use Rattle.cga_order.specs.World.{Has, Among, is_instance}
use Rattle.cga_order.specs.Consistent.{SameMembers}
use Rattle.cga_rule.specs.declared.grammar.Grammar.{Grammar}
use Rattle.cga_shape.specs.declared.lot.Lot.{Lot}
use Rattle.cga_shape.specs.declared.shape.Shape.{Shape}
use Rattle.cga_shape.specs.declared.shape_fault.ShapeFault.{ShapeFault}
use Rattle.cga_shape.specs.declared.sources.Sources.{Sources}
use Rattle.cga_derivation.specs.Derivation.{IsDerived}
use Rattle.cga_expand.specs.Asked.{asks_for}
use Rattle.cga_expand.specs.Children.{Member}
use Rattle.cga_expand.specs.Derivation.{derivation_of, NamesDiffer}

-- the sources with these lots alone
abbrev pub with_lots : Sources → List Lot → Sources
with_lots sources lots = record sources { lots = lots }

-- the lots stand in two parts, in whatever order
pub record AreLots (sources : Sources) (left right : List Lot) : Type 0 where
  pub each : (x : Lot) → Among x sources.lots → Among x left ⊎ Among x right
  pub left_lots : (x : Lot) → Among x left → Among x sources.lots
  pub right_lots : (x : Lot) → Among x right → Among x sources.lots
  pub differ : NamesDiffer (left ++ right)

-- no rule asks
abbrev pub NoneAsks : Grammar → Type 0
NoneAsks grammar = (symbol : List ℕ) (target : Target) → asks_for grammar symbol target ≡ false

-- the box of no shape that asks meets one of the other list
abbrev pub MeetsNone : Grammar → List Member → List Member → Type 0
MeetsNone grammar xs ys =
    (n m : Shape) (k j : Kind ShapeFault Primitive) (target : Target) → Has xs n k
    → is_instance k ≡ false → asks_for grammar n.symbol target ≡ true → Has ys m j
    → meets (box_of m.scope) (box_of n.scope) ≡ false

-- what the two parts derive to are together the members of what the town derives to
abbrev pub LotsAreApart : Type 0
LotsAreApart =
    (sources : Sources) → NamesDiffer sources.lots
    → (left right : List Lot) → AreLots sources left right
    → (xs ys : List Member) → IsDerived (derivation_of (with_lots sources left)) xs
    → IsDerived (derivation_of (with_lots sources right)) ys
    → NoneAsks sources.grammar ⊎ (MeetsNone sources.grammar xs ys × MeetsNone sources.grammar ys xs)
    → (list : List Member) × IsDerived (derivation_of sources) list × SameMembers (xs ++ ys) list
    × (length list ≡ length xs + length ys)
