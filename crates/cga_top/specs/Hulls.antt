-- What is told of the lots of a script: a line for each, of the least box that holds all of its shapes.
use Rattle.std.specs.Prelude.{◌≡◌, ℕ, List, [], ◌∷◌, ◌++◌, codes}
use Rattle.cga_fraction.specs.Texts.{exact_text_of}
use Rattle.cga_frame.specs.Box.{Box}
use Rattle.cga_frame.specs.declared.point.Point.{Point}
use Rattle.cga_shape.specs.declared.lot.Lot.{Lot}
use Rattle.cga_expand.specs.Children.{Member}
use Rattle.cga_city.specs.Derived.{members}
use Rattle.cga_city.specs.Hulls.{IsHullOf}
use Rattle.cga_top.specs.Output.{effect_of_script}
use Rattle.cga_top.specs.Replies.{budget_of}
use Rattle.cga_top.specs.State.{State}

-- its three numbers, a blank before each
unfoldable pub corner : Point → List ℕ
corner p = codes " " ++ exact_text_of p.x ++ codes " " ++ exact_text_of p.y ++ codes " " ++ exact_text_of p.z

-- the lot's name, the corner of its box that is least on each axis, and the one that is greatest
unfoldable pub hull_line : List ℕ → Box → List ℕ
hull_line name box = codes "# hull " ++ name ++ corner box.low ++ corner box.high ++ codes "\n"

-- a line for each lot, in their order
abbrev pub IsHullText : List Member → List Lot → List ℕ → Type 0
IsHullText list [] text = text ≡ []
IsHullText list (lot ∷ lots) text =
    (box : Box) × (rest : List ℕ) × IsHullOf lot.name list box × IsHullText list lots rest × (text ≡ hull_line lot.name box ++ rest)

abbrev pub IsToldIn : State → List ℕ → Type 0
IsToldIn s text = IsHullText (members (budget_of s.version) s.sources) s.sources.lots text

-- it is told of the sources that the script comes to, where coordinates are printed with so many decimals
abbrev pub IsToldOf : ℕ → List ℕ → List ℕ → Type 0
IsToldOf decimals bytes text = IsToldIn (effect_of_script decimals bytes).state text

-- so many decimals are printed where no words say how many
abbrev pub usual : ℕ
usual = 6
