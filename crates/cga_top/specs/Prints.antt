-- The OBJ text of lots, by the city that a session keeps and the meshes that stand for what it draws.
use Rattle.std.specs.Prelude.{ℕ, List, [], ◌∷◌}
use Rattle.cga_city.specs.City.{CityState}
use Rattle.cga_city.specs.Derived.{members}
use Rattle.cga_city.specs.Reports.{drawn_in}
use Rattle.cga_obj.specs.Lots.{Shown, lot_text, lots_text, text_by}
use Rattle.cga_shape.specs.declared.drawn.Drawn.{Drawn}

-- what is drawn of lots
abbrev pub in_lots : CityState → List (List ℕ) → List Drawn
in_lots city lots = drawn_in lots (members city.budget city.sources)

-- of one
abbrev pub in_lot : CityState → List ℕ → List Drawn
in_lot city lot = in_lots city (lot ∷ [])

-- the text of a lot, where so many vertices stand before it
abbrev pub lot_in : Shown → CityState → ℕ → ℕ → List ℕ → List ℕ
lot_in mesh city decimals before lot = lot_text mesh decimals before lot (in_lot city lot)

-- the texts of lots, one after the other
abbrev pub lots_in : Shown → CityState → ℕ → List (List ℕ) → List ℕ
lots_in mesh city decimals lots = lots_text mesh decimals (in_lots city lots) 0 lots

-- the whole text of lots
abbrev pub text_in : Shown → CityState → ℕ → List (List ℕ) → List ℕ
text_in mesh city decimals lots = text_by mesh lots (in_lots city lots) decimals
