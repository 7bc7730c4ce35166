-- The text of a bill.
use Rattle.std.specs.Prelude.{ℕ, List, ◌++◌, codes, decimal, flat_map, length}
use Rattle.cga_fraction.specs.Texts.{pointed}
use Rattle.cga_bill.specs.declared.sums.Sums.{Sums}

-- a symbol, how many instances it has, both sums in units with six places, and how many aren't measured
unfoldable pub line_text : List ℕ × Sums → List ℕ
line_text line =
    codes "# bill " ++ line.0 ++ codes " " ++ decimal line.1.number ++ codes " " ++ pointed 6 line.1.front
    ++ codes " " ++ pointed 6 line.1.volume ++ codes " " ++ decimal line.1.unmeasured ++ codes "\n"

-- how many symbols there are, then each
unfoldable pub bill_text_of : List (List ℕ × Sums) → List ℕ
bill_text_of lines = codes "# bill " ++ decimal (length lines) ++ codes "\n" ++ flat_map line_text lines
