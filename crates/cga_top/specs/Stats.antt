-- The numbers that are told of a city.
use Rattle.std.specs.Prelude.{ℕ, List, ◌++◌, codes, decimal}
use Rattle.cga_shape.specs.declared.counts.Counts.{Counts}

-- a word, and a number behind it
abbrev pub counted : List ℕ → ℕ → List ℕ
counted word n = word ++ decimal n

unfoldable pub stats_text_of : Counts → List ℕ
stats_text_of c =
    counted (codes "# stats lots ") c.lots ++ counted (codes " shapes ") c.shapes ++ counted (codes " instances ") c.instances
    ++ counted (codes " faults ") c.faults ++ counted (codes " expanded ") c.expanded ++ codes "\n"
