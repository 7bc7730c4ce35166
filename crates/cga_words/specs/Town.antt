-- The script of the town.
use Rattle.std.specs.Prelude.{ℕ, ◌+◌, ◌*◌, ◌/◌, ◌%◌, zero, suc, List, [], ◌∷◌, ◌++◌, codes, decimal}

-- lines, each with its LF
abbrev pub lined : List (List ℕ) → List ℕ
lined [] = []
lined (line ∷ lines) = line ++ codes "\n" ++ lined lines

-- the rules of its houses
abbrev pub town_grammar : List (List ℕ)
town_grammar =
    codes "attr storey = 3"
    ∷ codes "attr bay = 2.5"
    ∷ codes "PRIORITY 1:"
    ∷ codes "1: lot -> S(1r, 3 * storey, 1r) mass T(0, 3 * storey, 0) S(1r, 2, 1r) roof"
    ∷ codes "2: mass -> Comp(\"sidefaces\") { facade }"
    ∷ codes "PRIORITY 2:"
    ∷ codes "3: roof -> I(\"hip\") : 0.5 -> I(\"gable\") : 0.5"
    ∷ codes "4: facade -> Repeat(\"Y\", storey) { level }"
    ∷ codes "5: level -> Repeat(\"X\", bay) { tile }"
    ∷ codes "6: tile : Scope.occ(\"noparent\") == \"none\" -> Subdiv(\"X\", 1r, 1, 1r) { wall | window | wall }"
    ∷ codes "7: tile -> wall"
    ∷ codes "8: window -> S(1r, 1r, 0.25) I(\"cube\")"
    ∷ codes "9: wall -> I(\"quad\")"
    ∷ []

-- its lines before the lots
abbrev pub head_lines : List ℕ
head_lines = lined (codes "quiet" ∷ codes "rules" ∷ []) ++ lined town_grammar ++ lined (codes "end" ∷ [])

-- the lot of this number: twenty stand in a row, 14 apart, and the rows 12 apart
abbrev pub lot_line : ℕ → List ℕ
lot_line k =
    codes "lot t" ++ decimal k ++ codes " " ++ decimal (1000 + k)
    ++ codes " " ++ decimal (14 * (k % 20)) ++ codes " " ++ decimal (12 * (k / 20))
    ++ codes " " ++ decimal (10 + k % 3) ++ codes " " ++ decimal (8 + k % 2) ++ codes " lot\n"

-- the lots of the numbers below this one
unfoldable pub lot_lines : ℕ → List ℕ
lot_lines zero = []
lot_lines (suc k) = lot_lines k ++ lot_line k

-- its lines behind the lots: two edits, with counts between them
abbrev pub tail_lines : List ℕ
tail_lines = lined (
    codes "stats"
    ∷ codes "put 2 8: window -> S(1r, 1r, 0.5) I(\"cube\")"
    ∷ codes "stats"
    ∷ codes "lot t0 7 0 0 12 9 lot"
    ∷ codes "stats"
    ∷ codes "faults"
    ∷ [])

-- the script of a town of so many lots
unfoldable pub town_text : ℕ → List ℕ
town_text n = head_lines ++ lot_lines n ++ tail_lines
