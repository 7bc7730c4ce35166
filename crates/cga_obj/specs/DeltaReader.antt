-- Who keeps a town by the lines of its changes.
use Rattle.std.specs.Prelude.{ℕ, ◌+◌, ◌-◌, ◌==◌, List, [], ◌∷◌, bytes_eq, codes, drop, take, Option, Some, None, if◌then◌else◌}
use Rattle.std.specs.Option.{option_and_then}

-- how often a reader has each line, without its sign
abbrev pub Having : Type 0
Having = List ℕ → ℕ

abbrev pub nothing : Having
nothing line = 0

-- once more, and once less
abbrev pub with_one : List ℕ → Having → Having
with_one line mine = λ other. if bytes_eq other line then mine other + 1 else mine other

abbrev pub less_one : List ℕ → Having → Having
less_one line mine = λ other. if bytes_eq other line then mine other - 1 else mine other

-- what isn't there can't be taken away
abbrev pub taken : List ℕ → Having → Option Having
taken line mine = if mine line == 0 then None else Some (less_one line mine)

-- behind `- ` stands what is taken away, and behind `+ ` what is added; every other line is passed over
abbrev pub by_sign : List ℕ → List ℕ → Having → Option Having
by_sign sign line mine =
    if bytes_eq sign (codes "- ") then taken line mine
    else (if bytes_eq sign (codes "+ ") then Some (with_one line mine) else Some mine)

abbrev pub read_line : List ℕ → Having → Option Having
read_line line mine = by_sign (take 2 line) (drop 2 line) mine

-- one line after the other
abbrev pub read_lines : List (List ℕ) → Having → Option Having
read_lines [] mine = Some mine
read_lines (line ∷ lines) mine = option_and_then (λ now. read_lines lines now) (read_line line mine)
