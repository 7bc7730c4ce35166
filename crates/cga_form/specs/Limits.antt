-- The limits of lines.
use Rattle.std.specs.Prelude.{ℕ}

-- the most bytes of a line
abbrev pub line_limit : ℕ
line_limit = 4096

-- the greatest seed: a whole number has at most 18 digits
abbrev pub last_seed : ℕ
last_seed = 999999999999999999

-- the most brackets that may be open at once
abbrev pub most_open : ℕ
most_open = 32
