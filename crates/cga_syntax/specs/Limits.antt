-- The limits of rules.
use Rattle.std.specs.Prelude.{ℕ}

-- the greatest id of a rule; the least is 1
abbrev pub last_id : ℕ
last_id = 999999

-- the greatest priority of a symbol; the least is 0
abbrev pub last_priority : ℕ
last_priority = 65535

-- the most parameters or arguments after the first
abbrev pub most_further : ℕ
most_further = 3

-- the greatest number of an edge; the least is 1
abbrev pub last_edge : ℕ
last_edge = 12

-- the most steps of a rand; the fewest are 1
abbrev pub most_steps : ℕ
most_steps = 1000000
