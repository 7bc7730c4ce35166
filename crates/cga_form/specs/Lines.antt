-- Lines as they are given.
use Rattle.std.specs.Prelude.{ℕ, ◌||◌, Bool, nat_lt, List, length}
use Rattle.cga_form.specs.Limits.{line_limit}

-- a line: its bytes, or the first of them where it is long
pub record Line : Type 0 where
  pub bytes : List ℕ
  pub long : Bool

-- it is said to be long, or is
abbrev pub is_long : Line → Bool
is_long l = l.long || nat_lt line_limit (length l.bytes)
