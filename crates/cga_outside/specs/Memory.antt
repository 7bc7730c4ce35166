-- A source and a sink in memory, as contracts see them.
use Rattle.std.specs.Prelude.{ℕ, ◌≤◌, ◌<◌, List, length, Bool, ◌-◌, min}

-- a source: the bytes that it gave and those that are left, the most that a read gives, the numbers of the reads that
-- fail, the number of the next read, whether a read met the end, and how often one failed
pub record Reading : Type 0 where
  pub given : List ℕ
  pub left : List ℕ
  pub most : ℕ
  pub fails : List ℕ
  pub number : ℕ
  pub ended : Bool
  pub faults : ℕ

-- as many bytes as there are, may be given and fit
abbrev pub read_count : Reading → List ℕ → ℕ
read_count s buf = min (min (length s.left) s.most) (length buf)

-- a sink: the bytes that it holds, how many it has room for, the numbers of the calls that fail, the number of
-- the next call, whether all was flushed, and how often a call failed
pub record Writing : Type 0 where
  pub held : List ℕ
  pub room : ℕ
  pub fails : List ℕ
  pub number : ℕ
  pub flushed : Bool
  pub faults : ℕ

-- as many bytes as the piece has and there is room for
abbrev pub write_count : Writing → List ℕ → ℕ
write_count s piece = min (length piece) (s.room - length s.held)

-- some bytes come, and there is room for none
pub record IsFull (s : Writing) (piece : List ℕ) : Type 0 where
  pub some : 0 < length piece
  pub full : s.room ≤ length s.held
