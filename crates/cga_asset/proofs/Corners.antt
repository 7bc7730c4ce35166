-- Corners read one after the other.
use Rattle.std.proofs.Common.{List, ℕ, ◌++◌}
use Rattle.std.specs.Prelude.{Option, Some, None}

-- corners that were read, and those that follow
abbrev pub behind : List ℕ → Option (List ℕ) → Option (List ℕ)
behind before None = None
behind before (Some more) = Some (before ++ more)
