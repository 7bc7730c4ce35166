-- Bytes that wait before they are handed on.
use Rattle.std.specs.Prelude.{◌≡◌, ℕ, List, take, drop, Option}
use Rattle.std.specs.Io.KnownBytes.{Appends}

-- the first of the bytes that waited were handed on, in their order, and the others go on waiting
abbrev pub HandsOn : Option (List ℕ) → Option (List ℕ) → List ℕ → List ℕ → Type 0
HandsOn old new waited waits = (n : ℕ) × Appends old new (take n waited) × (waits ≡ drop n waited)
