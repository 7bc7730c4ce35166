-- What a name is, and how its bytes are kept.
use Rattle.std.specs.Prelude.{◌≡◌, ℕ, ◌-◌, ◌≤◌, Bool, false, ◌&&◌, ◌||◌, nat_eq, nat_lt, List, [], ◌∷◌, ◌++◌, length, replicate, take, drop, IsTrue, Option, Some, None, if◌then◌else◌}
use Rattle.std.specs.List.{list_all}
use Rattle.std.specs.Char.{is_ascii_alphabetic, is_ascii_alphanumeric}

-- a letter or `_`
abbrev pub begins_name : ℕ → Bool
begins_name byte = is_ascii_alphabetic byte || nat_eq byte 95

-- a letter, a digit or `_`
abbrev pub continues_name : ℕ → Bool
continues_name byte = is_ascii_alphanumeric byte || nat_eq byte 95

-- 1 to 32 bytes, a letter or `_` first, then letters, digits or `_`
abbrev pub is_name : List ℕ → Bool
is_name [] = false
is_name (first ∷ rest) = begins_name first && nat_lt (length rest) 32 && list_all continues_name rest

-- the name with these bytes, where they are a name
abbrev pub name_of : List ℕ → Option (List ℕ)
name_of bytes = if is_name bytes then Some bytes else None

-- the first `size` bytes are a name, and the rest of the 32 are zero
pub record IsPadded (bytes : List ℕ) (size : ℕ) : Type 0 where
  pub few : size ≤ 32
  pub long : length bytes ≡ 32
  pub zeros : drop size bytes ≡ replicate (32 - size) 0
  pub named : IsTrue (is_name (take size bytes))

-- a name's bytes, padded to 32
abbrev pub padded_of : List ℕ → List ℕ
padded_of name = name ++ replicate (32 - length name) 0
