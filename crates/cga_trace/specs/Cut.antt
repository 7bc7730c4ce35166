-- Cutting a text at the first of some byte.
use Rattle.std.specs.Prelude.{ℕ, List, [], Bool, not, nat_eq, position, Option, Some, None, take, drop, ◌+◌}
use Rattle.std.specs.List.{list_all}

-- the byte isn't among these
abbrev pub lacks : ℕ → List ℕ → Bool
lacks byte text = list_all (λ b. not (nat_eq b byte)) text

-- where it is first
abbrev pub byte_index : ℕ → List ℕ → Option ℕ
byte_index byte text = position (λ b. nat_eq b byte) text

-- what stands before the byte and behind it, or all and nothing
abbrev pub cut_at : List ℕ → Option ℕ → List ℕ × List ℕ
cut_at text None = (text, [])
cut_at text (Some i) = (take i text, drop (i + 1) text)

unfoldable pub cut_of : ℕ → List ℕ → List ℕ × List ℕ
cut_of byte text = cut_at text (byte_index byte text)
