-- Which brackets are open.
use Rattle.std.specs.Prelude.{◌≡◌, ℕ, zero, suc, List, [], ◌∷◌, Option, Some, None}
use Rattle.cga_lexer.specs.declared.sign.Sign.{Sign}
use Rattle.cga_lexer.specs.declared.sign.Sign.TheVariants as s
use Rattle.cga_syntax.specs.declared.lexeme.Lexeme.{Lexeme}
use Rattle.cga_syntax.specs.declared.lexeme.Lexeme.TheVariants as lexeme

-- What a token does to the brackets that are open.
pub data Bracket : Type 0 where
  opens : Bracket
  closes : Bracket
  other : Bracket

abbrev pub bracket_of_sign : Sign → Bracket
bracket_of_sign s.LeftRound = opens
bracket_of_sign s.LeftSquare = opens
bracket_of_sign s.LeftCurly = opens
bracket_of_sign s.RightRound = closes
bracket_of_sign s.RightSquare = closes
bracket_of_sign s.RightCurly = closes
bracket_of_sign _ = other

abbrev pub bracket_of : Lexeme → Bracket
bracket_of (lexeme.Sign x) = bracket_of_sign x
bracket_of _ = other

-- how many brackets may be opened after the token, where so many may be opened before it
abbrev pub counted : Bracket → ℕ → Option ℕ
counted opens zero = None
counted opens (suc n) = Some n
counted closes n = Some (suc n)
counted other n = Some n

abbrev pub walk_on : (ℕ → Option ℕ) → Option ℕ → Option ℕ
walk_on f None = None
walk_on f (Some n) = f n

-- how many brackets may still be opened after the text, or None where one too many was opened
unfoldable pub walk : ℕ → List Lexeme → Option ℕ
walk n [] = Some n
walk n (l ∷ ls) = walk_on (λ m. walk m ls) (counted (bracket_of l) n)

abbrev pub IsOpening : Lexeme → Type 0
IsOpening l = bracket_of l ≡ opens
