-- What printed tokens are read back as.
use Rattle.std.specs.Prelude.{◌≡◌, ℕ, true, false, List, [], ◌∷◌, map, Ok, Err}
use Rattle.cga_fraction.specs.Decimals.{IsLiteral}
use Rattle.cga_word.specs.Name.{is_name}
use Rattle.cga_lexer.specs.Line.{Lexed, tokens_of}
use Rattle.cga_lexer.specs.declared.token.Token.{Token}
use Rattle.cga_syntax.specs.Lexemes.{lexeme_of, is_reserved}
use Rattle.cga_syntax.specs.Pieces.{Pieces}
use Rattle.cga_syntax.specs.Printing.{printed, text_of, HaveTexts}
use Rattle.cga_syntax.specs.Spelling.{Spelled}
use Rattle.cga_syntax.specs.declared.lexeme.Lexeme.{Lexeme}
use Rattle.cga_syntax.specs.declared.lexeme.Lexeme.TheVariants as lexeme

-- a token that some line has: a number that some text is read as, or a name
abbrev pub IsToken : Lexeme → Type 0
IsToken (lexeme.Number value) = IsLiteral value
IsToken (lexeme.Relative value) = IsLiteral value
IsToken (lexeme.Keyword word) = Unit {0}
IsToken (lexeme.Name name) = (is_name name ≡ true) × (is_reserved name ≡ false)
IsToken (lexeme.Text name) = is_name name ≡ true
IsToken (lexeme.Sign sign) = Unit {0}

abbrev pub AreTokens : List Lexeme → Type 0
AreTokens [] = Unit {0}
AreTokens (l ∷ ls) = IsToken l × AreTokens ls

-- the tokens of a line, as the forms of the language see them
abbrev pub seen_of : List Token → List Lexeme
seen_of ts = map (λ t. lexeme_of t.kind) ts

-- a line's tokens are these
abbrev pub AreRead : Lexed → List Lexeme → Type 0
AreRead (Ok ts) ls = seen_of ts ≡ ls
AreRead (Err f) ls = ⊥

abbrev pub lexed_spells : {A : Type 0} → (A → Pieces) → Lexed → A → Type 0
lexed_spells w (Ok ts) a = Spelled w (seen_of ts) a
lexed_spells w (Err f) a = ⊥

-- the line's tokens are written as the value's pieces
abbrev pub LineSpells : {A : Type 0} → (A → Pieces) → List ℕ → A → Type 0
LineSpells w line a = lexed_spells w (tokens_of line) a

-- each number of what is printed has a text, and the text spells the value
abbrev pub IsPrintedWell : {A : Type 0} → (A → Pieces) → A → Type 0
IsPrintedWell w a = HaveTexts (printed (w a)) × LineSpells w (text_of (printed (w a))) a
