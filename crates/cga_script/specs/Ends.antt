-- Lines that are told by their few words: the end of a block, the first line of a script of version 2, and a blank line.
use Rattle.std.specs.Prelude.{◌&&◌, Bool, true, false, not, [], ◌∷◌, Ok, is_some, codes}
use Rattle.cga_lexer.specs.Line.{Lexed, tokens_of}
use Rattle.cga_syntax.specs.declared.lexeme.Lexeme.{Lexeme}
use Rattle.cga_form.specs.Cursor.{seen}
use Rattle.cga_form.specs.Lines.{Line, is_long}
use Rattle.cga_form.specs.Tokens.{a_whole, is_word}

-- just the word `end`
abbrev pub are_end : Lexed → Bool
are_end (Ok (t ∷ [])) = is_word (codes "end") (seen t)
are_end _ = false

-- a line that ends its block: it isn't long, and its tokens are just the word `end`
abbrev pub is_end_line : Line → Bool
is_end_line l = not (is_long l) && are_end (tokens_of l.bytes)

-- the number 2
abbrev pub is_two : Lexeme → Bool
is_two l = is_some (a_whole 2 2 l)

-- just the word `version` and the number 2
abbrev pub are_version : Lexed → Bool
are_version (Ok (t ∷ u ∷ [])) = is_word (codes "version") (seen t) && is_two (seen u)
are_version _ = false

-- a line that makes its script one of version 2, where it is the first that isn't blank
abbrev pub is_version_line : Line → Bool
is_version_line l = not (is_long l) && are_version (tokens_of l.bytes)

-- no token is left
abbrev pub are_none : Lexed → Bool
are_none (Ok []) = true
are_none _ = false

-- a line that is blank: it isn't long, and has no tokens
abbrev pub is_blank_line : Line → Bool
is_blank_line l = not (is_long l) && are_none (tokens_of l.bytes)

-- ---- how the end of a block is looked for

-- what is still to come, where the word `end` was read or wasn't
abbrev pub ends_after : Bool → Lexed → Bool
ends_after true found = are_none found
ends_after false found = are_end found
