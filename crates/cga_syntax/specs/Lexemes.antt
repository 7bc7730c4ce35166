-- Tokens as the forms of the language see them.
use Rattle.std.specs.Prelude.{ℕ, Bool, List, Option, Some, None, is_some, nat_eq, if◌then◌else◌, codes}
use lib.Pointwise.{pointwise}
use Rattle.cga_lexer.specs.declared.token.TokenKind.{TokenKind}
use Rattle.cga_lexer.specs.declared.token.TokenKind.TheVariants as kind
use Rattle.cga_syntax.specs.declared.keyword.Keyword.{Keyword}
use Rattle.cga_syntax.specs.declared.keyword.Keyword.TheVariants as keyword
use Rattle.cga_syntax.specs.declared.lexeme.Lexeme.{Lexeme}
use Rattle.cga_syntax.specs.declared.lexeme.Lexeme.TheVariants as lexeme

-- the word has these bytes
abbrev pub is : List ℕ → List ℕ → Bool
is word bytes = pointwise nat_eq word bytes

abbrev pub other_keyword_of : List ℕ → Option Keyword
other_keyword_of word =
    if is word (codes "NIL") then Some keyword.Nil
    else if is word (codes "Scope") then Some keyword.Scope
    else if is word (codes "rand") then Some keyword.Rand
    else if is word (codes "floor") then Some keyword.Floor
    else if is word (codes "ceil") then Some keyword.Ceil
    else if is word (codes "and") then Some keyword.And
    else if is word (codes "or") then Some keyword.Or
    else if is word (codes "not") then Some keyword.Not
    else None

-- the reserved words
unfoldable pub keyword_of : List ℕ → Option Keyword
keyword_of word =
    if is word (codes "T") then Some keyword.T
    else if is word (codes "S") then Some keyword.S
    else if is word (codes "Rx") then Some keyword.Rx
    else if is word (codes "Ry") then Some keyword.Ry
    else if is word (codes "Rz") then Some keyword.Rz
    else if is word (codes "I") then Some keyword.I
    else if is word (codes "Subdiv") then Some keyword.Subdiv
    else if is word (codes "Repeat") then Some keyword.Repeat
    else if is word (codes "Comp") then Some keyword.Comp
    else other_keyword_of word

-- the reserved words of so many bytes
abbrev pub one_byte_keyword : List ℕ → Option Keyword
one_byte_keyword word = if is word (codes "T") then Some keyword.T else (if is word (codes "S") then Some keyword.S else (if is word (codes "I") then Some keyword.I else None))

abbrev pub two_byte_keyword : List ℕ → Option Keyword
two_byte_keyword word = if is word (codes "Rx") then Some keyword.Rx else (if is word (codes "Ry") then Some
    keyword.Ry else (if is word (codes "Rz") then Some keyword.Rz else (if is word (codes "or") then Some keyword.Or else None)))

abbrev pub three_byte_keyword : List ℕ → Option Keyword
three_byte_keyword word = if is word (codes "NIL") then Some keyword.Nil else (if is word (codes "and") then Some keyword.And else (if is word (codes "not") then Some keyword.Not else None))

abbrev pub four_byte_keyword : List ℕ → Option Keyword
four_byte_keyword word = if is word (codes "Comp") then Some keyword.Comp else (if is word (codes "rand") then Some keyword.Rand else (if is word (codes "ceil") then Some keyword.Ceil else None))

abbrev pub five_byte_keyword : List ℕ → Option Keyword
five_byte_keyword word = if is word (codes "Scope") then Some keyword.Scope else (if is word (codes "floor") then Some keyword.Floor else None)

abbrev pub six_byte_keyword : List ℕ → Option Keyword
six_byte_keyword word = if is word (codes "Subdiv") then Some keyword.Subdiv else (if is word (codes "Repeat") then Some keyword.Repeat else None)

-- the bytes of a reserved word
abbrev pub keyword_bytes : Keyword → List ℕ
keyword_bytes keyword.T = codes "T"
keyword_bytes keyword.S = codes "S"
keyword_bytes keyword.Rx = codes "Rx"
keyword_bytes keyword.Ry = codes "Ry"
keyword_bytes keyword.Rz = codes "Rz"
keyword_bytes keyword.I = codes "I"
keyword_bytes keyword.Subdiv = codes "Subdiv"
keyword_bytes keyword.Repeat = codes "Repeat"
keyword_bytes keyword.Comp = codes "Comp"
keyword_bytes keyword.Nil = codes "NIL"
keyword_bytes keyword.Scope = codes "Scope"
keyword_bytes keyword.Rand = codes "rand"
keyword_bytes keyword.Floor = codes "floor"
keyword_bytes keyword.Ceil = codes "ceil"
keyword_bytes keyword.And = codes "and"
keyword_bytes keyword.Or = codes "or"
keyword_bytes keyword.Not = codes "not"

abbrev pub is_reserved : List ℕ → Bool
is_reserved word = is_some (keyword_of word)

abbrev pub word_lexeme : List ℕ → Option Keyword → Lexeme
word_lexeme word None = lexeme.Name word
word_lexeme word (Some reserved) = lexeme.Keyword reserved

abbrev pub lexeme_of : TokenKind → Lexeme
lexeme_of (kind.Number value) = lexeme.Number value
lexeme_of (kind.Relative value) = lexeme.Relative value
lexeme_of (kind.Word word) = word_lexeme word (keyword_of word)
lexeme_of (kind.Text name) = lexeme.Text name
lexeme_of (kind.Sign s) = lexeme.Sign s
