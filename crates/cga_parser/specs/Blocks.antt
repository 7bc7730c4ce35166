-- The lines of a block: what each is written as, and how it is read.
use Rattle.std.specs.Prelude.{ℕ, [], ◌∷◌, codes}
use Rattle.cga_lexer.specs.declared.sign.Sign.TheVariants as s
use Rattle.cga_syntax.specs.declared.lexeme.Lexeme.TheVariants as lexeme
use Rattle.cga_rule.specs.declared.grammar.Attribute.{Attribute}
use Rattle.cga_syntax.specs.Limits.{last_priority}
use Rattle.cga_syntax.specs.declared.print.space.Space.TheVariants.{NoneBefore}
use Rattle.cga_syntax.specs.Pieces.{Pieces, token, sign as signed, word, named, whole, valued, rule_pieces}
use Rattle.cga_parser.specs.declared.block_line.BlockLine.{BlockLine}
use Rattle.cga_parser.specs.declared.block_line.BlockLine.TheVariants as line
use Rattle.cga_form.specs.Reader.{Reader, ◌>>=◌, ◌>>◌, pure, single, peeked}
use Rattle.cga_form.specs.Tokens.{is_word}
use Rattle.cga_parser.specs.Grammar.{sign, rule}
use Rattle.cga_form.specs.Parts.{a_word, name, prio, value}

-- ---- what the lines are written as

-- the word `attr`, a name, `=` and a value
abbrev pub attribute_pieces : Attribute → Pieces
attribute_pieces a = word (codes "attr") ∷ named a.name ∷ signed s.Assign ∷ valued a.value ∷ []

-- the colon after a priority has no space before it
abbrev pub priority_pieces : ℕ → Pieces
priority_pieces n = word (codes "PRIORITY") ∷ whole 0 last_priority n ∷ token NoneBefore (lexeme.Sign s.Colon) ∷ []

-- an attribute, a priority, a rule, or `end`
abbrev pub block_pieces : BlockLine → Pieces
block_pieces (line.Attribute a) = attribute_pieces a
block_pieces (line.Priority n) = priority_pieces n
block_pieces (line.Rule r) = rule_pieces r
block_pieces line.End = word (codes "end") ∷ []

-- ---- lines

-- how an attribute is read
unfoldable pub attribute : Reader Attribute
attribute = single (a_word (codes "attr")) >> (name >>= λ x. sign s.Assign >> (value >>= λ v. pure (record { name = x; value = v })))

-- how a priority is read
unfoldable pub priority : Reader ℕ
priority = single (a_word (codes "PRIORITY")) >> (prio >>= λ n. sign s.Colon >> pure n)

-- where so many brackets may be opened
unfoldable pub block : ℕ → Reader BlockLine
block n =
    peeked (is_word (codes "attr")) (attribute >>= λ a. pure (line.Attribute a))
    (peeked (is_word (codes "PRIORITY")) (priority >>= λ p. pure (line.Priority p))
    (peeked (is_word (codes "end")) (single (a_word (codes "end")) >> pure line.End) (rule n >>= λ r. pure (line.Rule r))))
