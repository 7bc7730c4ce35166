-- What the lines of a block of rules tell.
use Rattle.std.specs.Prelude.{◌≡◌, ℕ, false, List, [], ◌∷◌, take, Option, Some, Result, Ok, codes}
use Rattle.cga_lexer.specs.Line.{tokens_of}
use Rattle.cga_lexer.specs.declared.token.Token.{Token}
use Rattle.cga_syntax.specs.declared.lexeme.Lexeme.TheVariants as lexeme
use Rattle.cga_rule.specs.declared.grammar.Attribute.{Attribute}
use Rattle.cga_rule.specs.declared.grammar.Entry.{Entry}
use Rattle.cga_rule.specs.declared.grammar.Grammar.{Grammar}
use Rattle.cga_form.specs.declared.block_fault.BlockFault.{BlockFault}
use Rattle.cga_form.specs.BlockTells as form
use Rattle.cga_form.specs.Lines.{Line, is_long}
use Rattle.cga_form.specs.BlockTells.{Found}
use Rattle.cga_form.specs.Cursor.{seen}
use Rattle.cga_parser.specs.declared.block_line.BlockLine.{BlockLine}
use Rattle.cga_parser.specs.declared.block_line.BlockLine.TheVariants as line
use Rattle.cga_parser.specs.declared.gathered.Gathered.{Gathered}
use Rattle.cga_parser.specs.declared.limits.TheConstants.{KEPT_RULES, KEPT_ATTRIBUTES}
use Rattle.cga_parser.specs.Blocks.{block_pieces}
use Rattle.cga_parser.specs.Kept.{kept, with_room}

-- what a line of a block of rules tells
abbrev pub BlockTells : Line → Found BlockLine → Type 0
BlockTells l told = form.BlockTells block_pieces l told

-- the line ends its block: it isn't long, and its tokens are the one word `end`
abbrev pub EndsBlock : Line → Type 0
EndsBlock l = (t : Token) × (is_long l ≡ false) × (tokens_of l.bytes ≡ Ok (t ∷ [])) × (seen t ≡ lexeme.Name (codes "end"))

-- the attributes, in the order of the lines
unfoldable pub attributes_of : List (Option BlockLine) → List Attribute
attributes_of [] = []
attributes_of (Some (line.Attribute a) ∷ all) = a ∷ attributes_of all
attributes_of (_ ∷ all) = attributes_of all

-- the rules, where those before the first further priority have the given one
unfoldable pub entries_from : ℕ → List (Option BlockLine) → List Entry
entries_from priority [] = []
entries_from priority (Some (line.Rule r) ∷ all) = record { priority = priority; rule = r } ∷ entries_from priority all
entries_from priority (Some (line.Priority p) ∷ all) = entries_from p all
entries_from priority (_ ∷ all) = entries_from priority all

-- the last priority
unfoldable pub priority_after : ℕ → List (Option BlockLine) → ℕ
priority_after priority [] = priority
priority_after priority (Some (line.Priority p) ∷ all) = priority_after p all
priority_after priority (_ ∷ all) = priority_after priority all

-- the priority of a rule before the first line with a priority
abbrev pub first_priority : ℕ
first_priority = 1

-- attributes and rules in the order of the lines
abbrev pub grammar_of : List (Option BlockLine) → Grammar
grammar_of all = record { attributes = attributes_of all; rules = entries_from first_priority all }

-- the grammar that the lines of a block say, or the first faulty line
abbrev pub GrammarTells : List Line → Result Grammar BlockFault → Type 0
GrammarTells lines told = form.AllTells block_pieces grammar_of lines told

-- ---- the reader

-- as much of it as a reader keeps
abbrev pub kept_of : List (Option BlockLine) → Grammar
kept_of all = kept (grammar_of all)

-- the grammar that a reader gives of the lines of a block, or the first faulty line
abbrev pub GrammarKept : List Line → Result Grammar BlockFault → Type 0
GrammarKept lines given = form.AllTells block_pieces kept_of lines given

-- what is kept of lines of which none is faulty
abbrev pub Holds : Gathered → List (Option BlockLine) → Type 0
Holds g all =
    (g.attributes ≡ take KEPT_ATTRIBUTES (attributes_of all)) × (g.rules ≡ take KEPT_RULES (entries_from first_priority all)) × (g.priority ≡ priority_after first_priority all)

-- what a line adds, where there is room
pub record Adds (old : Gathered) (said : Option BlockLine) (new : Gathered) : Type 0 where
  pub attributes : new.attributes ≡ with_room KEPT_ATTRIBUTES old.attributes (attributes_of (said ∷ []))
  pub rules : new.rules ≡ with_room KEPT_RULES old.rules (entries_from old.priority (said ∷ []))
  pub priority : new.priority ≡ priority_after old.priority (said ∷ [])
