-- The lines that the text of a grammar has, and the grammar that they say.
use Rattle.std.specs.Prelude.{◌≡◌, ◌≤◌, ◌&&◌, ◌^◌, ◌+◌, ℕ, zero, suc, nat_eq, List, [], ◌∷◌, ◌++◌, length, map, false, Some, Ok, IsPermutation, decimal, codes, if◌then◌else◌}
use Rattle.std.specs.List.{All}
use Rattle.cga_fraction.specs.Texts.{exact_text_of}
use Rattle.cga_syntax.specs.GrammarText.{line, has, priorities, grammar_text, ArePrintable}
use Rattle.cga_syntax.specs.Limits.{last_priority}
use Rattle.cga_syntax.specs.Pieces.{rule_pieces}
use Rattle.cga_syntax.specs.Printing.{printed, text_of}
use Rattle.cga_rule.specs.declared.grammar.Entry.{Entry}
use Rattle.cga_rule.specs.declared.grammar.Grammar.{Grammar}
use Rattle.cga_parser.specs.declared.block_line.BlockLine.{BlockLine}
use Rattle.cga_parser.specs.declared.block_line.BlockLine.TheVariants as says
use Rattle.cga_form.specs.Limits.{line_limit}
use Rattle.cga_form.specs.Lines.{Line}
use Rattle.cga_parser.specs.BlockTells.{BlockTells, EndsBlock, GrammarTells}

-- ---- the entries in the order of the text

-- what is listed for so many numbers from one on
unfoldable pub all_from : {A : Type 0} → (ℕ → List A) → ℕ → ℕ → List A
all_from f from zero = []
all_from f from (suc n) = f from ++ all_from f (from + 1) n

-- the entries of a priority whose rule has an id, in the list's order
abbrev pub with_id : List Entry → ℕ → ℕ → List Entry
with_id [] p id = []
with_id (e ∷ es) p id = (if nat_eq e.priority p && nat_eq e.rule.id id then e ∷ [] else []) ++ with_id es p id

-- the entries of a priority by rising id
abbrev pub by_id : List Entry → ℕ → List Entry
by_id es p = all_from (with_id es p) 0 (2 ^ 32)

-- the entries by rising priority, and those of one priority by rising id
abbrev pub by_rank : List Entry → List Entry
by_rank es = all_from (by_id es) 0 (2 ^ 16)

-- ---- the lines

-- the line of an entry
abbrev pub rule_of : Entry → BlockLine
rule_of e = says.Rule e.rule

-- a priority and its rules; nothing for a priority that no rule has
abbrev pub section : List Entry → ℕ → List BlockLine
section es p = if has (priorities es) p then says.Priority p ∷ map rule_of (by_id es p) else []

-- what the lines between the first and the last say
abbrev pub said_of : Grammar → List BlockLine
said_of g = map says.Attribute g.attributes ++ all_from (section g.rules) 0 (2 ^ 16)

-- the text of a line, without its end
abbrev pub line_text : BlockLine → List ℕ
line_text (says.Attribute a) = codes "attr " ++ (a.name ++ (codes " = " ++ exact_text_of a.value))
line_text (says.Priority p) = codes "PRIORITY " ++ (decimal p ++ codes ":")
line_text (says.Rule r) = text_of (printed (rule_pieces r))
line_text says.End = codes "end"

-- the text of lines
abbrev pub lines_text : List BlockLine → List ℕ
lines_text [] = []
lines_text (b ∷ bs) = line (line_text b) ++ lines_text bs

-- a line as it is given to a reader
abbrev pub given : BlockLine → Line
given b = record { bytes = line_text b; long = false }

-- ---- the grammar's text is read back

-- some line says it
abbrev pub IsSaid : BlockLine → Type 0
IsSaid b = (l : Line) × BlockTells l (Ok (Some b))

-- each attribute and each rule is one that some line says, and each priority one that a line may have
pub record IsSpelled (g : Grammar) : Type 0 where
  pub attributes : All (λ a. IsSaid (says.Attribute a)) g.attributes
  pub rules : All (λ e. IsSaid (rule_of e)) g.rules
  pub priorities : All (λ (e : Entry). e.priority ≤ last_priority) g.rules

-- the text is one line, without a control byte, and doesn't end a block
abbrev pub IsInside : BlockLine → Type 0
IsInside b = All (λ byte. 32 ≤ byte) (line_text b) × (EndsBlock (given b) → ⊥)

-- no rule's text is too long for a line
abbrev pub AreShort : List Entry → Type 0
AreShort es = All (λ e. length (line_text (rule_of e)) ≤ line_limit) es

-- The grammar may be printed, and its text is these lines between `rules` and `end`. Where no rule is too long they tell
-- the grammar with its entries in the order of the text, which are the same entries.
pub record ReadsBack (g : Grammar) : Type 0 where
  pub printable : ArePrintable g.rules
  pub text : grammar_text g ≡ line (codes "rules") ++ (lines_text (said_of g) ++ line (codes "end"))
  pub inside : All IsInside (said_of g)
  pub told : AreShort g.rules
      → GrammarTells (map given (said_of g)) (Ok (record { attributes = g.attributes; rules = by_rank g.rules }))
  pub same : IsPermutation g.rules (by_rank g.rules)
