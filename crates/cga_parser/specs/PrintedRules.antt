-- What the text of a printed rule tells.
use Rattle.std.specs.Prelude.{◌≡◌, ◌≤◌, ℕ, List, length, map, Some, Result, Ok, Err}
use Rattle.cga_lexer.specs.Line.{tokens_of}
use Rattle.cga_lexer.specs.declared.token.Token.{Token}
use Rattle.cga_lexer.specs.declared.fault.LexFault.{LexFault}
use Rattle.cga_syntax.specs.Brackets.{walk}
use Rattle.cga_syntax.specs.Pieces.{rule_pieces}
use Rattle.cga_syntax.specs.Printing.{printed, text_of, HaveTexts}
use Rattle.cga_syntax.specs.Spelling.{Spelled}
use Rattle.cga_rule.specs.declared.rule.Rule.{Rule}
use Rattle.cga_form.specs.Cursor.{seen}
use Rattle.cga_form.specs.Limits.{line_limit, most_open}
use Rattle.cga_form.specs.LineTells.{LineTells}

-- the tokens spell the rule, and nowhere are too many brackets open
abbrev pub few_brackets : Result (List Token) LexFault → Rule → Type 0
few_brackets (Ok ts) r = Spelled rule_pieces (map seen ts) r × ((m : ℕ) × (walk most_open (map seen ts) ≡ Some m))
few_brackets (Err f) r = ⊥

-- the line spells the rule with at most 32 brackets open at once
abbrev pub SpellsRule : List ℕ → Rule → Type 0
SpellsRule line r = few_brackets (tokens_of line) r

-- the rule may be printed, and its text tells it where it isn't too long for a line
abbrev pub IsReadBack : Rule → Type 0
IsReadBack r = HaveTexts (printed (rule_pieces r)) × (length (text_of (printed (rule_pieces r))) ≤ line_limit → LineTells rule_pieces (text_of (printed (rule_pieces r))) (Ok r))
