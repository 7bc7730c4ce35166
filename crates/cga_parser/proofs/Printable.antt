-- What was read may be printed.
use Rattle.std.proofs.Common.{◌≡◌, ℕ, ◌+◌, nat_lt, Bool, true, false, List, [], ◌∷◌, length, map, Option, Some, None, Result, Ok, Err, sym, subst}
use Rattle.std.proofs.lemmas.List.Elements.{All-nil, All-cons}
use Rattle.cga_lexer.specs.Line.{tokens_of, Lexed}
use Rattle.cga_lexer.specs.declared.token.Token.{Token}
use Rattle.cga_rule.specs.declared.grammar.Entry.{Entry}
use Rattle.cga_rule.specs.declared.grammar.Grammar.{Grammar}
use Rattle.cga_rule.specs.declared.rule.Rule.{Rule}
use Rattle.cga_syntax.specs.GrammarText.{ArePrintable}
use Rattle.cga_syntax.specs.Pieces.{Pieces, rule_pieces}
use Rattle.cga_syntax.specs.Printing.{printed, HaveTexts}
use Rattle.cga_parser.specs.declared.block_line.BlockLine.{BlockLine}
use Rattle.cga_parser.specs.declared.block_line.BlockLine.TheVariants as line
use Rattle.cga_form.specs.declared.fault.Fault.{Fault}
use Rattle.cga_form.specs.declared.line_fault.LineFault.{LineFault}
use Rattle.cga_form.specs.Tells.{Tells}
use Rattle.cga_parser.specs.PrintedRules.{few_brackets, SpellsRule}
use Rattle.cga_form.specs.Lines.{Line, is_long}
use Rattle.cga_form.specs.BlockTells.{Found, as_line, unless_blank, unless_long, Say}
use Rattle.cga_parser.specs.BlockTells.{BlockTells, entries_from, GrammarTells}
use Rattle.cga_parser.specs.Blocks.{block_pieces}
use Rattle.cga_form.specs.Cursor.{seen}
use Rattle.cga_form.specs.LineTells.{with_place, by_tokens, by_length, LineTells}
use Rattle.cga_parser.proofs.ReadBack.{rule_back}
use Rattle.cga_fraction.proofs.Door.{same_Ok}

-- ---- a rule

module _ {A : Type 0} (w : A → Pieces) (a : A) where
  placed_value : (end : ℕ) (ts : List Token) (found : Result A Fault)
      → ◌≡◌ {A = Result A LineFault} (Ok a) (with_place end ts found) → Tells w 32 (map seen ts) found
      → Tells w 32 (map seen ts) (Ok a)
  placed_value end ts (Ok b) e h = subst (λ z. Tells w 32 (map seen ts) (Ok z)) (sym (same_Ok a b e)) h
  placed_value end ts (Err f) e h = absurd (cc)

from_tokens : (r : Rule) (end : ℕ) (o : Lexed) → by_tokens rule_pieces end o (Ok r) → few_brackets o r
from_tokens r end (Ok ts) h = let a = placed_value rule_pieces r end ts h.0 h.2 h.1 in (a.0, (32, a.1))
from_tokens r end (Err f) h = absurd (cc)

from_length : (r : Rule) (bytes : List ℕ) (long : Bool) → by_length rule_pieces bytes long (Ok r)
    → few_brackets (tokens_of bytes) r
from_length r bytes true h = absurd (cc)
from_length r bytes false h = from_tokens r (length bytes + 1) (tokens_of bytes) h

pub parsed_spells : (bytes : List ℕ) (r : Rule) → LineTells rule_pieces bytes (Ok r) → SpellsRule bytes r
parsed_spells bytes r h = from_length r bytes (nat_lt 4096 (length bytes)) h

pub parsed_prints : (bytes : List ℕ) (r : Rule) → LineTells rule_pieces bytes (Ok r)
    → HaveTexts (printed (rule_pieces r))
parsed_prints bytes r h = (rule_back bytes r (parsed_spells bytes r h)).0

-- ---- a grammar

some_line : (said b : BlockLine) → ◌≡◌ {A = Found BlockLine} (Ok (Some said)) (Ok (Some b)) → b ≡ said
some_line said b h = cc

-- the line's tokens say it
abbrev pub says_by : Lexed → BlockLine → Type 0
says_by (Ok ts) b = Tells block_pieces 32 (map seen ts) (Ok b)
says_by (Err f) b = ⊥

block_tokens : (b : BlockLine) (end : ℕ) (t : Token) (ts : List Token) (found : Result BlockLine LineFault)
    → by_tokens block_pieces end (Ok (t ∷ ts)) found → ◌≡◌ {A = Found BlockLine} (Ok (Some b)) (as_line found)
    → says_by (Ok (t ∷ ts)) b
block_tokens b end t ts (Ok said) h e =
    let q : said ≡ b = some_line b said e in
    let g : by_tokens block_pieces end (Ok (t ∷ ts)) (Ok b) = subst (λ z. by_tokens block_pieces end (Ok (t ∷ ts)) (Ok z)) q h in
    placed_value block_pieces b end (t ∷ ts) g.0 g.2 g.1
block_tokens b end t ts (Err f) h e = absurd (cc)

block_blank : (b : BlockLine) (end : ℕ) (o : Lexed) → unless_blank block_pieces end o (Ok (Some b)) → says_by o b
block_blank b end (Err f) h = absurd (cc)
block_blank b end (Ok []) h = absurd (let q : Some b ≡ None = cc in cc)
block_blank b end (Ok (t ∷ ts)) h = block_tokens b end t ts h.0 h.1 h.2

block_long : (b : BlockLine) (bytes : List ℕ) (long : Bool) → unless_long block_pieces bytes long (Ok (Some b))
    → says_by (tokens_of bytes) b
block_long b bytes true h = absurd (cc)
block_long b bytes false h = block_blank b (length bytes + 1) (tokens_of bytes) h

pub line_says : (b : BlockLine) (l : Line) → BlockTells l (Ok (Some b)) → says_by (tokens_of l.bytes) b
line_says b l h = block_long b l.bytes (is_long l) h

rule_few : (r : Rule) (o : Lexed) → says_by o (line.Rule r) → few_brackets o r
rule_few r (Ok ts) h = (h.0, (32, h.1))
rule_few r (Err f) h = absurd h

pub line_prints : (l : Line) (r : Rule) → BlockTells l (Ok (Some (line.Rule r))) → HaveTexts (printed (rule_pieces r))
line_prints l r h = (rule_back l.bytes r (rule_few r (tokens_of l.bytes) (line_says (line.Rule r) l h))).0

lines_print : (priority : ℕ) (lines : List Line) (all : List (Option BlockLine)) → Say block_pieces lines all
    → ArePrintable (entries_from priority all)
unfolding Say entries_from
lines_print p [] [] h = All-nil (λ (e : Entry). HaveTexts (printed (rule_pieces e.rule)))
lines_print p (l ∷ ls) [] h = absurd h
lines_print p [] (said ∷ all) h = absurd h
lines_print p (l ∷ ls) (None ∷ all) h = lines_print p ls all h.1
lines_print p (l ∷ ls) (Some (line.Attribute a) ∷ all) h = lines_print p ls all h.1
lines_print p (l ∷ ls) (Some (line.Priority q) ∷ all) h = lines_print q ls all h.1
lines_print p (l ∷ ls) (Some line.End ∷ all) h = lines_print p ls all h.1
lines_print p (l ∷ ls) (Some (line.Rule r) ∷ all) h =
    All-cons (λ (e : Entry). HaveTexts (printed (rule_pieces e.rule))) (record { priority = p; rule = r }) (entries_from p all) (line_prints l r h.0) (lines_print p ls all h.1)

-- the rules of a grammar that lines tell may be printed
pub grammar_prints : (lines : List Line) (grammar : Grammar) → GrammarTells lines (Ok grammar)
    → ArePrintable grammar.rules
grammar_prints lines grammar h = subst (λ (g : Grammar). ArePrintable g.rules) (sym h.2) (lines_print 1 lines h.0 h.1)
