-- The text of a dump, and where there is none.
use Rattle.std.specs.Prelude.{ℕ, ◌^◌, ◌∷◌, List, [], ◌++◌, length, nat_lt, flat_map, Option, Some, None, Result, Ok, Err, codes, decimal, if◌then◌else◌}
use Rattle.cga_fraction.specs.Rat.{Rat}
use Rattle.cga_fraction.specs.Texts.{exact_text_of}
use Rattle.cga_rule.specs.declared.grammar.Entry.{Entry}
use Rattle.cga_rule.specs.declared.grammar.Grammar.{Grammar}
use Rattle.cga_rule.specs.declared.rule.Rule.{Rule}
use Rattle.cga_syntax.specs.GrammarText.{line, attribute_lines, each_from, section_at}
use Rattle.cga_syntax.specs.Least.{least}
use Rattle.cga_syntax.specs.Pieces.{rule_pieces}
use Rattle.cga_syntax.specs.Printing.{printed, text_of}
use Rattle.cga_form.specs.Limits.{line_limit}
use Rattle.cga_shape.specs.declared.lot.Lot.{Lot}
use Rattle.cga_shape.specs.declared.sources.Sources.{Sources}
use Rattle.cga_word.specs.declared.mode.Mode.{Mode}
use Rattle.cga_script.specs.declared.long_dump.LongDump.{LongDump}
use Rattle.cga_script.specs.Orders.{mode_word}

-- ---- the lines

-- the text of a rule
abbrev pub rule_text : Rule → List ℕ
rule_text r = text_of (printed (rule_pieces r))

abbrev pub order_text : Mode → List ℕ
order_text m = codes "order " ++ mode_word m

-- a value, exactly
abbrev pub value_text : Rat → List ℕ
value_text v = codes " " ++ exact_text_of v

abbrev pub lot_head : Lot → List ℕ
lot_head l = codes "lot " ++ (l.name ++ (codes " " ++ decimal l.seed))

abbrev pub ground_text : Lot → List ℕ
ground_text l = value_text l.x ++ (value_text l.z ++ (value_text l.width ++ value_text l.depth))

-- name, seed, the four values and the symbol
abbrev pub lot_text : Lot → List ℕ
lot_text l = lot_head l ++ (ground_text l ++ (codes " " ++ l.symbol))

unfoldable pub lot_line : Lot → List ℕ
lot_line l = line (lot_text l)

-- the attributes, then each priority with its rules
abbrev pub grammar_lines : Grammar → List ℕ
grammar_lines g = attribute_lines g.attributes ++ each_from (section_at g.rules) 0 (2 ^ 16)

unfoldable pub dump_text_of : Sources → List ℕ
dump_text_of s =
    codes "version 2\ncity\n" ++ (line (order_text s.mode) ++ (grammar_lines s.grammar ++ (flat_map lot_line s.lots ++ codes "end\n")))

-- ---- rules that are too long for a line

-- the ids of those, in the list's order
unfoldable pub long_ids : List Entry → List ℕ
long_ids [] = []
long_ids (e ∷ es) = if nat_lt line_limit (length (rule_text e.rule)) then e.rule.id ∷ long_ids es else long_ids es

-- the least of them
abbrev pub least_long : List Entry → Option ℕ
least_long es = least 0 None (long_ids es)

-- ---- the dump

abbrev pub unless_long : Option ℕ → List ℕ → Result (List ℕ) LongDump
unless_long None text = Ok text
unless_long (Some id) text = Err (record { id = id })

-- the text, or the least id of a rule whose text is too long for a line
abbrev pub dump_of : Sources → Result (List ℕ) LongDump
dump_of s = unless_long (least_long s.grammar.rules) (dump_text_of s)
