-- What was read may be printed.
use Rattle.std.proofs.Common.{◌≡◌, ℕ, ◌+◌, ◌&&◌, nat_le, Bool, true, false, List, ◌∷◌, length, map, Ok, Err, refl, ap, subst, codes, if◌then◌else◌}
use Rattle.cga_lexer.specs.Line.{Lexed, tokens_of}
use Rattle.cga_rule.specs.declared.rule.Rule.{Rule}
use Rattle.cga_syntax.specs.GrammarText.{ArePrintable}
use Rattle.cga_syntax.specs.Pieces.{Pieces, token, never, number, word, whole, rule_pieces, Writes}
use Rattle.cga_syntax.specs.Reading.{AreTokens}
use Rattle.cga_syntax.specs.declared.lexeme.Lexeme.{Lexeme}
use Rattle.cga_syntax.specs.declared.lexeme.Lexeme.TheVariants as lexeme
use Rattle.cga_syntax.specs.declared.print.space.Space.TheVariants.{Usual}
use Rattle.cga_syntax.specs.Printing.{printed, HaveTexts}
use Rattle.cga_form.proofs.Door.{head_of, never_written}
use Rattle.cga_parser.proofs.Door.{grammar_prints}
use Rattle.cga_syntax.proofs.Door.{again, have_texts, line_tokens}
use Rattle.cga_form.specs.Cursor.{seen}
use Rattle.cga_form.specs.LineTells.{by_tokens, by_length}
use Rattle.cga_form.specs.Lines.{Line, is_long}
use Rattle.cga_shape.specs.declared.edit.Edit.TheVariants as edit
use Rattle.cga_shape.specs.declared.sources.Sources.{Sources}
use Rattle.cga_script.specs.declared.script_command.ScriptCommand.{ScriptCommand}
use Rattle.cga_script.specs.declared.script_command.ScriptCommand.TheVariants as c
use Rattle.cga_script.specs.declared.version.Version.{Version}
use Rattle.cga_script.specs.Commands.{command_pieces, CommandTells}
use Rattle.cga_script.specs.CityLines.{rules_part, CityTells}
use Rattle.cga_script.proofs.Said.{rule_lines, tokens_tell}

-- ---- a rule that is put

-- the tokens after the first word and the priority
after_priority : (p : ℕ) (ps : Pieces) (x : List Lexeme) (d : ℕ) (t : Bool) → AreTokens x
    → Writes 0 ((if t then token Usual (number p) else never) ∷ ps) x d → HaveTexts (printed ps)
after_priority p ps x d true t w =
    let h = head_of 0 Usual (number p) ps x d w in
    have_texts (printed ps) (again 0 ps h.0 d (subst AreTokens h.1 t).1 h.2).tokens
after_priority p ps x d false t w = absurd (never_written 0 ps x d w)

put_written : (p : ℕ) (r : Rule) (x : List Lexeme) (d : ℕ) → AreTokens x
    → Writes 0 (word (codes "put") ∷ whole 0 65535 p ∷ rule_pieces r) x d → HaveTexts (printed (rule_pieces r))
put_written p r x d t w =
    let h = head_of 0 Usual (lexeme.Name (codes "put")) (whole 0 65535 p ∷ rule_pieces r) x d w in
    after_priority p (rule_pieces r) h.0 d (nat_le 0 p && nat_le p 65535) (subst AreTokens h.1 t).1 h.2

abbrev put : ℕ → Rule → ScriptCommand
put p r = c.Change (edit.Put p r)

put_lexed : (v : Version) (p : ℕ) (r : Rule) (bytes : List ℕ) (o : Lexed) → tokens_of bytes ≡ o
    → by_tokens (command_pieces v) (length bytes + 1) o (Ok (put p r)) → HaveTexts (printed (rule_pieces r))
put_lexed v p r bytes (Err f) e h = absurd (cc)
put_lexed v p r bytes (Ok ts) e h =
    let t = tokens_tell (command_pieces v) (put p r) (length bytes + 1) ts h in
    put_written p r (map seen ts) t.0.0 (line_tokens bytes ts e) t.0.1

put_by : (v : Version) (p : ℕ) (r : Rule) (bytes : List ℕ) (long : Bool)
    → by_length (command_pieces v) bytes long (Ok (put p r)) → HaveTexts (printed (rule_pieces r))
put_by v p r bytes true h = absurd (cc)
put_by v p r bytes false h = put_lexed v p r bytes (tokens_of bytes) refl h

-- where a line tells that a rule is put, each number that the rule is printed with has a text
pub put_prints : (v : Version) (l : Line) (p : ℕ) (r : Rule) → CommandTells v l (Ok (put p r))
    → HaveTexts (printed (rule_pieces r))
put_prints v l p r h = put_by v p r l.bytes (is_long l) h

-- ---- a whole city

-- where lines tell sources, each rule of their grammar may be printed
pub city_prints : (lines : List Line) (s : Sources) → CityTells lines (Ok s) → ArePrintable s.grammar.rules
city_prints lines s h =
    let ls = rule_lines lines h.0 h.1 in
    grammar_prints ls.0 s.grammar (map rules_part h.0, ls.1, ap (λ (z : Sources). z.grammar) h.2)
