-- What lines tell is what the definition of the output takes them for, and is such as lines write.
use Rattle.std.proofs.Common.{◌≡◌, refl, sym, subst, ℕ, ◌+◌, List, [], ◌∷◌, map, length, Bool, true, false, Result, Ok, Err}
use Rattle.std.specs.Prelude.{bytes_eq}
use Rattle.cga_lexer.specs.Line.{Lexed, tokens_of}
use Rattle.cga_syntax.specs.Pieces.{Pieces, never, Writes}
use Rattle.cga_syntax.specs.declared.lexeme.Lexeme.{Lexeme}
use Rattle.cga_form.specs.declared.block_fault.BlockFault.{BlockFault}
use Rattle.cga_form.specs.declared.line_fault.LineFault.{LineFault}
use Rattle.cga_form.specs.Cursor.{seen}
use Rattle.cga_form.specs.LineTells.{by_length, by_tokens}
use Rattle.cga_form.specs.Lines.{Line, is_long}
use Rattle.cga_form.proofs.Door.{form_unique, never_written, once_lines}
use Rattle.cga_parser.proofs.Door.{block_form, grammar_prints}
use Rattle.cga_script.proofs.Door.{city_form, city_prints, command_form, one_command, put_prints, tokens_tell}
use Rattle.cga_parser.specs.Blocks.{block_pieces, block}
use Rattle.cga_parser.specs.BlockTells.{GrammarTells, grammar_of}
use Rattle.cga_rule.specs.declared.grammar.Grammar.{Grammar}
use Rattle.cga_shape.specs.declared.edit.Edit.{Edit}
use Rattle.cga_shape.specs.declared.edit.Edit.TheVariants as edit
use Rattle.cga_shape.specs.declared.sources.Sources.{Sources}
use Rattle.std.specs.List.{IsDistinct}
use Rattle.cga_city.specs.Lots.{names_of}
use Rattle.cga_script.specs.declared.script_command.ScriptCommand.{ScriptCommand}
use Rattle.cga_script.specs.declared.script_command.ScriptCommand.TheVariants as c
use Rattle.cga_script.specs.declared.version.Version.{Version}
use Rattle.cga_script.specs.Commands.{command_pieces, command, CommandTells}
use Rattle.cga_script.specs.CityLines.{CityTells, city_pieces, city, sources_of}
use Rattle.cga_top.specs.Told.{command_of, rules_of, city_of}
use Rattle.cga_top.specs.Written.{IsWritten, AsksWritten}
use Rattle.cga_top.proofs.Told.{line_tells, block_tells}
use Rattle.cga_top.proofs.Apart.{lots_differ}

-- ---- what lines tell

-- A line tells its command.
pub command_told : (v : Version) (line : Line) → CommandTells v line (command_of v line)
command_told v line = line_tells (command_pieces v) (command v) (command_form v) line

pub command_is : (v : Version) (line : Line) (told : Result ScriptCommand LineFault) → CommandTells v line told
    → told ≡ command_of v line
command_is v line told h = one_command v line told (command_of v line) h (command_told v line)

-- The lines of a block of rules tell its grammar.
pub rules_told : (lines : List Line) → GrammarTells lines (rules_of lines)
rules_told lines = block_tells block_pieces block block_form grammar_of lines

pub rules_is : (lines : List Line) (told : Result Grammar BlockFault) → GrammarTells lines told → told ≡ rules_of lines
rules_is lines told h = once_lines block_pieces (form_unique block_pieces block block_form) grammar_of lines told (rules_of lines) h (rules_told lines)

-- The lines of a city block tell that value.
pub city_told : (lines : List Line) → CityTells lines (city_of lines)
city_told lines = block_tells city_pieces city city_form sources_of lines

-- What the lines of a city block tell is one value.
pub city_is : (lines : List Line) (told : Result Sources BlockFault) → CityTells lines told → told ≡ city_of lines
city_is lines told h = once_lines city_pieces (form_unique city_pieces city city_form) sources_of lines told (city_of lines) h (city_told lines)

-- ---- no line writes it

never_spelled : (w : Pieces) (text : List Lexeme) (d : ℕ) → w ≡ never ∷ [] → Writes 0 w text d → ⊥
never_spelled w text d e h = never_written 0 [] text d (subst (λ (p : Pieces). Writes 0 p text d) e h)

never_lexed : (v : Version) (a : ScriptCommand) (end : ℕ) (o : Lexed) → command_pieces v a ≡ never ∷ []
    → by_tokens (command_pieces v) end o (Ok a) → ⊥
never_lexed v a end (Err f) e h = absurd (cc)
never_lexed v a end (Ok ts) e h = let t = tokens_tell (command_pieces v) a end ts h in never_spelled (command_pieces v a) (map seen ts) t.0.0 e t.0.1

never_told : (v : Version) (a : ScriptCommand) (bytes : List ℕ) (long : Bool) → command_pieces v a ≡ never ∷ []
    → by_length (command_pieces v) bytes long (Ok a) → ⊥
never_told v a bytes true e h = absurd (cc)
never_told v a bytes false e h = never_lexed v a (length bytes + 1) (tokens_of bytes) e h

-- ---- what was read can be printed

asks_edit : (v : Version) (line : Line) (e : Edit) → CommandTells v line (Ok (c.Change e)) → IsWritten e
asks_edit v line (edit.Rules g) h = absurd (never_told v (c.Change (edit.Rules g)) line.bytes (is_long line) refl h)
asks_edit v line (edit.Put p r) h = put_prints v line p r h
asks_edit v line (edit.Drop id) h = tt
asks_edit v line (edit.SetAttribute name value) h = tt
asks_edit v line (edit.SetPriority symbol priority) h = tt
asks_edit v line (edit.SetLot lot) h = tt
asks_edit v line (edit.Unlot name) h = tt
asks_edit v line (edit.SetOrder mode) h = tt
asks_edit v line (edit.Whole s) h = absurd (never_told v (c.Change (edit.Whole s)) line.bytes (is_long line) refl h)

-- A command that a line tells has its sources written out.
pub asks_written : (v : Version) (line : Line) (a : ScriptCommand) → CommandTells v line (Ok a) → AsksWritten a
asks_written v line (c.Change e) h = asks_edit v line e h
asks_written v line _ h = tt

pub rules_written : (lines : List Line) (g : Grammar) → GrammarTells lines (Ok g) → IsWritten (edit.Rules g)
rules_written lines g h = grammar_prints lines g h

-- The sources that a city block tells are written out.
pub city_written : (lines : List Line) (s : Sources) → CityTells lines (Ok s) → IsWritten (edit.Whole s)
city_written lines s h = record { printable = city_prints lines s h; names = subst (λ (x : Sources). IsDistinct bytes_eq (names_of x.lots)) (sym h.2) (lots_differ h.0) }
