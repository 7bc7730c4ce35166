-- What lines tell, by how their forms are read.
use Rattle.std.specs.Prelude.{ℕ, suc, ◌+◌, List, [], ◌∷◌, length, map, Option, None, Result, Ok, Err, if◌then◌else◌}
use Rattle.cga_fraction.specs.Results.{and_then}
use Rattle.cga_lexer.specs.Line.{tokens_of}
use Rattle.cga_lexer.specs.declared.token.Token.{Token}
use Rattle.cga_lexer.specs.declared.fault.LexFault.{LexFault}
use Rattle.cga_form.specs.declared.fault.Fault.{Fault}
use Rattle.cga_form.specs.declared.line_fault.LineFault.{LineFault}
use Rattle.cga_form.specs.declared.line_fault.LineFault.TheVariants.{LineTooLong}
use Rattle.cga_form.specs.declared.block_fault.BlockFault.{BlockFault}
use Rattle.cga_form.specs.BlockTells.{Found, as_line, line_number}
use Rattle.cga_form.specs.Cursor.{seen}
use Rattle.cga_form.specs.Limits.{most_open}
use Rattle.cga_form.specs.Lines.{Line, is_long}
use Rattle.cga_form.specs.LineTells.{lexed, with_place}
use Rattle.cga_form.specs.Parts.{complete}
use Rattle.cga_form.specs.Reader.{Reader, ReadResult, at}
use Rattle.cga_parser.specs.BlockTells.{grammar_of}
use Rattle.cga_parser.specs.Blocks.{block}
use Rattle.cga_shape.specs.declared.edit.Edit.{Edit}
use Rattle.cga_shape.specs.declared.edit.Edit.TheVariants as edit
use Rattle.cga_rule.specs.declared.grammar.Grammar.{Grammar}
use Rattle.cga_shape.specs.declared.sources.Sources.{Sources}
use Rattle.cga_script.specs.CityLines.{city, sources_of}
use Rattle.cga_script.specs.Commands.{command}
use Rattle.cga_script.specs.declared.script_command.ScriptCommand.{ScriptCommand}
use Rattle.cga_script.specs.declared.version.Version.{Version}

-- what was read, without what is left
abbrev pub read_of : {A : Type 0} → ReadResult A → Result A Fault
read_of (Ok p) = Ok p.0
read_of (Err fault) = Err fault

-- what the tokens of a line are read as, to its end
abbrev pub told_of : {A : Type 0} → Reader A → ℕ → Result (List Token) LexFault → Result A LineFault
told_of reader end (Err fault) = Err (lexed fault)
told_of reader end (Ok tokens) = with_place end tokens (read_of (complete reader (at (map seen tokens) 0)))

-- what a line tells
unfoldable pub line_told : {A : Type 0} → Reader A → Line → Result A LineFault
line_told reader line = if is_long line then Err LineTooLong else told_of reader (length line.bytes + 1) (tokens_of line.bytes)

-- ---- blocks

-- what a line of a block tells: nothing if it has no tokens
abbrev pub found_of : {A : Type 0} → Reader A → ℕ → Result (List Token) LexFault → Found A
found_of reader end (Ok []) = Ok None
found_of reader end (Ok (t ∷ ts)) = as_line (told_of reader end (Ok (t ∷ ts)))
found_of reader end (Err fault) = Err (lexed fault)

unfoldable pub line_found : {A : Type 0} → Reader A → Line → Found A
line_found reader line = if is_long line then Err LineTooLong else found_of reader (length line.bytes + 1) (tokens_of line.bytes)

-- with the number of the line, where it is faulty
abbrev pub at_line : {A : Type 0} → ℕ → Result A LineFault → Result A BlockFault
at_line n (Ok said) = Ok said
at_line n (Err fault) = Err (record { line = line_number n; fault = fault })

-- what each of the lines says, or the first faulty one, where they are numbered from this number on
unfoldable pub lines_found : {A : Type 0} → Reader A → ℕ → List Line → Result (List (Option A)) BlockFault
lines_found reader n [] = Ok []
lines_found reader n (line ∷ lines) =
    and_then (at_line n (line_found reader line)) (λ said.
    and_then (lines_found reader (suc n) lines) (λ more. Ok (said ∷ more)))

-- what the lines of a block say together
unfoldable pub block_told : {A B : Type 0} → Reader A → (List (Option A) → B) → List Line → Result B BlockFault
block_told reader says lines = and_then (lines_found reader 1 lines) (λ all. Ok (says all))

-- ---- the lines of a script

-- what a line outside a block asks for
abbrev pub command_of : Version → Line → Result ScriptCommand LineFault
command_of version line = line_told (command version most_open) line

-- the grammar that a block of rules says, or its first faulty line
abbrev pub rules_of : List Line → Result Grammar BlockFault
rules_of lines = block_told (block most_open) grammar_of lines

-- the sources that a block of a whole city says, or its first faulty line
abbrev pub city_of : List Line → Result Sources BlockFault
city_of lines = block_told (city most_open) sources_of lines

-- the edits that they make
abbrev pub grammar_told : List Line → Result Edit BlockFault
grammar_told lines = and_then (rules_of lines) (λ grammar. Ok (edit.Rules grammar))

abbrev pub sources_told : List Line → Result Edit BlockFault
sources_told lines = and_then (city_of lines) (λ sources. Ok (edit.Whole sources))
