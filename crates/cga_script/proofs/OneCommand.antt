-- What a line tells of commands: one thing.
use Rattle.std.proofs.Common.{◌≡◌, ℕ, ◌+◌, ◌||◌, nat_lt, Bool, true, false, List, length, Result, Ok, Err, IfOk, sym, ◌∙◌, subst}
use Rattle.cga_lexer.specs.Line.{tokens_of}
use Rattle.cga_form.specs.declared.line_fault.LineFault.{LineFault}
use Rattle.cga_form.specs.LineTells.{by_length, LineTells}
use Rattle.cga_form.specs.Lines.{Line, is_long}
use Rattle.cga_form.proofs.Door.{form_unique, once_tokens}
use Rattle.cga_script.specs.declared.script_command.ScriptCommand.{ScriptCommand}
use Rattle.cga_script.specs.declared.version.Version.{Version}
use Rattle.cga_script.specs.Commands.{command_pieces, command, CommandTells}
use Rattle.cga_script.proofs.Commands.{command_form}

by_its_length : (v : Version) (bytes : List ℕ) (long : Bool) (a b : Result ScriptCommand LineFault)
    → by_length (command_pieces v) bytes long a → by_length (command_pieces v) bytes long b → a ≡ b
by_its_length v bytes true a b h k = h ∙ sym k
by_its_length v bytes false a b h k = once_tokens (command_pieces v) (form_unique (command_pieces v) (command v) (command_form v)) (length bytes + 1) (tokens_of bytes) a b h k

-- two results that a line tells in one version are equal
pub one_command : (v : Version) (line : Line) (a b : Result ScriptCommand LineFault) → CommandTells v line a
    → CommandTells v line b → a ≡ b
one_command v line a b h k = by_its_length v line.bytes (is_long line) a b h k

-- a line that isn't said to be long, as its bytes tell
pub as_given : {E : Type 0} (v : Version) (bytes : List ℕ) (long : Bool) (r : Result (Result ScriptCommand LineFault) E)
    → long ≡ false → IfOk r (λ told. LineTells (command_pieces v) bytes told) →
    IfOk r (λ told. CommandTells v (record { bytes = bytes; long = long }) told)
as_given v bytes long (Ok told) e h = subst (λ z. by_length (command_pieces v) bytes (z || nat_lt 4096 (length bytes)) told) (sym e) h
as_given v bytes long (Err f) e h = tt
