-- A command that is refused changes nothing.
use Rattle.std.specs.Prelude.{◌≡◌, ◌++◌, ◌&&◌, ◌||◌, ℕ, List, [], ◌∷◌, Bool, false, Result, Ok, Err, IsTrue, IsFalse}
use Rattle.cga_form.specs.declared.line_fault.LineFault.{LineFault}
use Rattle.cga_script.specs.Ends.{is_version_line}
use Rattle.cga_script.specs.Lines.{Line}
use Rattle.cga_script.specs.Refusals.{refusal_text_of}
use Rattle.cga_script.specs.declared.refused.Refused.{Refused}
use Rattle.cga_script.specs.declared.script_command.ScriptCommand.{ScriptCommand}
use Rattle.cga_script.specs.declared.version.Version.{Version}
use Rattle.cga_top.specs.Output.{effect_of_all}
use Rattle.cga_top.specs.Replies.{begun, is_blank}
use Rattle.cga_top.specs.State.{State}
use Rattle.cga_top.specs.Told.{command_of}
use Rattle.cga_laws.specs.Scripts.{IsCommand, behind, replies_to}
use Rattle.cga_laws.specs.Undos.{state_after}

-- its reply is the text of a refusal
abbrev pub IsRefusedFor : Refused → State → List Line → Type 0
IsRefusedFor cause s command = (effect_of_all s command).reply ≡ refusal_text_of cause

abbrev pub is_blank_told : Result ScriptCommand LineFault → Bool
is_blank_told (Ok command) = is_blank command
is_blank_told (Err fault) = false

-- of the lines that aren't blank the first is `version 2`
abbrev pub begins_two : Version → List Line → Bool
begins_two version [] = false
begins_two version (line ∷ lines) = is_version_line line || (is_blank_told (command_of version line) && begins_two version lines)

-- the script is replied to as without the command, with the refusal's text put in; what comes behind it asks for the same
-- works, and comes to the same state, but that a line has come which isn't blank
pub record IsAsWithout (decimals : ℕ) (before command after : List Line) (cause : Refused) : Type 0 where
  pub replies : replies_to decimals (before ++ (command ++ after)) ≡
      replies_to decimals before ++ (refusal_text_of cause ++ (behind decimals before after).reply)
  pub without : replies_to decimals (before ++ after) ≡
      replies_to decimals before ++ (behind decimals before after).reply
  pub works : (behind decimals (before ++ command) after).works ≡ (behind decimals before after).works
  pub state : begun (behind decimals (before ++ command) after).state ≡ begun (behind decimals before after).state

-- A refused command changes nothing. Only where it is the first line that isn't blank, the script can't become one of
-- version 2 any more: so `version 2` isn't the first such line behind it.
abbrev pub RefusalsChangeNothing : Type 0
RefusalsChangeNothing =
    (decimals : ℕ) (before command after : List Line) (cause : Refused)
    → let s = state_after decimals before in
    IsCommand s command → IsRefusedFor cause s command → (IsTrue s.fresh → IsFalse (begins_two s.version after))
    → IsAsWithout decimals before command after cause
