-- What a line does that isn't the first one any more, and one before which only blank lines came.
use Rattle.std.proofs.Common.{◌≡◌, ℕ, List, [], ◌∷◌, Bool, true, false, ◌&&◌, Option, Some, None, Result, Ok, Err, refl, sym, ap, ◌∙◌}
use Rattle.std.specs.Prelude.{if◌then◌else◌}
use Rattle.cga_form.specs.declared.line_fault.LineFault.{LineFault}
use Rattle.cga_script.specs.Ends.{is_end_line, is_version_line}
use Rattle.cga_script.specs.Lines.{Line}
use Rattle.cga_script.specs.declared.script_command.ScriptCommand.{ScriptCommand}
use Rattle.cga_script.specs.declared.version.Version.{Version}
use Rattle.cga_script.specs.declared.version.Version.TheVariants.{One, Two}
use Rattle.cga_top.specs.Effect.{Effect, silent}
use Rattle.cga_top.specs.Output.{effect_of_all}
use Rattle.cga_top.specs.Replies.{opened, done_by, is_blank, begun, asked, second, outside, ended, with_line, effect_by, effect}
use Rattle.cga_top.specs.State.{Block, State, start}
use Rattle.cga_top.specs.Told.{command_of}
use Rattle.cga_laws.specs.Undos.{state_after}
use Rattle.cga_laws.proofs.Commands.{Opens, stays, opens, done_opens, ended_stays}

-- where only blank lines came the version is 1
abbrev IsEarly : State → Type 0
IsEarly s = s.fresh ≡ true → s.version ≡ One

late : (s : State) → s.fresh ≡ false → IsEarly s
late s e h = absurd (let bad : false ≡ true = sym e ∙ h in cc)

either_early : (b : Bool) (e f : Effect) → IsEarly e.state → IsEarly f.state → IsEarly (if b then e else f).state
either_early true e f h k = h
either_early false e f h k = k

opens_late : (t : State) (e : Effect) → t.fresh ≡ false → Opens t e → e.state.fresh ≡ false
opens_late t e h (stays k) = k.fresh ∙ h
opens_late t e h (opens block q) = ap (λ (x : Effect). x.state.fresh) q ∙ h

module _ (s : State) (is : IsEarly s) where
  asked_early : (told : Result ScriptCommand LineFault) → IsEarly (asked s told).state
  asked_early (Ok command) =
      either_early (is_blank command) (silent s) (done_by (begun s) command) is (late (done_by (begun s) command).state (opens_late (begun s) _ refl (done_opens (begun s) command)))
  asked_early (Err fault) = late (begun s) refl

  outside_early : (line : Line) → IsEarly (outside s line).state
  outside_early line =
      either_early (s.fresh && is_version_line line) (second s) (asked s (command_of s.version line)) (late (second s).state refl) (asked_early (command_of s.version line))

  ended_early : (block : Block) → IsEarly (ended (record s { block = None }) block).state
  ended_early block h =
      let k = ended_stays (record s { block = None }) block in k.version ∙ is (sym k.fresh ∙ h)

  effect_early : (o : Option Block) (line : Line) → IsEarly (effect_by o s line).state
  effect_early None line = outside_early line
  effect_early (Some block) line = either_early (is_end_line line) (ended (record s { block = None }) block) (opened s (with_line block line)) (ended_early block) is

lines_early : (s : State) (lines : List Line) → IsEarly s → IsEarly (effect_of_all s lines).state
unfolding effect_of_all effect
lines_early s [] is = is
lines_early s (line ∷ lines) is = lines_early (effect s line).state lines (effect_early s is s.block line)

one_not_two : One ≡ Two → ⊥
one_not_two e = cc

fresh_by : (b : Bool) (v : Version) → (b ≡ true → v ≡ One) → v ≡ Two → b ≡ false
fresh_by true v early two = absurd (one_not_two (sym (early refl) ∙ two))
fresh_by false v early two = refl

-- a script of version 2 has begun
pub second_late : (decimals : ℕ) (lines : List Line) → (state_after decimals lines).version ≡ Two
    → (state_after decimals lines).fresh ≡ false
second_late decimals lines two =
    let s = state_after decimals lines in
    fresh_by s.fresh s.version (lines_early (start decimals) lines (λ h. refl)) two
