-- A command that is refused changes nothing.
use Rattle.std.proofs.Common.{◌≡◌, ℕ, List, [], ◌∷◌, ◌++◌, get_or, Bool, true, false, ◌&&◌, ◌||◌, Option, Some, None, Result, Ok, Err, refl, sym, ap, subst, ◌∙◌, arith}
use Rattle.std.specs.Prelude.{is_some, if◌then◌else◌}
use Rattle.cga_asset.specs.Lines.{asset_of}
use Rattle.cga_asset.specs.Wardrobe.{WardrobeView, dressed, has, undressed, with_asset}
use Rattle.cga_asset.specs.declared.fault.AssetFault.{AssetFault}
use Rattle.cga_asset.specs.declared.too_large.ModelTooLarge.{ModelTooLarge}
use Rattle.cga_asset.specs.declared.wardrobe_fault.WardrobeFault.{WardrobeFault}
use Rattle.cga_city.specs.Lots.{lot_place, names_of}
use Rattle.cga_form.specs.declared.block_fault.BlockFault.{BlockFault}
use Rattle.cga_form.specs.declared.line_fault.LineFault.{LineFault}
use Rattle.cga_script.specs.Dumps.{dump_of}
use Rattle.cga_script.specs.Ends.{is_version_line}
use Rattle.cga_script.specs.Lines.{Line}
use Rattle.cga_script.specs.Refusals.{refusal_text_of}
use Rattle.cga_script.specs.declared.long_dump.LongDump.{LongDump}
use Rattle.cga_script.specs.declared.refused.Refused.{Refused}
use Rattle.cga_script.specs.declared.refused.Refused.TheVariants as refused
use Rattle.cga_script.specs.declared.script_command.ScriptCommand.{ScriptCommand}
use Rattle.cga_script.specs.declared.script_command.ScriptCommand.TheVariants as c
use Rattle.cga_shape.specs.declared.edit.Edit.{Edit}
use Rattle.cga_shape.specs.declared.edit.Edit.TheVariants as edit
use Rattle.cga_shape.specs.declared.edit_refused.EditRefused.{EditRefused}
use Rattle.cga_shape.specs.declared.sources.Sources.{Sources}
use Rattle.cga_solid.specs.declared.solid_mesh.SolidMesh.{SolidMesh}
use Rattle.cga_top.proofs.Door.{all_append, all_more, all_none}
use Rattle.cga_top.specs.Effect.{Effect, followed_by, silent}
use Rattle.cga_top.specs.Output.{effect_of_all}
use Rattle.cga_top.specs.Replies.{ok_reply, applied, changed, stepped, dumped, modelled, model_of, clothed, given}
use Rattle.cga_top.specs.Replies.{done_by, is_blank, begun, asked, second, closed, ended, noted_by, effect}
use Rattle.cga_top.specs.State.{Block, of_rules, of_city, of_asset, of_judge, State, start}
use Rattle.cga_top.specs.Told.{command_of, grammar_told, sources_told}
use Rattle.cga_undo.specs.History.{Kept, Step, undone, redone}
use Rattle.cga_laws.specs.Refusing.{begins_two, is_blank_told, RefusalsChangeNothing}
use Rattle.cga_laws.specs.Scripts.{replies_to}
use Rattle.cga_laws.specs.Undos.{state_after}
use Rattle.cga_laws.proofs.Commands.{Does, turns, asks, ends, does, line_outside}

-- ---- the text of a refusal is no other reply

not_empty : (r : Refused) → [] ≡ refusal_text_of r → ⊥
unfolding refusal_text_of
not_empty r e = let bad : 0 ≡ 35 = ap (λ (x : List ℕ). get_or x 0 0) e in omega (arith, bad)

not_ok : (r : Refused) → 35 ∷ 32 ∷ 111 ∷ 107 ∷ 10 ∷ [] ≡ refusal_text_of r → ⊥
unfolding refusal_text_of
not_ok r e = let bad : 111 ≡ 114 = ap (λ (x : List ℕ). get_or x 2 0) e in omega (arith, bad)

not_accepted : (quiet : Bool) (r : Refused) → ok_reply quiet ≡ refusal_text_of r → ⊥
not_accepted true r e = not_empty r e
not_accepted false r e = not_ok r e

-- ---- what is refused changes nothing

module _ (t : State) (r : Refused) where
  -- where it is refused for this cause
  record Holds (e : Effect) : Type 0 where
    state : e.reply ≡ refusal_text_of r → e.state ≡ t

  abbrev kept_by : (e : Effect) → e.state ≡ t → Holds e
  kept_by e same = record { state = λ h. same }

  either : (b : Bool) (e f : Effect) → Holds e → Holds f → Holds (if b then e else f)
  either true e f h k = h
  either false e f h k = k

  changed_holds : (kept : Kept) (made : Result Sources EditRefused) → Holds (changed t kept made)
  changed_holds kept (Ok new) = record { state = λ h. absurd (not_accepted t.quiet r h) }
  changed_holds kept (Err cause) = record { state = λ h. refl }

  stepped_holds : (none : Refused) (o : Option Step) → Holds (stepped t none o)
  stepped_holds none None = record { state = λ h. refl }
  stepped_holds none (Some step) = changed_holds step.left (applied t (edit.Whole step.taken))

  dumped_holds : (d : Result (List ℕ) LongDump) → Holds (dumped t d)
  dumped_holds (Ok text) = record { state = λ h. refl }
  dumped_holds (Err long) = record { state = λ h. refl }

  modelled_holds : (m : Result (List ℕ) ModelTooLarge) → Holds (modelled t m)
  modelled_holds (Ok text) = record { state = λ h. refl }
  modelled_holds (Err large) = record { state = λ h. refl }

  clothed_holds : (w : Result WardrobeView WardrobeFault) → Holds (clothed t w)
  clothed_holds (Ok wardrobe) = record { state = λ h. absurd (not_accepted t.quiet r h) }
  clothed_holds (Err fault) = record { state = λ h. refl }

  given_holds : (name : List ℕ) (m : Result SolidMesh AssetFault) → Holds (given t name m)
  given_holds name (Ok asset) = clothed_holds (with_asset t.wardrobe name asset)
  given_holds name (Err fault) = record { state = λ h. refl }

  closed_holds : (made : Result Edit BlockFault) → Holds (closed t made)
  closed_holds (Ok e) = changed_holds (noted_by t.version t.kept t.sources) (applied t e)
  closed_holds (Err fault) = record { state = λ h. refl }

  ended_holds : (block : Block) → Holds (ended t block)
  ended_holds (of_rules lines) = closed_holds (grammar_told lines)
  ended_holds (of_city lines) = closed_holds (sources_told lines)
  ended_holds (of_asset name lines) = given_holds name (asset_of lines)
  ended_holds (of_judge lines) = record { state = λ h. refl }

  done_holds : (command : ScriptCommand) → Holds (done_by t command)
  done_holds c.Blank = record { state = λ h. refl }
  done_holds c.Rules = record { state = λ h. absurd (not_empty r h) }
  done_holds (c.Change e) = changed_holds (noted_by t.version t.kept t.sources) (applied t e)
  done_holds (c.Print None) = record { state = λ h. refl }
  done_holds (c.Print (Some name)) = either (is_some (lot_place name t.sources.lots)) _ _ (record { state = λ h. refl }) (record { state = λ h. refl })
  done_holds c.Faults = record { state = λ h. refl }
  done_holds c.Grammar = record { state = λ h. refl }
  done_holds c.Stats = record { state = λ h. refl }
  done_holds c.Quiet = record { state = λ h. absurd (not_empty r h) }
  done_holds c.CityBlock = record { state = λ h. absurd (not_empty r h) }
  done_holds c.Dump = dumped_holds (dump_of t.sources)
  done_holds (c.AssetBlock name) = record { state = λ h. absurd (not_empty r h) }
  done_holds (c.Dress symbol name) = clothed_holds (dressed t.wardrobe symbol name)
  done_holds (c.Undress symbol) = either (has symbol t.wardrobe.dresses) _ _ (clothed_holds (Ok (undressed t.wardrobe symbol))) (record { state = λ h. refl })
  done_holds (c.Model None) = modelled_holds (model_of t (names_of t.sources.lots))
  done_holds (c.Model (Some name)) = either (is_some (lot_place name t.sources.lots)) _ _ (modelled_holds (model_of t (name ∷ []))) (record { state = λ h. refl })
  done_holds c.Bill = record { state = λ h. refl }
  done_holds c.Undo = stepped_holds refused.NoUndo (undone t.kept t.sources)
  done_holds c.Redo = stepped_holds refused.NoRedo (redone t.kept t.sources)
  done_holds c.Trace = record { state = λ h. refl }
  done_holds c.JudgeBlock = record { state = λ h. absurd (not_empty r h) }

module _ (s : State) (r : Refused) where
  asked_holds : (told : Result ScriptCommand LineFault) → Holds (begun s) r (asked s told)
  asked_holds (Ok command) = either (begun s) r (is_blank command) (silent s) (done_by (begun s) command) (record { state = λ h. absurd (not_empty r h) }) (done_holds (begun s) r command)
  asked_holds (Err fault) = record { state = λ h. refl }

  does_hold : (command : List Line) (e : Effect) → Does s command e → Holds (begun s) r e
  does_hold command e (turns q) = subst (Holds (begun s) r) (sym q) (record { state = λ h. absurd (not_ok r h) })
  does_hold command e (asks line one q) = subst (Holds (begun s) r) (sym q) (asked_holds (command_of s.version line))
  does_hold command e (ends block q) = subst (Holds (begun s) r) (sym q) (ended_holds (begun s) r block)

-- ---- whether a line came that isn't blank

-- two effects are one but for that
record AreAlike (e f : Effect) : Type 0 where
  reply : e.reply ≡ f.reply
  works : e.works ≡ f.works
  state : begun e.state ≡ begun f.state

alike : (e f : Effect) → e ≡ f → AreAlike e f
alike e f q = record { reply = ap (λ (x : Effect). x.reply) q; works = ap (λ (x : Effect). x.works) q; state = ap (λ (x : Effect). begun x.state) q }

behind_same : (s t : State) (line : Line) (lines : List Line) → effect s line ≡ effect t line
    → effect_of_all s (line ∷ lines) ≡ effect_of_all t (line ∷ lines)
behind_same s t line lines e =
    all_more s line lines ∙ ap (λ (x : Effect). followed_by x (effect_of_all x.state lines)) e ∙ sym (all_more t line lines)

behind_silent : (s : State) (line : Line) (lines : List Line) → effect s line ≡ silent s
    → effect_of_all s (line ∷ lines) ≡ effect_of_all s lines
behind_silent s line lines e = all_more s line lines ∙ ap (λ (x : Effect). followed_by x (effect_of_all x.state lines)) e

both_alike : (e f g h : Effect) → e ≡ f → g ≡ h → AreAlike f h → AreAlike e g
both_alike e f g h p q k = subst (λ x. AreAlike x g) (sym p) (subst (AreAlike f) (sym q) k)

neither : (a b : Bool) → (a || b) ≡ false → (a ≡ false) × (b ≡ false)
neither true b h = absurd (let bad : true ≡ false = h in cc)
neither false b h = (refl, h)

-- a line that isn't `version 2`
not_turned : (s : State) (line : Line) → s.block ≡ None → is_version_line line ≡ false
    → effect s line ≡ asked s (command_of s.version line)
not_turned s line none other =
    line_outside s line none ∙ ap (λ b. if b then second s else asked s (command_of s.version line)) (no s.fresh (is_version_line line) other)
  where
    no : (a b : Bool) → b ≡ false → (a && b) ≡ false
    no true b h = h
    no false b h = refl

module _ (s : State) (none : s.block ≡ None) where
  -- a blank line leaves it open, and any other comes to the same
  told_alike : (line : Line) (lines : List Line) (told : Result ScriptCommand LineFault) (blank : Bool)
      → is_blank_told told ≡ blank → effect s line ≡ asked s told → effect (begun s) line ≡ asked (begun s) told
      → (blank ≡ true → AreAlike (effect_of_all (begun s) lines) (effect_of_all s lines))
      → AreAlike (effect_of_all (begun s) (line ∷ lines)) (effect_of_all s (line ∷ lines))
  told_alike line lines (Ok command) true b p q later =
      let e : effect s line ≡ silent s = p ∙ ap (λ x. if x then silent s else done_by (begun s) command) b in
      let f : effect (begun s) line ≡ silent (begun s) = q ∙ ap (λ x. if x then silent (begun s) else done_by (begun s) command) b in
      both_alike _ _ _ _ (behind_silent (begun s) line lines f) (behind_silent s line lines e) (later refl)
  told_alike line lines (Ok command) false b p q later =
      let e : effect s line ≡ done_by (begun s) command = p ∙ ap (λ x. if x then silent s else done_by (begun s) command) b in
      let f : effect (begun s) line ≡ done_by (begun s) command = q ∙ ap (λ x. if x then silent (begun s) else done_by (begun s) command) b in
      alike _ _ (behind_same (begun s) s line lines (f ∙ sym e))
  told_alike line lines (Err fault) blank b p q later = alike _ _ (behind_same (begun s) s line lines (q ∙ sym p))

  lines_alike : (lines : List Line) → begins_two s.version lines ≡ false
      → AreAlike (effect_of_all (begun s) lines) (effect_of_all s lines)
  lines_alike [] h =
      both_alike _ _ _ _ (all_none (begun s)) (all_none s) (record { reply = refl; works = refl; state = refl })
  lines_alike (line ∷ lines) h =
      let told = command_of s.version line in
      let (other, rest) = neither (is_version_line line) (is_blank_told told && begins_two s.version lines) h in
      told_alike line lines told (is_blank_told told) refl (not_turned s line none other)
      (not_turned (begun s) line none other) (λ b. lines_alike lines (sym (ap (λ x. x && begins_two s.version lines) b) ∙ rest))

  begun_alike : (fresh : Bool) → s.fresh ≡ fresh → (lines : List Line)
      → (fresh ≡ true → begins_two s.version lines ≡ false)
      → AreAlike (effect_of_all (begun s) lines) (effect_of_all s lines)
  begun_alike true e lines h = lines_alike lines (h refl)
  begun_alike false e lines h =
      let q : begun s ≡ s = ap (λ f. record s { fresh = f }) (sym e) in
      alike _ _ (ap (λ (x : State). effect_of_all x lines) q)

-- ---- the law

pub refusals_change_nothing : RefusalsChangeNothing
refusals_change_nothing decimals before command after cause is refused first =
    let s = state_after decimals before in
    let now = (does_hold s cause command (effect_of_all s command) (does s command is)).state refused in
    let later : state_after decimals (before ++ command) ≡ begun s = ap (λ (x : Effect). x.state) (all_append (start decimals) before command) ∙ now in
    let all = begun_alike s is.outside s.fresh refl after first in
    let moved = ap (λ (x : State). effect_of_all x after) later in
    let shown : effect_of_all (effect_of_all s command).state after ≡ effect_of_all (begun s) after = ap (λ (x : State). effect_of_all x after) now in
    record {
      replies = ap (λ (x : Effect). x.reply) (all_append (start decimals) before (command ++ after))
          ∙ ap (λ (x : List ℕ). replies_to decimals before ++ x)
          (ap (λ (x : Effect). x.reply) (all_append s command after)
          ∙ ap (λ (x : List ℕ). x ++ (effect_of_all (effect_of_all s command).state after).reply) refused
          ∙ ap (λ (x : List ℕ). refusal_text_of cause ++ x) (ap (λ (x : Effect). x.reply) shown ∙ all.reply));
      without = ap (λ (x : Effect). x.reply) (all_append (start decimals) before after);
      works = ap (λ (x : Effect). x.works) moved ∙ all.works;
      state = ap (λ (x : Effect). begun x.state) moved ∙ all.state;
    }
