-- What an undo restores.
use Rattle.std.proofs.Common.{◌≡◌, ℕ, ◌-◌, List, [], ◌∷◌, ◌++◌, Bool, true, false, ◌&&◌, Option, Some, None, Result, Ok, Err, refl, sym, ap, subst, ◌∙◌}
use Rattle.std.specs.Prelude.{is_some, if◌then◌else◌}
use Rattle.cga_asset.specs.Lines.{asset_of}
use Rattle.cga_asset.specs.Wardrobe.{WardrobeView, dressed, has, with_asset}
use Rattle.cga_asset.specs.declared.fault.AssetFault.{AssetFault}
use Rattle.cga_asset.specs.declared.too_large.ModelTooLarge.{ModelTooLarge}
use Rattle.cga_asset.specs.declared.wardrobe_fault.WardrobeFault.{WardrobeFault}
use Rattle.cga_city.proofs.Door.{whole_applied}
use Rattle.cga_city.specs.Derived.{is_within}
use Rattle.cga_city.specs.Inside.{AreSound}
use Rattle.cga_city.specs.Lots.{lot_place, names_of}
use Rattle.cga_form.specs.declared.block_fault.BlockFault.{BlockFault}
use Rattle.cga_form.specs.declared.line_fault.LineFault.{LineFault}
use Rattle.cga_script.specs.Dumps.{dump_of}
use Rattle.cga_script.specs.Ends.{is_version_line}
use Rattle.cga_script.specs.Lines.{Line}
use Rattle.cga_script.specs.declared.long_dump.LongDump.{LongDump}
use Rattle.cga_script.specs.declared.refused.Refused.{Refused}
use Rattle.cga_script.specs.declared.refused.Refused.TheVariants as refused
use Rattle.cga_script.specs.declared.script_command.ScriptCommand.{ScriptCommand}
use Rattle.cga_script.specs.declared.script_command.ScriptCommand.TheVariants as c
use Rattle.cga_script.specs.declared.version.Version.TheVariants.{Two}
use Rattle.cga_shape.specs.declared.edit.Edit.{Edit}
use Rattle.cga_shape.specs.declared.sources.Sources.{Sources}
use Rattle.cga_solid.specs.declared.solid_mesh.SolidMesh.{SolidMesh}
use Rattle.cga_top.proofs.Door.{all_append}
use Rattle.cga_top.specs.Effect.{Effect}
use Rattle.cga_top.specs.Output.{effect_of_all}
use Rattle.cga_top.specs.Replies.{budget_of, applied, changed, noted_by, stepped, dumped, modelled, model_of, clothed, given}
use Rattle.cga_top.specs.Replies.{begun, asked, second, closed, ended, effect, touched_by}
use Rattle.cga_top.specs.State.{Block, of_rules, of_city, of_asset, of_judge, State, start}
use Rattle.cga_top.specs.Told.{command_of, grammar_told, sources_told}
use Rattle.cga_undo.specs.History.{Kept, Step, undone, redone}
use Rattle.cga_laws.specs.Restoring.{IsReport, IsRestored, IsDone, Asks, IsUndo, UndosRestore, RedosRestore}
use Rattle.cga_laws.specs.Undos.{state_after}
use Rattle.cga_laws.proofs.Commands.{Does, turns, asks, ends, does, line_outside, alone}
use Rattle.cga_laws.proofs.First.{second_late}
use Rattle.cga_laws.proofs.Undoing.{states_are_within}
use Rattle.cga_laws.proofs.Histories.{Takes, undone_last, by_version, redone_left, undone_left, redone_last, moved, LeadsBack, not_done, changed_leads, stepped_leads}

-- ---- what asks for no edit

module _ (t : State) where
  either_idle : (b : Bool) (e f : Effect) → e.works ≡ [] → f.works ≡ [] → (if b then e else f).works ≡ []
  either_idle true e f h k = h
  either_idle false e f h k = k

  dumped_idle : (d : Result (List ℕ) LongDump) → (dumped t d).works ≡ []
  dumped_idle (Ok text) = refl
  dumped_idle (Err long) = refl

  modelled_idle : (m : Result (List ℕ) ModelTooLarge) → (modelled t m).works ≡ []
  modelled_idle (Ok text) = refl
  modelled_idle (Err large) = refl

  clothed_idle : (w : Result WardrobeView WardrobeFault) → (clothed t w).works ≡ []
  clothed_idle (Ok wardrobe) = refl
  clothed_idle (Err fault) = refl

  given_idle : (name : List ℕ) (m : Result SolidMesh AssetFault) → (given t name m).works ≡ []
  given_idle name (Ok asset) = clothed_idle (with_asset t.wardrobe name asset)
  given_idle name (Err fault) = refl

-- ---- an accepted edit or `redo` can be undone

module _ (s : State) (two : s.version ≡ Two) where
  edited_leads : (e : Edit)
      → IsDone (changed (begun s) (noted_by s.version s.kept s.sources) (applied (begun s) e)).works
      → LeadsBack s (changed (begun s) (noted_by s.version s.kept s.sources) (applied (begun s) e)).state undone
  edited_leads e h =
      changed_leads s undone (noted_by s.version s.kept s.sources) (λ new. by_version s.version s.kept s.sources new two) (applied (begun s) e) h

  redo_leads : IsDone (stepped (begun s) refused.NoRedo (redone s.kept s.sources)).works
      → LeadsBack s (stepped (begun s) refused.NoRedo (redone s.kept s.sources)).state undone
  redo_leads h =
      stepped_leads s undone refused.NoRedo (redone s.kept s.sources) (λ x e new. undone_last x.left new s.kept.past s.sources (redone_left s.kept s.sources x e)) h

  told_leads : (told : Result ScriptCommand LineFault) → (told ≡ Ok c.Undo → ⊥) → IsDone (asked s told).works
      → LeadsBack s (asked s told).state undone
  told_leads (Err fault) other h = absurd h
  told_leads (Ok c.Blank) other h = absurd h
  told_leads (Ok c.Rules) other h = absurd h
  told_leads (Ok (c.Change e)) other h = edited_leads e h
  told_leads (Ok (c.Print None)) other h = absurd h
  told_leads (Ok (c.Print (Some name))) other h = absurd (not_done _ (either_idle s (is_some (lot_place name s.sources.lots)) _ _ refl refl) h)
  told_leads (Ok c.Faults) other h = absurd h
  told_leads (Ok c.Grammar) other h = absurd h
  told_leads (Ok c.Stats) other h = absurd h
  told_leads (Ok c.Quiet) other h = absurd h
  told_leads (Ok c.CityBlock) other h = absurd h
  told_leads (Ok c.Dump) other h = absurd (not_done _ (dumped_idle (begun s) (dump_of s.sources)) h)
  told_leads (Ok (c.AssetBlock name)) other h = absurd h
  told_leads (Ok (c.Dress symbol name)) other h = absurd (not_done _ (clothed_idle (begun s) (dressed s.wardrobe symbol name)) h)
  told_leads (Ok (c.Undress symbol)) other h = absurd (not_done _ (either_idle s (has symbol s.wardrobe.dresses) _ _ refl refl) h)
  told_leads (Ok (c.Model None)) other h = absurd (not_done _ (modelled_idle (begun s) (model_of (begun s) (names_of s.sources.lots))) h)
  told_leads (Ok (c.Model (Some name))) other h = absurd (not_done _ (either_idle s (is_some (lot_place name s.sources.lots)) _ _ (modelled_idle (begun s) (model_of (begun s) (name ∷ []))) refl) h)
  told_leads (Ok c.Bill) other h = absurd h
  told_leads (Ok c.Undo) other h = absurd (other refl)
  told_leads (Ok c.Redo) other h = redo_leads h
  told_leads (Ok c.Trace) other h = absurd h
  told_leads (Ok c.JudgeBlock) other h = absurd h

  closed_leads : (made : Result Edit BlockFault) → IsDone (closed (begun s) made).works
      → LeadsBack s (closed (begun s) made).state undone
  closed_leads (Ok e) h = edited_leads e h
  closed_leads (Err fault) h = absurd h

  ended_leads : (block : Block) → IsDone (ended (begun s) block).works
      → LeadsBack s (ended (begun s) block).state undone
  ended_leads (of_rules lines) h = closed_leads (grammar_told lines) h
  ended_leads (of_city lines) h = closed_leads (sources_told lines) h
  ended_leads (of_asset name lines) h = absurd (not_done _ (given_idle (begun s) name (asset_of lines)) h)
  ended_leads (of_judge lines) h = absurd h

  abbrev IsDoneBack : Effect → Type 0
  IsDoneBack e = IsDone e.works → LeadsBack s e.state undone

  leads : (command : List Line) (e : Effect) → Does s command e → (IsUndo command → ⊥) → IsDoneBack e
  leads command e (turns q) other = subst IsDoneBack (sym q) (λ h. absurd h)
  leads command e (asks line one q) other =
      subst IsDoneBack (sym q) (told_leads (command_of s.version line) (λ told. other (line, one, subst (λ v. command_of v line ≡ Ok c.Undo) two told)))
  leads command e (ends block q) other = subst IsDoneBack (sym q) (ended_leads block)

-- ---- the line that goes back

line_asks : (t : State) (line : Line) (command : ScriptCommand) → t.block ≡ None → t.fresh ≡ false → t.version ≡ Two
    → command_of Two line ≡ Ok command → effect t line ≡ asked t (Ok command)
line_asks t line command none fresh two told =
    line_outside t line none
    ∙ ap (λ f. if f && is_version_line line then second t else asked t (command_of t.version line)) fresh
    ∙ ap (asked t) (ap (λ v. command_of v line) two ∙ told)

module _ (s : State) (none : s.block ≡ None) (fresh : s.fresh ≡ false) (two : s.version ≡ Two) where
  -- the reports see no more than the sources, the version, the wardrobe and the decimals
  module _ (k : Kept) (n : ℕ) where
    abbrev there : State
    there = moved s s.sources k n

    either_same : (b : Bool) (e f g h : Effect) → e.reply ≡ g.reply → f.reply ≡ h.reply
        → (if b then e else f).reply ≡ (if b then g else h).reply
    either_same true e f g h p q = p
    either_same false e f g h p q = q

    dumped_same : (d : Result (List ℕ) LongDump) → (dumped there d).reply ≡ (dumped (begun s) d).reply
    dumped_same (Ok text) = refl
    dumped_same (Err long) = refl

    modelled_same : (m : Result (List ℕ) ModelTooLarge) → (modelled there m).reply ≡ (modelled (begun s) m).reply
    modelled_same (Ok text) = refl
    modelled_same (Err large) = refl

    report_same : (report : ScriptCommand) → IsReport report
        → (asked there (Ok report)).reply ≡ (asked s (Ok report)).reply
    report_same (c.Print None) is = refl
    report_same (c.Print (Some name)) is = either_same (is_some (lot_place name s.sources.lots)) _ _ _ _ refl refl
    report_same c.Faults is = refl
    report_same c.Grammar is = refl
    report_same c.Dump is = dumped_same (dump_of s.sources)
    report_same (c.Model None) is = modelled_same (model_of s (names_of s.sources.lots))
    report_same (c.Model (Some name)) is = either_same (is_some (lot_place name s.sources.lots)) _ _ _ _ (modelled_same (model_of s (name ∷ []))) refl
    report_same c.Bill is = refl
    report_same c.Trace is = refl
    report_same c.Blank is = absurd is
    report_same c.Rules is = absurd is
    report_same (c.Change e) is = absurd is
    report_same c.Stats is = absurd is
    report_same c.Quiet is = absurd is
    report_same c.CityBlock is = absurd is
    report_same (c.AssetBlock name) is = absurd is
    report_same (c.Dress symbol name) is = absurd is
    report_same (c.Undress symbol) is = absurd is
    report_same c.Undo is = absurd is
    report_same c.Redo is = absurd is
    report_same c.JudgeBlock is = absurd is

    restored : IsRestored s there
    restored = record {
      sources = refl;
      reports = λ line report told is.
          ap (λ (x : Effect). x.reply) (line_asks there line report none refl two told) ∙ report_same report is
          ∙ sym (ap (λ (x : Effect). x.reply) (line_asks s line report none fresh two told));
      others = ap (λ f. record s { fresh = f; kept = k; number = n }) (sym fresh);
    }

  -- a line that asks for the step
  module _ (sound : AreSound s.sources) (fits : is_within (budget_of s.version) s.sources ≡ true) where
    taken_back : (new : Sources) (kept : Kept) (n : ℕ) (cause : Refused) (o : Option Step) → Takes s.sources o
        → IsRestored s (stepped (moved s new kept n) cause o).state
    taken_back new kept n cause o takes =
        let e : stepped (moved s new kept n) cause o ≡ changed (moved s new kept n) takes.0 (Ok s.sources) =
        ap (stepped (moved s new kept n) cause) takes.1
        ∙ ap (changed (moved s new kept n) takes.0) (whole_applied new s.sources (budget_of s.version) sound fits) in
        subst (λ (x : Effect). IsRestored s x.state) (sym e) (restored takes.0 (touched_by (moved s new kept n) s.sources))

    undo_restores : (u : State) (line : Line) → LeadsBack s u undone → Asks c.Undo line
        → IsRestored s (effect u line).state
    undo_restores u line back told =
        subst (λ (x : State). IsRestored s (effect x line).state) (sym back.is)
        (subst (λ (x : Effect). IsRestored s x.state) (sym (line_asks (moved s back.new back.kept back.number) line c.Undo none refl two told))
        (taken_back back.new back.kept back.number refused.NoUndo (undone back.kept back.new) back.takes))

    redo_restores : (u : State) (line : Line) → LeadsBack s u redone → Asks c.Redo line
        → IsRestored s (effect u line).state
    redo_restores u line back told =
        subst (λ (x : State). IsRestored s (effect x line).state) (sym back.is)
        (subst (λ (x : Effect). IsRestored s x.state) (sym (line_asks (moved s back.new back.kept back.number) line c.Redo none refl two told))
        (taken_back back.new back.kept back.number refused.NoRedo (redone back.kept back.new) back.takes))

-- ---- the laws

-- the state behind a command and one more line
then_line : (decimals : ℕ) (before command : List Line) (line : Line)
    → state_after decimals (before ++ (command ++ line ∷ []))
    ≡ (effect (effect_of_all (state_after decimals before) command).state line).state
then_line decimals before command line =
    let s = state_after decimals before in
    ap (λ (x : Effect). x.state) (all_append (start decimals) before (command ++ line ∷ []))
    ∙ ap (λ (x : Effect). x.state) (all_append s command (line ∷ []))
    ∙ ap (λ (x : Effect). x.state) (alone (effect_of_all s command).state line)

pub undos_restore : UndosRestore
undos_restore decimals before command undo is other told =
    let s = state_after decimals before in
    let (sound, fits) = states_are_within decimals before in
    let late = second_late decimals before is.second in
    let back = leads s is.second command (effect_of_all s command) (does s command is.one) other is.done in
    subst (IsRestored s) (sym (then_line decimals before command undo))
    (undo_restores s is.one.outside late is.second sound fits (effect_of_all s command).state undo back told)

-- an accepted `undo` can be redone
undo_leads : (s : State) → IsDone (stepped (begun s) refused.NoUndo (undone s.kept s.sources)).works
    → LeadsBack s (stepped (begun s) refused.NoUndo (undone s.kept s.sources)).state redone
undo_leads s h =
    stepped_leads s redone refused.NoUndo (undone s.kept s.sources) (λ x e new. redone_last x.left new s.kept.future s.sources (undone_left s.kept s.sources x e)) h

pub redos_restore : RedosRestore
redos_restore decimals before undo redo is told again =
    let s = state_after decimals before in
    let (sound, fits) = states_are_within decimals before in
    let late = second_late decimals before is.second in
    let e = alone s undo ∙ line_asks s undo c.Undo is.one.outside late is.second told in
    let back = subst (λ (x : Effect). IsDone x.works → LeadsBack s x.state redone) (sym e) (undo_leads s) is.done in
    subst (IsRestored s) (sym (then_line decimals before (undo ∷ []) redo))
    (redo_restores s is.one.outside late is.second sound fits (effect_of_all s (undo ∷ [])).state redo back again)
