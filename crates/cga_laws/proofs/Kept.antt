-- What holds of the sources of each state that lines come to, and of those that are kept.
use Rattle.std.proofs.Common.{◌≡◌, ℕ, zero, suc, ◌-◌, List, [], ◌∷◌, ◌++◌, length, Bool, true, false, ◌&&◌, Option, Some, None, Result, Ok, Err, refl, subst}
use Rattle.std.specs.Prelude.{All, slice_get, drop, nat_lt, is_some, if◌then◌else◌}
use Rattle.std.proofs.lemmas.List.Elements.{All-nil, All-cons, All-append, All-take, All-drop, All-head, All-tail}
use Rattle.cga_asset.specs.Lines.{asset_of}
use Rattle.cga_asset.specs.Wardrobe.{WardrobeView, dressed, has, with_asset}
use Rattle.cga_asset.specs.declared.fault.AssetFault.{AssetFault}
use Rattle.cga_asset.specs.declared.too_large.ModelTooLarge.{ModelTooLarge}
use Rattle.cga_asset.specs.declared.wardrobe_fault.WardrobeFault.{WardrobeFault}
use Rattle.cga_form.specs.declared.block_fault.BlockFault.{BlockFault}
use Rattle.cga_form.specs.declared.line_fault.LineFault.{LineFault}
use Rattle.cga_form.specs.Lines.{Line}
use Rattle.cga_fraction.specs.Results.{and_then}
use Rattle.cga_rule.specs.declared.grammar.Grammar.{Grammar}
use Rattle.cga_shape.specs.declared.edit.Edit.{Edit}
use Rattle.cga_shape.specs.declared.edit.Edit.TheVariants as edit
use Rattle.cga_shape.specs.declared.edit_refused.EditRefused.{EditRefused}
use Rattle.cga_shape.specs.declared.sources.Sources.{Sources}
use Rattle.cga_solid.specs.declared.solid_mesh.SolidMesh.{SolidMesh}
use Rattle.cga_city.specs.Apply.{apply}
use Rattle.cga_city.specs.City.{empty_sources}
use Rattle.cga_city.specs.Lots.{lot_place, names_of}
use Rattle.cga_parser.specs.BlockTells.{GrammarTells}
use Rattle.cga_top.proofs.Door.{city_told, command_told, rules_told}
use Rattle.cga_undo.specs.History.{Kept, Step, undone, redone, turned, turned_step, back_to}
use Rattle.cga_script.specs.declared.long_dump.LongDump.{LongDump}
use Rattle.cga_script.specs.declared.refused.Refused.{Refused}
use Rattle.cga_script.specs.declared.refused.Refused.TheVariants as refused
use Rattle.cga_script.specs.declared.script_command.ScriptCommand.{ScriptCommand}
use Rattle.cga_script.specs.declared.script_command.ScriptCommand.TheVariants as c
use Rattle.cga_script.specs.Dumps.{dump_of}
use Rattle.cga_script.specs.Commands.{CommandTells}
use Rattle.cga_script.specs.CityLines.{CityTells}
use Rattle.cga_script.specs.declared.version.Version.{Version}
use Rattle.cga_script.specs.declared.version.Version.TheVariants.{One, Two}
use Rattle.cga_script.specs.Ends.{is_end_line, is_version_line}
use Rattle.cga_top.specs.State.{Block, of_rules, of_city, of_asset, of_judge, State, start}
use Rattle.cga_top.specs.Effect.{Effect}
use Rattle.cga_top.specs.Told.{command_of, rules_of, city_of, grammar_told, sources_told}
use Rattle.cga_top.specs.Replies.{budget_of, changed, applied, edited, noted_by, stepped, dumped, modelled, shown}
use Rattle.cga_top.specs.Replies.{model_of, clothed, given, done_by, is_blank, begun, asked, outside, closed, ended}
use Rattle.cga_top.specs.Replies.{effect_by, effect}
use Rattle.cga_top.specs.Output.{effect_of_all}
use Rattle.cga_laws.specs.Undos.{state_after}

-- what a property of sources has to have for this: edits that lines ask for keep it
pub record AreKept (Can : ℕ → Sources → Type 0) (Fair : Edit → Type 0) : Type 0 where
  pub nothing : (budget : ℕ) → Can budget empty_sources
  pub done : (budget : ℕ) (s new : Sources) (e : Edit) → Can budget s → Fair e → apply s e budget ≡ Ok new
      → Can budget new
  pub again : (budget : ℕ) (s : Sources) → Can budget s → Fair (edit.Whole s)
  pub command : (version : Version) (line : Line) (e : Edit) → CommandTells version line (Ok (c.Change e)) → Fair e
  pub rules : (lines : List Line) (g : Grammar) → GrammarTells lines (Ok g) → Fair (edit.Rules g)
  pub city : (lines : List Line) (s : Sources) → CityTells lines (Ok s) → Fair (edit.Whole s)

-- what a step takes, where there is one
abbrev pub TakesSuch : (Sources → Type 0) → Option Step → Type 0
TakesSuch P None = Unit {0}
TakesSuch P (Some step) = P step.taken

module _ (Can : ℕ → Sources → Type 0) (Fair : Edit → Type 0) (are : AreKept Can Fair) where
  pub record IsSettled (s : State) : Type 0 where
    pub now : Can (budget_of s.version) s.sources
    pub past : All (Can (budget_of s.version)) s.kept.past
    pub future : All (Can (budget_of s.version)) s.kept.future

  start_settled : (decimals : ℕ) → IsSettled (start decimals)
  start_settled decimals = record { now = are.nothing _; past = All-nil _; future = All-nil _ }

  -- the edit that a command asks for is such
  abbrev AsksFair : ScriptCommand → Type 0
  AsksFair (c.Change e) = Fair e
  AsksFair _ = Unit {0}

  asks_fair : (v : Version) (line : Line) (a : ScriptCommand) → CommandTells v line (Ok a) → AsksFair a
  asks_fair v line (c.Change e) h = are.command v line e h
  asks_fair v line _ h = tt

  -- ---- edits

  module _ (s : State) (is : IsSettled s) where
    abbrev Here : Sources → Type 0
    Here = Can (budget_of s.version)

    changed_settled : (e : Edit) (kept : Kept) (r : Result Sources EditRefused) → applied s e ≡ r → Fair e
        → All Here kept.past → All Here kept.future → IsSettled (changed s kept r).state
    changed_settled e kept (Ok new) made fair past future =
        record { now = are.done (budget_of s.version) s.sources new e is.now fair made; past = past; future = future }
    changed_settled e kept (Err cause) made fair past future = is

    trimmed : (b : Bool) (list : List Sources) → All Here list → All Here (if b then drop 1 list else list)
    trimmed true list h = All-drop Here 1 list h
    trimmed false list h = h

    pushed : (list : List Sources) → All Here list → All Here (list ++ s.sources ∷ [])
    pushed list h = All-append Here list (s.sources ∷ []) h (All-cons Here s.sources [] is.now (All-nil Here))

    past_noted : (v : Version) → All Here (noted_by v s.kept s.sources).past
    past_noted One = is.past
    past_noted Two = trimmed (nat_lt 16 (length (s.kept.past ++ s.sources ∷ []))) (s.kept.past ++ s.sources ∷ []) (pushed s.kept.past is.past)

    future_noted : (v : Version) → All Here (noted_by v s.kept s.sources).future
    future_noted One = is.future
    future_noted Two = All-nil Here

    edited_settled : (e : Edit) → Fair e → IsSettled (edited s e).state
    edited_settled e fair = changed_settled e (noted_by s.version s.kept s.sources) (applied s e) refl fair (past_noted s.version) (future_noted s.version)

    -- ---- steps

    -- what a step takes can be set, and so can what it leaves
    record IsFine (step : Step) : Type 0 where
      taken : Here step.taken
      past : All Here step.left.past
      future : All Here step.left.future

    abbrev MayBeFine : Option Step → Type 0
    MayBeFine None = Unit {0}
    MayBeFine (Some step) = IsFine step

    one_of : (list : List Sources) (i : ℕ) (x : Sources) → slice_get list i ≡ Some x → All Here list → Here x
    one_of [] i x e h = absurd (let bad : None ≡ Some x = e in cc)
    one_of (y ∷ ys) zero x e h = let same : y ≡ x = cc in subst Here same (All-head Here y ys h)
    one_of (y ∷ ys) (suc i) x e h = one_of ys i x e (All-tail Here y ys h)

    back_fine : (kept : Kept) (o : Option Sources) → slice_get kept.past (length kept.past - 1) ≡ o → All Here kept.past
        → All Here kept.future → MayBeFine (back_to kept s.sources o)
    back_fine kept None at past future = tt
    back_fine kept (Some last) at past future = record {
      taken = one_of kept.past (length kept.past - 1) last at past;
      past = All-take Here (length kept.past - 1) kept.past past;
      future = pushed kept.future future;
    }

    undo_fine : (kept : Kept) → All Here kept.past → All Here kept.future → MayBeFine (undone kept s.sources)
    unfolding undone
    undo_fine kept past future = back_fine kept (slice_get kept.past (length kept.past - 1)) refl past future

    turn_fine : (o : Option Step) → MayBeFine o → MayBeFine (turned_step o)
    turn_fine None h = tt
    turn_fine (Some step) h = record { taken = h.taken; past = h.future; future = h.past }

    redo_fine : MayBeFine (redone s.kept s.sources)
    redo_fine = turn_fine (undone (turned s.kept) s.sources) (undo_fine (turned s.kept) is.future is.past)

    stepped_settled : (none : Refused) (o : Option Step) → MayBeFine o → IsSettled (stepped s none o).state
    stepped_settled none None h = is
    stepped_settled none (Some step) h = changed_settled (edit.Whole step.taken) step.left (applied s (edit.Whole step.taken)) refl (are.again (budget_of s.version) step.taken h.taken) h.past h.future

    -- ---- commands

    printed_settled : (b : Bool) (t e : Effect) → IsSettled t.state → IsSettled e.state
        → IsSettled (if b then t else e).state
    printed_settled true t e h k = h
    printed_settled false t e h k = k

    dumped_settled : (r : Result (List ℕ) LongDump) → IsSettled (dumped s r).state
    dumped_settled (Ok text) = is
    dumped_settled (Err long) = is

    modelled_settled : (r : Result (List ℕ) ModelTooLarge) → IsSettled (modelled s r).state
    modelled_settled (Ok text) = is
    modelled_settled (Err large) = is

    shown_settled : (name : Option (List ℕ)) → IsSettled (shown s name).state
    shown_settled None = modelled_settled (model_of s (names_of s.sources.lots))
    shown_settled (Some name) = printed_settled (is_some (lot_place name s.sources.lots)) _ _ (modelled_settled (model_of s (name ∷ []))) is

    clothed_settled : (r : Result WardrobeView WardrobeFault) → IsSettled (clothed s r).state
    clothed_settled (Ok wardrobe) = record { now = is.now; past = is.past; future = is.future }
    clothed_settled (Err fault) = is

    given_settled : (name : List ℕ) (r : Result SolidMesh AssetFault) → IsSettled (given s name r).state
    given_settled name (Ok asset) = clothed_settled (with_asset s.wardrobe name asset)
    given_settled name (Err fault) = is

    command_settled : (command : ScriptCommand) → AsksFair command → IsSettled (done_by s command).state
    command_settled c.Blank w = is
    command_settled c.Rules w = record { now = is.now; past = is.past; future = is.future }
    command_settled (c.Change e) w = edited_settled e w
    command_settled (c.Print None) w = is
    command_settled (c.Print (Some name)) w = printed_settled (is_some (lot_place name s.sources.lots)) _ _ is is
    command_settled c.Faults w = is
    command_settled c.Grammar w = is
    command_settled c.Stats w = is
    command_settled c.Quiet w = record { now = is.now; past = is.past; future = is.future }
    command_settled c.CityBlock w = record { now = is.now; past = is.past; future = is.future }
    command_settled c.Dump w = dumped_settled (dump_of s.sources)
    command_settled (c.AssetBlock name) w = record { now = is.now; past = is.past; future = is.future }
    command_settled (c.Dress symbol name) w = clothed_settled (dressed s.wardrobe symbol name)
    command_settled (c.Undress symbol) w = printed_settled (has symbol s.wardrobe.dresses) _ _ (record { now = is.now; past = is.past; future = is.future }) is
    command_settled (c.Model name) w = shown_settled name
    command_settled c.Bill w = is
    command_settled c.Undo w = stepped_settled refused.NoUndo (undone s.kept s.sources) (undo_fine s.kept is.past is.future)
    command_settled c.Redo w = stepped_settled refused.NoRedo (redone s.kept s.sources) redo_fine
    command_settled c.Trace w = is
    command_settled c.JudgeBlock w = record { now = is.now; past = is.past; future = is.future }

  -- ---- lines

  begun_settled : (s : State) → IsSettled s → IsSettled (begun s)
  begun_settled s is = record { now = is.now; past = is.past; future = is.future }

  asked_settled : (s : State) (told : Result ScriptCommand LineFault)
      → ((a : ScriptCommand) → told ≡ Ok a → AsksFair a) → IsSettled s → IsSettled (asked s told).state
  asked_settled s (Ok command) w is = printed_settled s is (is_blank command) _ (done_by (begun s) command) is (command_settled (begun s) (begun_settled s is) command (w command refl))
  asked_settled s (Err fault) w is = begun_settled s is

  second_settled : (s : State) → IsSettled (record (start s.decimals) { fresh = false; version = Two })
  second_settled s = record { now = are.nothing _; past = All-nil _; future = All-nil _ }

  outside_settled : (s : State) (line : Line) → IsSettled s → IsSettled (outside s line).state
  outside_settled s line is =
      printed_settled s is (s.fresh && is_version_line line) _ (asked s (command_of s.version line)) (second_settled s)
      (asked_settled s (command_of s.version line) (λ a told. asks_fair s.version line a (subst (CommandTells s.version line) told (command_told s.version line))) is)

  closed_settled : (s : State) (made : Result Edit BlockFault) → ((e : Edit) → made ≡ Ok e → Fair e)
      → IsSettled s → IsSettled (closed s made).state
  closed_settled s (Ok e) fair is = edited_settled s is e (fair e refl)
  closed_settled s (Err fault) fair is = is

  rules_fair : (lines : List Line) (r : Result Grammar BlockFault) → GrammarTells lines r → (e : Edit)
      → and_then r (λ g. Ok (edit.Rules g)) ≡ Ok e → Fair e
  rules_fair lines (Ok g) tells e h = let same : edit.Rules g ≡ e = cc in subst Fair same (are.rules lines g tells)
  rules_fair lines (Err fault) tells e h = absurd (cc)

  city_fair : (lines : List Line) (r : Result Sources BlockFault) → CityTells lines r → (e : Edit)
      → and_then r (λ x. Ok (edit.Whole x)) ≡ Ok e → Fair e
  city_fair lines (Ok x) tells e h = let same : edit.Whole x ≡ e = cc in subst Fair same (are.city lines x tells)
  city_fair lines (Err fault) tells e h = absurd (cc)

  ended_settled : (s : State) (block : Block) → IsSettled s → IsSettled (ended s block).state
  ended_settled s (of_rules lines) is = closed_settled s (grammar_told lines) (rules_fair lines (rules_of lines) (rules_told lines)) is
  ended_settled s (of_city lines) is = closed_settled s (sources_told lines) (city_fair lines (city_of lines) (city_told lines)) is
  ended_settled s (of_asset name lines) is = given_settled s is name (asset_of lines)
  ended_settled s (of_judge lines) is = is

  effect_settled : (s : State) (o : Option Block) (line : Line) → IsSettled s → IsSettled (effect_by o s line).state
  effect_settled s None line is = outside_settled s line is
  effect_settled s (Some block) line is =
      let closed : IsSettled (record s { block = None }) = record { now = is.now; past = is.past; future = is.future } in
      printed_settled s is (is_end_line line) (ended (record s { block = None }) block) _
      (ended_settled (record s { block = None }) block closed) (record { now = is.now; past = is.past; future = is.future })

  lines_settled : (s : State) (lines : List Line) → IsSettled s → IsSettled (effect_of_all s lines).state
  unfolding effect_of_all effect
  lines_settled s [] is = is
  lines_settled s (line ∷ lines) is = lines_settled (effect s line).state lines (effect_settled s s.block line is)

  pub states_settled : (decimals : ℕ) (lines : List Line) → IsSettled (state_after decimals lines)
  states_settled decimals lines = lines_settled (start decimals) lines (start_settled decimals)

  -- ---- what can be undone and redone

  taken_such : (s : State) (is : IsSettled s) (o : Option Step) → MayBeFine s is o
      → TakesSuch (Can (budget_of s.version)) o
  taken_such s is None h = tt
  taken_such s is (Some step) h = h.taken

  pub undone_such : (s : State) → IsSettled s → TakesSuch (Can (budget_of s.version)) (undone s.kept s.sources)
  undone_such s is = taken_such s is (undone s.kept s.sources) (undo_fine s is s.kept is.past is.future)

  pub redone_such : (s : State) → IsSettled s → TakesSuch (Can (budget_of s.version)) (redone s.kept s.sources)
  redone_such s is = taken_such s is (redone s.kept s.sources) (redo_fine s is)
