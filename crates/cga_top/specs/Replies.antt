-- What a line does, and what it is replied to.
use Rattle.std.specs.Prelude.{◌≡◌, ℕ, List, [], ◌∷◌, ◌++◌, length, Bool, true, false, ◌&&◌, Option, Some, None, Result, Ok, Err, is_some, codes, if◌then◌else◌}
use Rattle.cga_asset.specs.Dressed.{model_text_of}
use Rattle.cga_asset.specs.Lines.{asset_of}
use Rattle.cga_asset.specs.Wardrobe.{WardrobeView, dressed, has, undressed, with_asset}
use Rattle.cga_asset.specs.declared.fault.AssetFault.{AssetFault}
use Rattle.cga_asset.specs.declared.too_large.ModelTooLarge.{ModelTooLarge}
use Rattle.cga_asset.specs.declared.wardrobe_fault.WardrobeFault.{WardrobeFault}
use Rattle.cga_asset.specs.declared.wardrobe_fault.WardrobeFault.TheVariants as wardrobe
use Rattle.cga_bill.specs.Bill.{bill_of}
use Rattle.cga_bill.specs.Texts.{bill_text_of}
use Rattle.cga_form.specs.declared.block_fault.BlockFault.{BlockFault}
use Rattle.cga_form.specs.declared.line_fault.LineFault.{LineFault}
use Rattle.cga_form.specs.Lines.{Line}
use Rattle.cga_shape.specs.declared.drawn.Drawn.{Drawn}
use Rattle.cga_shape.specs.declared.edit.Edit.{Edit}
use Rattle.cga_shape.specs.declared.edit.Edit.TheVariants as edit
use Rattle.cga_shape.specs.declared.edit_refused.EditRefused.{EditRefused}
use Rattle.cga_shape.specs.declared.edit_refused.EditRefused.TheVariants as cause
use Rattle.cga_shape.specs.declared.sources.Sources.{Sources}
use Rattle.cga_shape.specs.declared.counts.Counts.{Counts}
use Rattle.cga_obj.specs.Faults.{fault_text_of}
use Rattle.cga_obj.specs.Lots.{obj_text_of}
use Rattle.cga_syntax.specs.GrammarText.{grammar_text}
use Rattle.cga_city.specs.Apply.{apply}
use Rattle.cga_city.specs.Derived.{members}
use Rattle.cga_city.specs.Lots.{lot_place}
use Rattle.cga_city.specs.Reports.{drawn_in, faults_of, instance_count, fault_count}
use Rattle.cga_city.specs.Lots.{names_of}
use Rattle.cga_city.specs.declared.limits.TheConstants.{BUDGET, BUDGET_TWO}
use Rattle.cga_expand.specs.Children.{Member}
use Rattle.cga_expand.specs.Run.{run_to}
use Rattle.cga_shape.specs.declared.trace_step.TraceStep.{TraceStep}
use Rattle.cga_trace.specs.Judged.{judged, judged_text}
use Rattle.cga_trace.specs.Text.{trace_text_of}
use Rattle.cga_touched.specs.Count.{touched_count}
use Rattle.cga_undo.specs.History.{Kept, Step, noted, undone, redone}
use Rattle.cga_script.specs.declared.long_dump.LongDump.{LongDump}
use Rattle.cga_script.specs.declared.refused.Refused.{Refused}
use Rattle.cga_script.specs.declared.refused.Refused.TheVariants as refused
use Rattle.cga_script.specs.declared.script_command.ScriptCommand.{ScriptCommand}
use Rattle.cga_script.specs.declared.script_command.ScriptCommand.TheVariants.{Blank, Rules, Change, Print, Faults}
use Rattle.cga_script.specs.declared.script_command.ScriptCommand.TheVariants.{Grammar, Stats, Quiet, CityBlock, Dump}
use Rattle.cga_script.specs.declared.script_command.ScriptCommand.TheVariants.{AssetBlock, Dress, Undress, Model}
use Rattle.cga_script.specs.declared.script_command.ScriptCommand.TheVariants.{Bill, Undo, Redo, Trace, JudgeBlock}
use Rattle.cga_script.specs.declared.version.Version.{Version}
use Rattle.cga_script.specs.declared.version.Version.TheVariants.{One, Two}
use Rattle.cga_script.specs.Dumps.{dump_of}
use Rattle.cga_script.specs.Ends.{is_end_line, is_version_line}
use Rattle.cga_script.specs.Refusals.{refusal_text_of}
use Rattle.cga_solid.specs.declared.solid_mesh.SolidMesh.{SolidMesh}
use Rattle.cga_top.specs.State.{Block, of_rules, of_city, of_asset, of_judge, State, start}
use Rattle.cga_top.specs.Effect.{Effect, editing, judging, says, silent}
use Rattle.cga_top.specs.Stats.{stats_text_of}
use Rattle.cga_top.specs.Told.{command_of, grammar_told, sources_told}

-- ---- texts

-- `# ok`, but not after `quiet`
abbrev pub ok_reply : Bool → List ℕ
ok_reply quiet = if quiet then [] else codes "# ok\n"

-- a refusal changes nothing
abbrev pub refuses : State → Refused → Effect
refuses s r = says s (refusal_text_of r)

-- ---- edits

-- the most shapes that a city of a script has
abbrev pub budget_of : Version → ℕ
budget_of One = BUDGET
budget_of Two = BUDGET_TWO

-- the members of the derivation of the current sources
abbrev pub derived : State → List Member
derived s = members (budget_of s.version) s.sources

-- how many of the shapes of these sources an edit that leads to them touches
abbrev pub touched_by : State → Sources → ℕ
touched_by s new =
    touched_count (budget_of s.version) s.sources new (members (budget_of s.version) s.sources) (members (budget_of s.version) new)

-- an edit goes through, with what the history then keeps, or is refused and changes nothing
abbrev pub changed : State → Kept → Result Sources EditRefused → Effect
changed s kept (Ok new) = record {
  state = record s { sources = new; kept = kept; number = touched_by s new };
  reply = ok_reply s.quiet;
  works = editing (record { from = s.sources; budget = budget_of s.version; gave = Ok new }) ∷ [];
}
changed s kept (Err e) = record {
  state = s;
  reply = refusal_text_of (refused.Edit e);
  works = editing (record { from = s.sources; budget = budget_of s.version; gave = Err e }) ∷ [];
}

-- what an edit makes of the current sources
abbrev pub applied : State → Edit → Result Sources EditRefused
applied s e = apply s.sources e (budget_of s.version)

-- what is kept after an accepted edit of these sources: version 1 has no undo, and keeps nothing
abbrev pub noted_by : Version → Kept → Sources → Kept
noted_by One kept before = kept
noted_by Two kept before = noted kept before

-- an edit; in version 2 the sources before it are noted
abbrev pub edited : State → Edit → Effect
edited s e = changed s (noted_by s.version s.kept s.sources) (applied s e)

-- back to former sources, or on to later ones: the edit that sets them whole; none are there
abbrev pub stepped : State → Refused → Option Step → Effect
stepped s none None = refuses s none
stepped s none (Some step) = changed s step.left (applied s (edit.Whole step.taken))

-- ---- reports

-- what is drawn of lots
abbrev pub drawn_by : State → List (List ℕ) → List Drawn
drawn_by s names = drawn_in names (derived s)

-- the OBJ text of lots
abbrev pub text_of : State → List (List ℕ) → List ℕ
text_of s names = obj_text_of names (drawn_by s names) s.decimals

-- of the city, or of one lot
abbrev pub printed : State → Option (List ℕ) → Effect
printed s None = says s (text_of s (names_of s.sources.lots))
printed s (Some name) =
    if is_some (lot_place name s.sources.lots) then says s (text_of s (name ∷ []))
    else refuses s (refused.Edit (cause.NoLot name))

-- the text of a model, or its refusal
abbrev pub modelled : State → Result (List ℕ) ModelTooLarge → Effect
modelled s (Ok text) = says s text
modelled s (Err large) = refuses s refused.ModelTooLarge

-- the model of lots
abbrev pub model_of : State → List (List ℕ) → Result (List ℕ) ModelTooLarge
model_of s names = model_text_of s.wardrobe names (drawn_by s names) s.decimals

-- of the city, or of one lot
abbrev pub shown : State → Option (List ℕ) → Effect
shown s None = modelled s (model_of s (names_of s.sources.lots))
shown s (Some name) =
    if is_some (lot_place name s.sources.lots) then modelled s (model_of s (name ∷ []))
    else refuses s (refused.Edit (cause.NoLot name))

-- how many there are of each in the derivation of the current sources
abbrev pub counts_of : State → Counts
counts_of s = record {
  lots = length s.sources.lots;
  shapes = length (derived s);
  instances = instance_count (derived s);
  faults = fault_count (derived s);
  expanded = s.number;
}

abbrev pub dumped : State → Result (List ℕ) LongDump → Effect
dumped s (Ok text) = says s text
dumped s (Err long) = refuses s (refused.LongDump long.id)

-- ---- traces

-- the run of the current sources
abbrev pub run_of : State → List TraceStep
run_of s = run_to s.sources (budget_of s.version)

-- lines are judged, by where they differ from the run's; that changes nothing
abbrev pub judged_by : State → List Line → Option ℕ → Effect
judged_by s lines differs = record {
  state = s;
  reply = judged_text differs;
  works = judging (record { differs = differs; steps = length (run_of s); lines = length lines }) ∷ [];
}

-- ---- assets

-- a wardrobe in the place of the one before, or its refusal
abbrev pub clothed : State → Result WardrobeView WardrobeFault → Effect
clothed s (Ok wardrobe) = says (record s { wardrobe = wardrobe }) (ok_reply s.quiet)
clothed s (Err fault) = refuses s (refused.Wardrobe fault)

-- a symbol is drawn as its solids again, where it was dressed
abbrev pub stripped : State → List ℕ → Effect
stripped s symbol =
    if has symbol s.wardrobe.dresses then clothed s (Ok (undressed s.wardrobe symbol))
    else refuses s (refused.NoDress symbol)

-- an asset is kept under its name; or its block is refused by the first fault
abbrev pub given : State → List ℕ → Result SolidMesh AssetFault → Effect
given s name (Ok asset) = clothed s (with_asset s.wardrobe name asset)
given s name (Err fault) = refuses s (refused.Asset fault)

-- the reply to what a wardrobe answers; none after want of memory
abbrev pub WardrobeReplies : Bool → Result (Unit {0}) WardrobeFault → List ℕ → Type 0
WardrobeReplies quiet (Ok u) text = text ≡ ok_reply quiet
WardrobeReplies quiet (Err wardrobe.NoMemory) text = ⊥
WardrobeReplies quiet (Err fault) text = text ≡ refusal_text_of (refused.Wardrobe fault)

-- ---- lines outside a block

-- a block is opened
abbrev pub opened : State → Block → Effect
opened s block = silent (record s { block = Some block })

-- what a command asks for
abbrev pub done_by : State → ScriptCommand → Effect
done_by s Blank = silent s
done_by s Rules = opened s (of_rules [])
done_by s (Change e) = edited s e
done_by s (Print name) = printed s name
done_by s Faults = says s (fault_text_of (faults_of s.sources.lots (derived s)))
done_by s Grammar = says s (grammar_text s.sources.grammar)
done_by s Stats = says s (stats_text_of (counts_of s))
done_by s Quiet = silent (record s { quiet = true })
done_by s CityBlock = opened s (of_city [])
done_by s Dump = dumped s (dump_of s.sources)
done_by s (AssetBlock name) = opened s (of_asset name [])
done_by s (Dress symbol name) = clothed s (dressed s.wardrobe symbol name)
done_by s (Undress symbol) = stripped s symbol
done_by s (Model name) = shown s name
done_by s Bill = says s (bill_text_of (bill_of (drawn_by s (names_of s.sources.lots))))
done_by s Undo = stepped s refused.NoUndo (undone s.kept s.sources)
done_by s Redo = stepped s refused.NoRedo (redone s.kept s.sources)
done_by s Trace = says s (trace_text_of (run_of s))
done_by s JudgeBlock = opened s (of_judge [])

-- it asks for no edit
abbrev pub EditsNothing : ScriptCommand → Type 0
EditsNothing (Change e) = ⊥
EditsNothing Undo = ⊥
EditsNothing Redo = ⊥
EditsNothing _ = Unit {0}

abbrev pub is_blank : ScriptCommand → Bool
is_blank Blank = true
is_blank _ = false

-- it isn't the first line any more
abbrev pub begun : State → State
begun s = record s { fresh = false }

-- what a line asks for: a blank one for nothing, any other may no longer be followed by `version 2`
abbrev pub asked : State → Result ScriptCommand LineFault → Effect
asked s (Ok command) = if is_blank command then silent s else done_by (begun s) command
asked s (Err fault) = refuses (begun s) (refused.Line fault)

-- the line that makes the version 2 comes first, so that nothing is there yet
abbrev pub second : State → Effect
second s = says (record (start s.decimals) { fresh = false; version = Two }) (codes "# ok\n")

abbrev pub outside : State → Line → Effect
outside s line = if s.fresh && is_version_line line then second s else asked s (command_of s.version line)

-- ---- lines of a block

-- a block has ended: the edit that it makes, or its first faulty line
abbrev pub closed : State → Result Edit BlockFault → Effect
closed s (Ok e) = edited s e
closed s (Err fault) = refuses s (refused.Block fault)

-- what the end of a block does
abbrev pub ended : State → Block → Effect
ended s (of_rules lines) = closed s (grammar_told lines)
ended s (of_city lines) = closed s (sources_told lines)
ended s (of_asset name lines) = given s name (asset_of lines)
ended s (of_judge lines) = judged_by s lines (judged (run_of s) lines)

-- one more line of a block
abbrev pub with_line : Block → Line → Block
with_line (of_rules lines) line = of_rules (lines ++ line ∷ [])
with_line (of_city lines) line = of_city (lines ++ line ∷ [])
with_line (of_asset name lines) line = of_asset name (lines ++ line ∷ [])
with_line (of_judge lines) line = of_judge (lines ++ line ∷ [])

-- a line ends the block, or is one more of its lines
abbrev pub in_block : State → Block → Line → Effect
in_block s block line = if is_end_line line then ended (record s { block = None }) block else opened s (with_line block line)

-- by the block that is open, or none
abbrev pub effect_by : Option Block → State → Line → Effect
effect_by (Some block) s line = in_block s block line
effect_by None s line = outside s line

-- what one line does
unfoldable pub effect : State → Line → Effect
effect s line = effect_by s.block s line

-- ---- the end

-- a block that the script's end leaves open
abbrev pub open_reply : Option Block → List ℕ
open_reply None = []
open_reply (Some block) = refusal_text_of refused.OpenBlock

-- the end of a script
abbrev pub at_end : State → Effect
at_end s = says s (open_reply s.block)
