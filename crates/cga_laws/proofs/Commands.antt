-- What one command of a script does.
use Rattle.std.proofs.Common.{◌≡◌, ℕ, List, [], ◌∷◌, Bool, true, false, ◌&&◌, Option, Some, None, Result, Ok, Err, refl, sym, ap, subst, ◌∙◌}
use Rattle.std.specs.Prelude.{IsTrue, is_some, if◌then◌else◌}
use Rattle.cga_asset.specs.Lines.{asset_of}
use Rattle.cga_asset.specs.Wardrobe.{WardrobeView, dressed, has, undressed, with_asset}
use Rattle.cga_asset.specs.declared.fault.AssetFault.{AssetFault}
use Rattle.cga_asset.specs.declared.too_large.ModelTooLarge.{ModelTooLarge}
use Rattle.cga_asset.specs.declared.wardrobe_fault.WardrobeFault.{WardrobeFault}
use Rattle.cga_city.specs.Lots.{lot_place, names_of}
use Rattle.cga_form.specs.declared.block_fault.BlockFault.{BlockFault}
use Rattle.cga_form.specs.declared.line_fault.LineFault.{LineFault}
use Rattle.cga_script.specs.Dumps.{dump_of}
use Rattle.cga_script.specs.Ends.{is_end_line, is_version_line}
use Rattle.cga_script.specs.Lines.{Line}
use Rattle.cga_script.specs.declared.long_dump.LongDump.{LongDump}
use Rattle.cga_script.specs.declared.refused.Refused.{Refused}
use Rattle.cga_script.specs.declared.refused.Refused.TheVariants as refused
use Rattle.cga_script.specs.declared.script_command.ScriptCommand.{ScriptCommand}
use Rattle.cga_script.specs.declared.script_command.ScriptCommand.TheVariants as c
use Rattle.cga_shape.specs.declared.edit.Edit.{Edit}
use Rattle.cga_shape.specs.declared.edit.Edit.TheVariants as edit
use Rattle.cga_shape.specs.declared.edit_refused.EditRefused.{EditRefused}
use Rattle.cga_shape.specs.declared.sources.Sources.{Sources}
use Rattle.cga_solid.specs.declared.solid_mesh.SolidMesh.{SolidMesh}
use Rattle.cga_top.proofs.Door.{all_more, all_none, followed_silent}
use Rattle.cga_top.specs.Effect.{Effect, followed_by, silent}
use Rattle.cga_top.specs.Output.{effect_of_all}
use Rattle.cga_top.specs.Replies.{applied, changed, stepped, dumped, modelled, model_of, clothed, given}
use Rattle.cga_top.specs.Replies.{opened, done_by, is_blank, begun, asked, second, outside, closed, ended, with_line, noted_by}
use Rattle.cga_top.specs.Replies.{effect_by, effect}
use Rattle.cga_top.specs.State.{Block, of_rules, of_city, of_asset, of_judge, State}
use Rattle.cga_top.specs.Told.{command_of, grammar_told, sources_told}
use Rattle.cga_undo.specs.History.{Kept, Step, undone, redone}
use Rattle.cga_laws.specs.Scripts.{EndsAtLast, IsCommand}

-- ---- what stays

-- the block that is open, the version, and whether a line came that isn't blank
pub record Stays (t u : State) : Type 0 where
  pub block : u.block ≡ t.block
  pub fresh : u.fresh ≡ t.fresh
  pub version : u.version ≡ t.version

module _ (t : State) where
  same : Stays t t
  same = record { block = refl; fresh = refl; version = refl }

  either_stays : (b : Bool) (e f : Effect) → Stays t e.state → Stays t f.state → Stays t (if b then e else f).state
  either_stays true e f h k = h
  either_stays false e f h k = k

  changed_stays : (kept : Kept) (r : Result Sources EditRefused) → Stays t (changed t kept r).state
  changed_stays kept (Ok new) = record { block = refl; fresh = refl; version = refl }
  changed_stays kept (Err cause) = same

  stepped_stays : (none : Refused) (o : Option Step) → Stays t (stepped t none o).state
  stepped_stays none None = same
  stepped_stays none (Some step) = changed_stays step.left (applied t (edit.Whole step.taken))

  dumped_stays : (r : Result (List ℕ) LongDump) → Stays t (dumped t r).state
  dumped_stays (Ok text) = same
  dumped_stays (Err long) = same

  modelled_stays : (r : Result (List ℕ) ModelTooLarge) → Stays t (modelled t r).state
  modelled_stays (Ok text) = same
  modelled_stays (Err large) = same

  clothed_stays : (r : Result WardrobeView WardrobeFault) → Stays t (clothed t r).state
  clothed_stays (Ok wardrobe) = record { block = refl; fresh = refl; version = refl }
  clothed_stays (Err fault) = same

  given_stays : (name : List ℕ) (r : Result SolidMesh AssetFault) → Stays t (given t name r).state
  given_stays name (Ok asset) = clothed_stays (with_asset t.wardrobe name asset)
  given_stays name (Err fault) = same

  closed_stays : (made : Result Edit BlockFault) → Stays t (closed t made).state
  closed_stays (Ok e) = changed_stays (noted_by t.version t.kept t.sources) (applied t e)
  closed_stays (Err fault) = same

  pub ended_stays : (block : Block) → Stays t (ended t block).state
  ended_stays (of_rules lines) = closed_stays (grammar_told lines)
  ended_stays (of_city lines) = closed_stays (sources_told lines)
  ended_stays (of_asset name lines) = given_stays name (asset_of lines)
  ended_stays (of_judge lines) = same

  -- ---- a line outside a block

  -- it leaves the block as it is, or opens one
  pub data Opens (e : Effect) : Type 0 where
    stays : Stays t e.state → Opens e
    opens : (block : Block) → e ≡ opened t block → Opens e

  pub done_opens : (command : ScriptCommand) → Opens (done_by t command)
  done_opens c.Blank = stays same
  done_opens c.Rules = opens (of_rules []) refl
  done_opens (c.Change e) = stays (changed_stays (noted_by t.version t.kept t.sources) (applied t e))
  done_opens (c.Print None) = stays same
  done_opens (c.Print (Some name)) = stays (either_stays (is_some (lot_place name t.sources.lots)) _ _ same same)
  done_opens c.Faults = stays same
  done_opens c.Grammar = stays same
  done_opens c.Stats = stays same
  done_opens c.Quiet = stays (record { block = refl; fresh = refl; version = refl })
  done_opens c.CityBlock = opens (of_city []) refl
  done_opens c.Dump = stays (dumped_stays (dump_of t.sources))
  done_opens (c.AssetBlock name) = opens (of_asset name []) refl
  done_opens (c.Dress symbol name) = stays (clothed_stays (dressed t.wardrobe symbol name))
  done_opens (c.Undress symbol) = stays (either_stays (has symbol t.wardrobe.dresses) _ _ (clothed_stays (Ok (undressed t.wardrobe symbol))) same)
  done_opens (c.Model None) = stays (modelled_stays (model_of t (names_of t.sources.lots)))
  done_opens (c.Model (Some name)) = stays (either_stays (is_some (lot_place name t.sources.lots)) _ _ (modelled_stays (model_of t (name ∷ []))) same)
  done_opens c.Bill = stays same
  done_opens c.Undo = stays (stepped_stays refused.NoUndo (undone t.kept t.sources))
  done_opens c.Redo = stays (stepped_stays refused.NoRedo (redone t.kept t.sources))
  done_opens c.Trace = stays same
  done_opens c.JudgeBlock = opens (of_judge []) refl

-- ---- a line, by whether a block is open

pub line_outside : (s : State) (line : Line) → s.block ≡ None → effect s line ≡ outside s line
unfolding effect
line_outside s line none = ap (λ o. effect_by o s line) none

-- with a block open: the line ends it, or is one more of its lines
abbrev by_end : State → Block → Line → Bool → Effect
by_end t block line ends = if ends then ended (record t { block = None }) block else opened t (with_line block line)

line_within : (t : State) (block : Block) (line : Line)
    → effect (record t { block = Some block }) line ≡ by_end t block line (is_end_line line)
unfolding effect
line_within t block line = refl

pub alone : (s : State) (line : Line) → effect_of_all s (line ∷ []) ≡ effect s line
alone s line = all_more s line [] ∙ ap (followed_by (effect s line)) (all_none (effect s line).state) ∙ followed_silent (effect s line)

-- ---- the lines of a block

module _ (t : State) (block : Block) (line : Line) where
  ends_then : (b : Bool) → (by_end t block line b).state.block ≡ None
      → by_end t block line b ≡ ended (record t { block = None }) block
  ends_then true h = refl
  ends_then false h = absurd (let bad : Some (with_line block line) ≡ None = h in cc)

  goes_on : (b : Bool) → IsTrue (is_some (by_end t block line b).state.block)
      → by_end t block line b ≡ opened t (with_line block line)
  goes_on true h =
      let none : is_some (ended (record t { block = None }) block).state.block ≡ false = ap is_some (ended_stays (record t { block = None }) block).block in
      absurd (let bad : false ≡ true = sym none ∙ h in cc)
  goes_on false h = refl

abbrev within : State → Block → State
within t block = record t { block = Some block }

-- an effect behind which no reply and no work is told is what comes after it
then_all : (s u : State) (line : Line) (lines : List Line) → effect s line ≡ silent u
    → effect_of_all s (line ∷ lines) ≡ effect_of_all u lines
then_all s u line lines e = all_more s line lines ∙ ap (λ (x : Effect). followed_by x (effect_of_all x.state lines)) e

-- what the lines of an open block do is what its end does
block_ends : (t : State) (block : Block) (lines : List Line) → EndsAtLast (within t block) lines
    → (whole : Block) × (effect_of_all (within t block) lines ≡ ended (record t { block = None }) whole)
block_ends t block [] h = absurd h
block_ends t block (line ∷ []) h =
    let e = line_within t block line in
    (block, alone (within t block) line ∙ e ∙ ends_then t block line (is_end_line line) (subst (λ (x : Effect). x.state.block ≡ None) e h))
block_ends t block (line ∷ next ∷ lines) h =
    let e = line_within t block line in
    let o : effect (within t block) line ≡ opened t (with_line block line) = e ∙ goes_on t block line (is_end_line line) (subst (λ (x : Effect). IsTrue (is_some x.state.block)) e h.0) in
    let r = block_ends t (with_line block line) (next ∷ lines) (subst (λ (x : Effect). EndsAtLast x.state (next ∷ lines)) o h.1) in
    (r.0, then_all (within t block) (within t (with_line block line)) line (next ∷ lines) o ∙ r.1)

-- ---- a command

-- it makes the script one of version 2, or is a line, or a block that ends
pub data Does (s : State) (command : List Line) (e : Effect) : Type 0 where
  turns : e ≡ second s → Does s command e
  asks : (line : Line) → command ≡ line ∷ [] → e ≡ asked s (command_of s.version line) → Does s command e
  ends : (block : Block) → e ≡ ended (begun s) block → Does s command e

line_does : (s : State) (line : Line) (b : Bool)
    → Does s (line ∷ []) (if b then second s else asked s (command_of s.version line))
line_does s line true = turns refl
line_does s line false = asks line refl refl

either_opens : (s : State) (b : Bool) (e f : Effect) → Opens (begun s) e → Opens (begun s) f
    → Opens (begun s) (if b then e else f)
either_opens s true e f h k = h
either_opens s false e f h k = k

-- only an opened block goes on
module _ (s : State) (none : s.block ≡ None) where
  abbrev IsOpened : Effect → Type 0
  IsOpened e = (block : Block) × (e ≡ opened (begun s) block)

  not_open : (e : Effect) → e.state.block ≡ None → IsTrue (is_some e.state.block) → IsOpened e
  not_open e stay h = absurd (let q : is_some e.state.block ≡ false = ap is_some stay in let bad : false ≡ true = sym q ∙ h in cc)

  is_opened : (e : Effect) → Opens (begun s) e → IsTrue (is_some e.state.block) → IsOpened e
  is_opened e (stays k) h = not_open e (k.block ∙ none) h
  is_opened e (opens block q) h = (block, q)

  command_opened : (command : ScriptCommand) (b : Bool)
      → IsTrue (is_some (if b then silent s else done_by (begun s) command).state.block)
      → IsOpened (if b then silent s else done_by (begun s) command)
  command_opened command true h = not_open (silent s) none h
  command_opened command false h = is_opened (done_by (begun s) command) (done_opens (begun s) command) h

  asked_opened : (told : Result ScriptCommand LineFault) → IsTrue (is_some (asked s told).state.block)
      → IsOpened (asked s told)
  asked_opened (Ok command) h = command_opened command (is_blank command) h
  asked_opened (Err fault) h = absurd (let q : is_some s.block ≡ false = ap is_some none in let bad : false ≡ true = sym q ∙ h in cc)

  outside_opened : (line : Line) (b : Bool)
      → IsTrue (is_some (if b then second s else asked s (command_of s.version line)).state.block)
      → IsOpened (if b then second s else asked s (command_of s.version line))
  outside_opened line true h = absurd (let bad : false ≡ true = h in cc)
  outside_opened line false h = asked_opened (command_of s.version line) h

  closed_again : record (begun s) { block = None } ≡ begun s
  closed_again = ap (λ o. record (begun s) { block = o }) (sym none)

pub does : (s : State) (command : List Line) → IsCommand s command → Does s command (effect_of_all s command)
does s [] is = absurd is.ends
does s (line ∷ []) is =
    subst (Does s (line ∷ [])) (sym (alone s line ∙ line_outside s line is.outside)) (line_does s line (s.fresh && is_version_line line))
does s (line ∷ next ∷ lines) is =
    let e = line_outside s line is.outside in
    let (block, o) = outside_opened s is.outside line (s.fresh && is_version_line line) (subst (λ (x : Effect). IsTrue (is_some x.state.block)) e is.ends.0) in
    let r = block_ends (begun s) block (next ∷ lines) (subst (λ (x : Effect). EndsAtLast x.state (next ∷ lines)) (e ∙ o) is.ends.1) in
    ends r.0 (then_all s (within (begun s) block) line (next ∷ lines) (e ∙ o) ∙ r.1 ∙ ap (λ (t : State). ended t r.0) (closed_again s is.outside))
