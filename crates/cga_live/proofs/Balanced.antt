-- What a line changed accounts for what is drawn before and after it.
use Rattle.std.proofs.Common.{◌≡◌, ◌∙◌, ℕ, List, [], ◌∷◌, Bool, true, false, ◌&&◌, Option, Some, None, Result, Ok, Err, refl, sym, ap, subst}
use Rattle.std.specs.Prelude.{is_some, if◌then◌else◌}
use Rattle.cga_asset.specs.Lines.{asset_of}
use Rattle.cga_asset.specs.Wardrobe.{WardrobeView, dressed, has, undressed, with_asset}
use Rattle.cga_asset.specs.declared.fault.AssetFault.{AssetFault}
use Rattle.cga_asset.specs.declared.too_large.ModelTooLarge.{ModelTooLarge}
use Rattle.cga_asset.specs.declared.wardrobe_fault.WardrobeFault.{WardrobeFault}
use Rattle.cga_bill.specs.Bill.{Balances}
use Rattle.cga_city.specs.City.{empty_sources}
use Rattle.cga_city.specs.Derived.{members}
use Rattle.cga_city.specs.Lots.{lot_place, names_of}
use Rattle.cga_city.specs.Reports.{drawn_in}
use Rattle.cga_form.specs.Lines.{Line}
use Rattle.cga_form.specs.declared.block_fault.BlockFault.{BlockFault}
use Rattle.cga_form.specs.declared.line_fault.LineFault.{LineFault}
use Rattle.cga_script.specs.Dumps.{dump_of}
use Rattle.cga_script.specs.Ends.{is_end_line, is_version_line}
use Rattle.cga_script.specs.declared.long_dump.LongDump.{LongDump}
use Rattle.cga_script.specs.declared.refused.Refused.{Refused}
use Rattle.cga_script.specs.declared.refused.Refused.TheVariants as refused
use Rattle.cga_script.specs.declared.script_command.ScriptCommand.{ScriptCommand}
use Rattle.cga_script.specs.declared.script_command.ScriptCommand.TheVariants as c
use Rattle.cga_script.specs.declared.version.Version.TheVariants.{Two}
use Rattle.cga_shape.specs.declared.changes.Changes.{Changes}
use Rattle.cga_shape.specs.declared.drawn.Drawn.{Drawn}
use Rattle.cga_shape.specs.declared.edit.Edit.{Edit}
use Rattle.cga_shape.specs.declared.edit.Edit.TheVariants as edit
use Rattle.cga_shape.specs.declared.edit_refused.EditRefused.{EditRefused}
use Rattle.cga_shape.specs.declared.sources.Sources.{Sources}
use Rattle.cga_solid.specs.declared.solid_mesh.SolidMesh.{SolidMesh}
use Rattle.cga_top.proofs.Door.{nothing_drawn}
use Rattle.cga_top.specs.Changed.{HasChanged, no_changes}
use Rattle.cga_top.specs.Effect.{Effect}
use Rattle.cga_top.specs.Replies.{applied, asked, begun, budget_of, changed, closed, clothed, done_by, dumped, effect}
use Rattle.cga_top.specs.Replies.{effect_by, ended, given, is_blank, model_of, modelled, outside, second, shown}
use Rattle.cga_top.specs.Replies.{stepped}
use Rattle.cga_top.specs.Told.{command_of, grammar_told, sources_told}
use Rattle.cga_top.specs.State.{Block, State, of_asset, of_city, of_judge, of_rules, start}
use Rattle.cga_undo.specs.History.{Kept, Step, redone, undone}
use Rattle.cga_live.specs.Live.{drawn_at}
use Rattle.cga_fraction.proofs.Door.{and_first as first_of}

-- where only blank lines came, there is nothing yet
abbrev pub IsUnbegun : State → Type 0
IsUnbegun s = s.fresh ≡ true → (s.sources ≡ empty_sources) × (s.block ≡ None)

-- what an effect changed accounts for what is drawn before and after it, and it is the first line as before
record IsFair (s : State) (e : Effect) : Type 0 where
  balance : (changes : Changes) → HasChanged e.works changes → Balances (drawn_at s) (drawn_at e.state) changes
  fresh : e.state.fresh ≡ s.fresh

-- nothing changed
nothing_changed : (list : List Drawn) (changes : Changes) → changes ≡ no_changes → Balances list list changes
nothing_changed list changes none = subst (λ (k : Changes). Balances list list k) (sym none) (λ test. refl)

-- one of two
either : (s : State) (b : Bool) (t e : Effect) → IsFair s t → IsFair s e → IsFair s (if b then t else e)
either s true t e h k = h
either s false t e h k = k

module _ (s : State) where
  -- no work, and the sources stay
  abbrev same : (changes : Changes) → changes ≡ no_changes → Balances (drawn_at s) (drawn_at s) changes
  same changes none = nothing_changed (drawn_at s) changes none

  changed_fair : (kept : Kept) (r : Result Sources EditRefused) → IsFair s (changed s kept r)
  changed_fair kept (Ok new) = record { balance = λ changes are. are.balance; fresh = refl }
  changed_fair kept (Err cause) = record { balance = same; fresh = refl }

  stepped_fair : (none : Refused) (o : Option Step) → IsFair s (stepped s none o)
  stepped_fair none None = record { balance = same; fresh = refl }
  stepped_fair none (Some step) = changed_fair step.left (applied s (edit.Whole step.taken))

  dumped_fair : (r : Result (List ℕ) LongDump) → IsFair s (dumped s r)
  dumped_fair (Ok text) = record { balance = same; fresh = refl }
  dumped_fair (Err long) = record { balance = same; fresh = refl }

  modelled_fair : (r : Result (List ℕ) ModelTooLarge) → IsFair s (modelled s r)
  modelled_fair (Ok text) = record { balance = same; fresh = refl }
  modelled_fair (Err large) = record { balance = same; fresh = refl }

  shown_fair : (name : Option (List ℕ)) → IsFair s (shown s name)
  shown_fair None = modelled_fair (model_of s (names_of s.sources.lots))
  shown_fair (Some name) = either s (is_some (lot_place name s.sources.lots)) _ _ (modelled_fair (model_of s (name ∷ []))) (record { balance = same; fresh = refl })

  clothed_fair : (r : Result WardrobeView WardrobeFault) → IsFair s (clothed s r)
  clothed_fair (Ok wardrobe) = record { balance = same; fresh = refl }
  clothed_fair (Err fault) = record { balance = same; fresh = refl }

  given_fair : (name : List ℕ) (r : Result SolidMesh AssetFault) → IsFair s (given s name r)
  given_fair name (Ok asset) = clothed_fair (with_asset s.wardrobe name asset)
  given_fair name (Err fault) = record { balance = same; fresh = refl }

  command_fair : (command : ScriptCommand) → IsFair s (done_by s command)
  command_fair c.Blank = record { balance = same; fresh = refl }
  command_fair c.Rules = record { balance = same; fresh = refl }
  command_fair (c.Change e) = changed_fair _ (applied s e)
  command_fair (c.Print None) = record { balance = same; fresh = refl }
  command_fair (c.Print (Some name)) = either s (is_some (lot_place name s.sources.lots)) _ _ (record { balance = same; fresh = refl }) (record { balance = same; fresh = refl })
  command_fair c.Faults = record { balance = same; fresh = refl }
  command_fair c.Grammar = record { balance = same; fresh = refl }
  command_fair c.Stats = record { balance = same; fresh = refl }
  command_fair c.Quiet = record { balance = same; fresh = refl }
  command_fair c.CityBlock = record { balance = same; fresh = refl }
  command_fair c.Dump = dumped_fair (dump_of s.sources)
  command_fair (c.AssetBlock name) = record { balance = same; fresh = refl }
  command_fair (c.Dress symbol name) = clothed_fair (dressed s.wardrobe symbol name)
  command_fair (c.Undress symbol) = either s (has symbol s.wardrobe.dresses) _ _ (clothed_fair (Ok (undressed s.wardrobe symbol))) (record { balance = same; fresh = refl })
  command_fair (c.Model name) = shown_fair name
  command_fair c.Bill = record { balance = same; fresh = refl }
  command_fair c.Undo = stepped_fair refused.NoUndo (undone s.kept s.sources)
  command_fair c.Redo = stepped_fair refused.NoRedo (redone s.kept s.sources)
  command_fair c.Trace = record { balance = same; fresh = refl }
  command_fair c.JudgeBlock = record { balance = same; fresh = refl }

  closed_fair : (made : Result Edit BlockFault) → IsFair s (closed s made)
  closed_fair (Ok e) = changed_fair _ (applied s e)
  closed_fair (Err fault) = record { balance = same; fresh = refl }

  ended_fair : (block : Block) → IsFair s (ended s block)
  ended_fair (of_rules lines) = closed_fair (grammar_told lines)
  ended_fair (of_city lines) = closed_fair (sources_told lines)
  ended_fair (of_asset name lines) = given_fair name (asset_of lines)
  ended_fair (of_judge lines) = record { balance = same; fresh = refl }

-- ---- lines

-- the same, and what is known where only blank lines came
record IsRight (s : State) (e : Effect) : Type 0 where
  balance : (changes : Changes) → HasChanged e.works changes → Balances (drawn_at s) (drawn_at e.state) changes
  unbegun : IsUnbegun e.state

-- it isn't the first line any more
never_fresh : (t : State) → t.fresh ≡ false → IsUnbegun t
never_fresh t off = λ yes. let bad : false ≡ true = sym off ∙ yes in cc

right_of : (s t : State) (e : Effect) → t.fresh ≡ false → drawn_at t ≡ drawn_at s → IsFair t e → IsRight s e
right_of s t e off same fair = record {
  balance = λ changes has. subst (λ (list : List Drawn). Balances list (drawn_at e.state) changes) same (fair.balance changes has);
  unbegun = never_fresh e.state (fair.fresh ∙ off);
}

either_right : (s : State) (b : Bool) (t e : Effect) → (b ≡ true → IsRight s t) → (b ≡ false → IsRight s e)
    → IsRight s (if b then t else e)
either_right s true t e h k = h refl
either_right s false t e h k = k refl

asked_right : (s : State) (told : Result ScriptCommand LineFault) → IsUnbegun s → IsRight s (asked s told)
asked_right s (Ok command) un =
    either_right s (is_blank command) _ (done_by (begun s) command) (λ yes. record { balance = nothing_changed (drawn_at s); unbegun = un })
    (λ off. right_of s (begun s) (done_by (begun s) command) refl refl (command_fair (begun s) command))
asked_right s (Err fault) un = record { balance = nothing_changed (drawn_at s); unbegun = never_fresh (begun s) refl }

-- nothing is drawn before and after the line that makes the version 2
second_right : (s : State) → IsUnbegun s → s.fresh ≡ true → IsRight s (second s)
second_right s un fresh =
    let before : drawn_at s ≡ [] = ap (λ (x : Sources). drawn_in (names_of x.lots) (members (budget_of s.version) x)) (un fresh).0 ∙ nothing_drawn (members (budget_of s.version) empty_sources) in
    let after : drawn_at (second s).state ≡ [] = nothing_drawn (members (budget_of Two) empty_sources) in
    record {
      balance = λ changes none. subst (λ (list : List Drawn). Balances (drawn_at s) list changes) (before ∙ sym after) (nothing_changed (drawn_at s) changes none);
      unbegun = never_fresh (second s).state refl;
    }

outside_right : (s : State) (line : Line) → IsUnbegun s → IsRight s (outside s line)
outside_right s line un =
    either_right s (s.fresh && is_version_line line) _ (asked s (command_of s.version line)) (λ yes. second_right s un (first_of s.fresh (is_version_line line) yes))
    (λ off. asked_right s (command_of s.version line) un)

-- no block is open before the first line
begun_by : (s : State) (b : Bool) (block : Block) → s.fresh ≡ b → IsUnbegun s → s.block ≡ Some block → s.fresh ≡ false
begun_by s true block is un is_open = let bad : None ≡ Some block = sym (un is).1 ∙ is_open in absurd (let x : ◌≡◌ {A = Option Block} None (Some block) = bad in cc)
begun_by s false block is un is_open = is

effect_right : (s : State) (o : Option Block) (line : Line) → s.block ≡ o → IsUnbegun s → IsRight s (effect_by o s line)
effect_right s None line is_open un = outside_right s line un
effect_right s (Some block) line is_open un =
    let off : s.fresh ≡ false = begun_by s s.fresh block refl un is_open in
    either_right s (is_end_line line) (ended (record s { block = None }) block) _
    (λ yes. right_of s (record s { block = None }) (ended (record s { block = None }) block) off refl (ended_fair (record s { block = None }) block))
    (λ more. record { balance = nothing_changed (drawn_at s); unbegun = λ yes. let bad : false ≡ true = sym off ∙ yes in cc })

pub line_balances : (s : State) (line : Line) → IsUnbegun s → (changes : Changes)
    → HasChanged (effect s line).works changes → Balances (drawn_at s) (drawn_at (effect s line).state) changes
unfolding effect
line_balances s line un changes has = (effect_right s s.block line refl un).balance changes has

pub still_unbegun : (s : State) (line : Line) → IsUnbegun s → IsUnbegun (effect s line).state
unfolding effect
still_unbegun s line un = (effect_right s s.block line refl un).unbegun

pub start_unbegun : (decimals : ℕ) → IsUnbegun (start decimals)
start_unbegun decimals = λ yes. (refl, refl)
