-- What a line that asks for a report does, and what is written of it.
use Rattle.std.proofs.Common.{◌≡◌, ◌∙◌, ℕ, List, [], ◌∷◌, Bool, true, false, ◌&&◌, Option, Some, None, Result, Ok, Err, refl, sym, ap, subst}
use Rattle.std.specs.Prelude.{if◌then◌else◌, IfOk, IfSome, is_some}
use Rattle.cga_fraction.specs.declared.memory.NoMemory.{NoMemory}
use Rattle.cga_form.specs.Lines.{Line}
use Rattle.cga_form.specs.declared.line_fault.LineFault.{LineFault}
use Rattle.cga_asset.specs.Dressed.{dressed_mesh, is_too_large, model_text_of}
use Rattle.cga_asset.specs.Wardrobe.{WardrobeView}
use Rattle.cga_asset.specs.declared.too_large.ModelTooLarge.{ModelTooLarge}
use Rattle.cga_obj.specs.Lots.{obj_text_of, text_by}
use Rattle.cga_obj.specs.Meshes.{mesh_drawn}
use Rattle.cga_shape.specs.declared.drawn.Drawn.{Drawn}
use Rattle.cga_city.specs.Derived.{members}
use Rattle.cga_city.specs.Lots.{lot_place, names_of}
use Rattle.cga_city.specs.Reports.{drawn_in}
use Rattle.cga_shape.specs.declared.sources.Sources.{Sources}
use Rattle.cga_shape.specs.declared.edit_refused.EditRefused.TheVariants as cause
use Rattle.cga_script.specs.Commands.{CommandTells}
use Rattle.cga_script.specs.Ends.{is_version_line}
use Rattle.cga_script.specs.Refusals.{refusal_text_of}
use Rattle.cga_script.specs.declared.refused.Refused.TheVariants as refused
use Rattle.cga_script.specs.declared.script_command.ScriptCommand.{ScriptCommand}
use Rattle.cga_script.specs.declared.version.Version.{Version}
use Rattle.cga_top.specs.Effect.{Effect, says}
use Rattle.cga_top.specs.Prints.{in_lots, text_in}
use Rattle.cga_top.specs.Replies.{asked, begun, done_by, drawn_by, effect, model_of, modelled, refuses, text_of}
use Rattle.cga_top.specs.Reported.{asks_for, reported, reported_of}
use Rattle.cga_top.specs.Session.{Did, IsAt, Says}
use Rattle.cga_top.specs.State.{State}
use Rattle.cga_top.specs.declared.report.Report.{Report}
use Rattle.cga_top.specs.declared.report.Report.TheVariants.{Print, Model}
use Rattle.cga_top.specs.declared.session.Session.{Session}
use Rattle.cga_top.proofs.Outsides.{effect_none, outside_asked}

obj_by : (lots : List (List ℕ)) (drawn : List Drawn) (decimals : ℕ)
    → text_by mesh_drawn lots drawn decimals ≡ obj_text_of lots drawn decimals
unfolding obj_text_of
obj_by lots drawn decimals = refl

-- what is drawn of lots by the city that is kept is that of the state
drawn_at : (s : State) (session : Session) → IsAt s session → (lots : List (List ℕ))
    → in_lots session.city lots ≡ drawn_by s lots
drawn_at s session at lots =
    ap (λ (x : Sources). drawn_in lots (members session.city.budget x)) at.sources
    ∙ ap (λ (b : ℕ). drawn_in lots (members b s.sources)) at.budget

-- so is their text
pub text_at : (s : State) (session : Session) → IsAt s session → (lots : List (List ℕ))
    → text_in mesh_drawn session.city session.decimals lots ≡ text_of s lots
text_at s session at lots =
    obj_by lots (in_lots session.city lots) session.decimals
    ∙ ap (λ (d : ℕ). obj_text_of lots (in_lots session.city lots) d) at.decimals
    ∙ ap (λ (drawn : List Drawn). obj_text_of lots drawn s.decimals) (drawn_at s session at lots)

-- a model that is too large is refused
model_over : (w : WardrobeView) (lots : List (List ℕ)) (drawn : List Drawn) (d : ℕ)
    → is_too_large (dressed_mesh w) drawn ≡ true → model_text_of w lots drawn d ≡ Err (record {})
unfolding model_text_of
model_over w lots drawn d e =
    ap (λ (b : Bool). if b then Err (record {}) else Ok (text_by (dressed_mesh w) lots drawn d)) e

model_under : (w : WardrobeView) (lots : List (List ℕ)) (drawn : List Drawn) (d : ℕ)
    → is_too_large (dressed_mesh w) drawn ≡ false
    → model_text_of w lots drawn d ≡ Ok (text_by (dressed_mesh w) lots drawn d)
unfolding model_text_of
model_under w lots drawn d e =
    ap (λ (b : Bool). if b then Err (record {}) else Ok (text_by (dressed_mesh w) lots drawn d)) e

model_at : (s : State) (session : Session) → IsAt s session → (lots : List (List ℕ))
    → model_text_of session.wardrobe lots (in_lots session.city lots) session.decimals ≡ model_of s lots
model_at s session at lots =
    ap (λ (w : WardrobeView). model_text_of w lots (in_lots session.city lots) session.decimals) at.wardrobe
    ∙ ap (λ (d : ℕ). model_text_of s.wardrobe lots (in_lots session.city lots) d) at.decimals
    ∙ ap (λ (drawn : List Drawn). model_text_of s.wardrobe lots drawn s.decimals) (drawn_at s session at lots)

-- the reply to a model by its size
pub large_at : (s : State) (session : Session) → IsAt s session → (lots : List (List ℕ)) (large : Bool)
    → large ≡ is_too_large (dressed_mesh session.wardrobe) (in_lots session.city lots) → large ≡ true
    → refusal_text_of refused.ModelTooLarge ≡ (modelled s (model_of s lots)).reply
large_at s session at lots large e is =
    ap (λ (r : Result (List ℕ) ModelTooLarge). (modelled s r).reply)
    (sym (model_over session.wardrobe lots (in_lots session.city lots) session.decimals (sym e ∙ is)) ∙ model_at s session at lots)

pub small_at : (s : State) (session : Session) → IsAt s session → (lots : List (List ℕ)) (large : Bool)
    → large ≡ is_too_large (dressed_mesh session.wardrobe) (in_lots session.city lots) → large ≡ false
    → text_in (dressed_mesh session.wardrobe) session.city session.decimals lots ≡ (modelled s (model_of s lots)).reply
small_at s session at lots large e is =
    ap (λ (r : Result (List ℕ) ModelTooLarge). (modelled s r).reply)
    (sym (model_under session.wardrobe lots (in_lots session.city lots) session.decimals (sym e ∙ is)) ∙ model_at s session at lots)

-- of one lot that is there
pub reported_there : (s : State) (report : Report) (lot : List ℕ) → is_some (lot_place lot s.sources.lots) ≡ true
    → (reported_of s report (lot ∷ [])).reply ≡ (reported s report (Some lot)).reply
reported_there s report lot e =
    ap (λ (b : Bool). (if b then reported_of s report (lot ∷ []) else refuses s (refused.Edit (cause.NoLot lot))).reply) (sym e)

-- of one that isn't
pub reported_gone : (s : State) (report : Report) (lot : List ℕ) → is_some (lot_place lot s.sources.lots) ≡ false
    → refusal_text_of (refused.Edit (cause.NoLot lot)) ≡ (reported s report (Some lot)).reply
reported_gone s report lot e =
    ap (λ (b : Bool). (if b then reported_of s report (lot ∷ []) else refuses s (refused.Edit (cause.NoLot lot))).reply) (sym e)

-- the lot is there in the state as in the city
pub lot_at : (s : State) (session : Session) → IsAt s session → (lot : List ℕ) (b : Bool)
    → b ≡ is_some (lot_place lot session.city.sources.lots) → is_some (lot_place lot s.sources.lots) ≡ b
lot_at s session at lot b e = sym (e ∙ ap (λ (x : Sources). is_some (lot_place lot x.lots)) at.sources)

-- a report only says its text
modelled_says : (s : State) (r : Result (List ℕ) ModelTooLarge) → modelled s r ≡ says s (modelled s r).reply
modelled_says s (Ok text) = refl
modelled_says s (Err large) = refl

of_says : (s : State) (report : Report) (lots : List (List ℕ))
    → reported_of s report lots ≡ says s (reported_of s report lots).reply
of_says s Print lots = refl
of_says s Model lots = modelled_says s (model_of s lots)

by_place : (s : State) (e other : Effect) (b : Bool) → e ≡ says s e.reply → other ≡ says s other.reply
    → (if b then e else other) ≡ says s (if b then e else other).reply
by_place s e other true one two = one
by_place s e other false one two = two

reported_says : (s : State) (report : Report) (name : Option (List ℕ))
    → reported s report name ≡ says s (reported s report name).reply
reported_says s report None = of_says s report (names_of s.sources.lots)
reported_says s report (Some lot) =
    by_place s (reported_of s report (lot ∷ [])) (refuses s (refused.Edit (cause.NoLot lot)))
    (is_some (lot_place lot s.sources.lots)) (of_says s report (lot ∷ [])) refl

-- the command that asks for a report does what it is
done_reports : (s : State) (report : Report) (name : Option (List ℕ))
    → done_by s (asks_for report name) ≡ reported s report name
done_reports s Print None = refl
done_reports s Print (Some lot) = refl
done_reports s Model None = refl
done_reports s Model (Some lot) = refl

report_says : (s : State) (report : Report) (name : Option (List ℕ)) (text : List ℕ)
    → text ≡ (reported s report name).reply → Says (done_by s (asks_for report name)) text
report_says s report name text is =
    done_reports s report name ∙ reported_says s report name ∙ ap (λ (t : List ℕ). says s t) (sym is)
    ∙ ap (λ (e : Effect). says e.state text) (sym (done_reports s report name ∙ reported_says s report name))

pub ok_says : (s : State) (report : Report) (name : Option (List ℕ)) (result : Result (List ℕ) NoMemory)
    → IfOk result (λ (text : List ℕ). text ≡ (reported s report name).reply)
    → IfOk result (Says (done_by s (asks_for report name)))
ok_says s report name (Err none) is = tt
ok_says s report name (Ok text) is = report_says s report name text is

pub none_there : {A : Type 0} (b : Option A) → is_some b ≡ false → b ≡ None
none_there None e = refl
none_there (Some x) e = absurd (let q : true ≡ false = e in cc)

pub some_weaker : {A : Type 0} (o : Option A) (P Q : A → Type 0) → ((x : A) → P x → Q x) → IfSome o P → IfSome o Q
some_weaker None P Q h p = tt
some_weaker (Some x) P Q h p = h x p

asked_reports : (s : State) (report : Report) (name : Option (List ℕ))
    → asked s (Ok (asks_for report name)) ≡ reported (begun s) report name
asked_reports s Print name = done_reports (begun s) Print name
asked_reports s Model name = done_reports (begun s) Model name

-- a line that asks for a report, outside of a block
pub asks : (s : State) (line : Line) (told : Bool) (version : Version) (found : Result ScriptCommand LineFault)
    (report : Report) (name : Option (List ℕ)) → s.block ≡ None → told ≡ (s.fresh && is_version_line line) → told ≡ false → version ≡ s.version
    → CommandTells version line found → found ≡ Ok (asks_for report name)
    → effect s line ≡ reported (begun s) report name
asks s line told version found report name none e isnt v h is =
    effect_none s line none ∙ outside_asked s line told version found e isnt v h ∙ ap (asked s) is
    ∙ asked_reports s report name

pub begun_at : (s : State) (old : Session) → IsAt s old → IsAt (begun s) (record old { fresh = false })
begun_at s old at = record {
  decimals = at.decimals;
  fresh = refl;
  version = at.version;
  sources = at.sources;
  budget = at.budget;
  warm = at.warm;
  kept = at.kept;
  number = at.number;
  block = at.block;
  quiet = at.quiet;
  wardrobe = at.wardrobe;
}

-- the session has come to its state, and its works are none
pub report_did : (s : State) (old : Session) (report : Report) (name : Option (List ℕ)) (n : ℕ) → IsAt s old
    → Did (reported (begun s) report name) old.city.changes (record old { fresh = false })
    (reported (begun s) report name).reply n n
report_did s old report name n at =
    let text = (reported (begun s) report name).reply in
    subst (λ (e : Effect). Did e old.city.changes (record old { fresh = false }) text n n) (sym (reported_says (begun s) report name))
    (record { is_at = begun_at s old at; reply = refl; spent = refl; changed = λ e. e })
