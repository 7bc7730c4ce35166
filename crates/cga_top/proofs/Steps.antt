-- What an edit, an undo and a redo do.
use Rattle.std.proofs.Common.{◌≡◌, ◌≢◌, ◌∙◌, ℕ, ◌+◌, ◌-◌, ◌≤◌, List, length, Option, Some, None, Result, Ok, Err, refl, sym, ap, subst, IfOk, OnOk, arith}
use Rattle.std.specs.Prelude.{All, slice_get}
use Rattle.cga_fraction.specs.declared.memory.NoMemory.{NoMemory}
use Rattle.cga_shape.specs.declared.edit.Edit.{Edit}
use Rattle.cga_shape.specs.declared.edit.Edit.TheVariants as edit
use Rattle.cga_shape.specs.declared.edit_refused.EditRefused.{EditRefused}
use Rattle.cga_shape.specs.declared.edit_refused.EditRefused.TheVariants as cause
use Rattle.cga_shape.specs.declared.sources.Sources.{Sources}
use Rattle.cga_city.specs.Apply.{apply}
use Rattle.cga_bill.specs.Bill.{Balances}
use Rattle.cga_city.specs.City.{CityState, HasDistinctLots, IsDone}
use Rattle.cga_city.specs.Derived.{members}
use Rattle.cga_city.proofs.Door.{gone_reported}
use Rattle.cga_city.specs.declared.limits.TheConstants.{BUDGET_TWO}
use Rattle.cga_update.specs.Updates.{CountsTouched}
use Rattle.cga_undo.specs.History.{Kept, Step, noted, undone, redone, turned}
use Rattle.cga_script.specs.Refusals.{refusal_text_of}
use Rattle.cga_script.specs.declared.refused.Refused.{Refused}
use Rattle.cga_script.specs.declared.version.Version.{Version}
use Rattle.cga_script.specs.declared.version.Version.TheVariants.{One, Two}
use Rattle.cga_script.specs.declared.refused.Refused.TheVariants as told
use Rattle.cga_top.specs.State.{State}
use Rattle.cga_top.specs.Effect.{Effect, SpentBy}
use Rattle.cga_top.specs.Changed.{AreChanges, drawn_from, no_changes}
use Rattle.cga_top.specs.Ready.{drawn_by, Accepts, IsReady, MayHaveRead, Refuses, Tells, Works}
use Rattle.cga_top.specs.Replies.{changed, applied, edited, noted_by, stepped, refuses, ok_reply, budget_of}
use Rattle.cga_top.specs.Session.{IsAt, IsOpen, Did}
use Rattle.cga_top.specs.Written.{AreWritten, IsWritten}
use Rattle.cga_top.specs.declared.session.Session.{Session}
use Rattle.cga_top.proofs.Bills.{balances}
use Rattle.cga_top.proofs.Numbers.{CanBeLeft, left_at, number_of}
use Rattle.cga_top.proofs.Histories.{left_by, undone_some, undone_none, redone_some, redone_none}
use Rattle.cga_top.proofs.Prints.{applied_prints}

pub on_ok : {T E : Type 0} (r : Result T E) (P : Type 0) → P → OnOk r P
on_ok (Ok x) P p = p
on_ok (Err e) P p = tt

-- the step is known
pub no_step : (s : State) (none : Refused) (step : Option Step) → step ≡ None → stepped s none step ≡ refuses s none
no_step s none step e = ap (stepped s none) e

pub some_step : (s : State) (none : Refused) (step : Option Step) (some : Step) → step ≡ Some some
    → stepped s none step ≡ changed s some.left (applied s (edit.Whole some.taken))
some_step s none step some e = ap (stepped s none) e

-- there is a step to go, and it takes these sources
pub record IsStep (step : Option Step) (some : Step) (taken : Sources) : Type 0 where
  pub there : step ≡ Some some
  pub takes : taken ≡ some.taken

pub undone_there : (s : State) (history : Kept) (last : Sources) → history ≡ s.kept
    → slice_get history.past (length history.past - 1) ≡ Some last
    → undone s.kept s.sources ≡ Some (record { taken = last; left = left_by history s.sources })
undone_there s history last k e = ap (λ (h : Kept). undone h s.sources) (sym k) ∙ undone_some history s.sources last e

pub undone_nowhere : (s : State) (history : Kept) → history ≡ s.kept
    → slice_get history.past (length history.past - 1) ≡ None → undone s.kept s.sources ≡ None
undone_nowhere s history k e = ap (λ (h : Kept). undone h s.sources) (sym k) ∙ undone_none history s.sources e

pub redone_there : (s : State) (history : Kept) (last : Sources) → history ≡ s.kept
    → slice_get history.future (length history.future - 1) ≡ Some last
    → redone s.kept s.sources ≡ Some (record { taken = last; left = turned (left_by (turned history) s.sources) })
redone_there s history last k e = ap (λ (h : Kept). redone h s.sources) (sym k) ∙ redone_some history s.sources last e

pub redone_nowhere : (s : State) (history : Kept) → history ≡ s.kept
    → slice_get history.future (length history.future - 1) ≡ None → redone s.kept s.sources ≡ None
redone_nowhere s history k e = ap (λ (h : Kept). redone h s.sources) (sym k) ∙ redone_none history s.sources e

-- what it changed, from the sources of the state
are_changes : (s : State) (old : Session) (city : CityState) (e : Edit) (i j : ℕ) → IsAt s old
    → CanBeLeft old.city.budget old.city.sources e → IsDone old.city e city i j
    → AreChanges (budget_of s.version) s.sources city.sources city.changes
are_changes s old city e i j at can done =
    let changes : AreChanges old.city.budget old.city.sources city.sources city.changes = record {
      by = done.changed;
      there = gone_reported old.city.budget old.city.sources city.sources
          (members old.city.budget old.city.sources) (members old.city.budget city.sources) city.changes done.changed can.sound can.fits;
      balance = subst (λ (b : ℕ). Balances (drawn_by old.city) (drawn_from b city.sources) city.changes) done.budget_stays (balances old.city e city i j can done city.changes refl);
    } in
    subst (λ (b : ℕ). AreChanges b s.sources city.sources city.changes) at.budget
    (subst (λ (x : Sources). AreChanges old.city.budget x city.sources city.changes) at.sources changes)

-- an edit that was done
pub changed_did : (s : State) (old new : Session) (history : Kept) (e : Edit) (before : Sources) (reply : List ℕ)
    (i j : ℕ) → IsAt s old → HasDistinctLots e → Accepts old e before new i j → reply ≡ ok_reply new.quiet
    → Did (changed s history (applied s e)) old.city.changes (record new { history = history }) reply i j
changed_did s old new history e before reply i j at apart a r =
    let done = a.done in
    let city = new.city in
    let others = a.others in
    let can : CanBeLeft old.city.budget old.city.sources e = record { sound = a.sound; fits = a.fits; apart = apart } in
    let is : applied s e ≡ Ok city.sources = sym (ap (λ (x : Sources). apply x e old.city.budget) at.sources ∙ ap (λ (b : ℕ). apply s.sources e b) at.budget) ∙ done.applied in
    let touched = subst (λ (b : ℕ). CountsTouched s.sources city.sources (members b s.sources) (members b city.sources) city.expanded) at.budget
    (subst (λ (x : Sources). CountsTouched x city.sources (members old.city.budget x) (members old.city.budget city.sources) city.expanded) at.sources done.touched) in
    let spent = done.spent in
    let number = number_of s.sources city.sources e (budget_of s.version) city.expanded (left_at s old e at can) is touched in
    let count : city.expanded ≡ j - i = omega arith in
    subst (λ (t : Result Sources EditRefused). Did (changed s history t) old.city.changes (record new { history = history }) reply i j) (sym is)
    (record {
      is_at = record {
        decimals = ap (λ (x : Session). x.decimals) others ∙ at.decimals;
        fresh = ap (λ (x : Session). x.fresh) others ∙ at.fresh;
        version = ap (λ (x : Session). x.version) others ∙ at.version;
        sources = refl;
        budget = done.budget_stays ∙ at.budget;
        warm = done.warm_then;
        kept = refl;
        number = number;
        block = subst (IsOpen s.block) (sym (ap (λ (x : Session). x.block) others)) at.block;
        quiet = ap (λ (x : Session). x.quiet) others ∙ at.quiet;
        wardrobe = ap (λ (x : Session). x.wardrobe) others ∙ at.wardrobe;
      };
      reply = r ∙ ap ok_reply (ap (λ (x : Session). x.quiet) others ∙ at.quiet);
      spent = (omega arith, subst (CountsTouched s.sources city.sources (members (budget_of s.version) s.sources) (members (budget_of s.version) city.sources)) count touched);
      changed = λ none. are_changes s old city e i j at can done;
    })

-- what is noted is known by the version
noted_in : (s : State) (old : Session) (v : Version) → IsAt s old → old.version ≡ v
    → noted_by v s.kept s.sources ≡ noted_by s.version s.kept s.sources
noted_in s old v at is = ap (λ (w : Version). noted_by w s.kept s.sources) (sym is ∙ at.version)

-- at the state the edit was done, this history is left, and the text, where there was memory for it, says that it was done
pub record AcceptedAt (s : State) (old new : Session) (history left : Kept) (e : Edit) (before : Sources) (text : Result (List ℕ) NoMemory) (i j : ℕ) : Type 0 where
  pub is_at : IsAt s old
  pub apart : HasDistinctLots e
  pub accepts : Accepts old e before new i j
  pub kept : history ≡ left
  pub reply : IfOk text (λ t. t ≡ ok_reply new.quiet)

-- the sources before an edit that was done are noted
pub change_did : (s : State) (old new : Session) (history : Kept) (e : Edit) (before : Sources)
    (text : Result (List ℕ) NoMemory) (i j : ℕ)
    → old.version ≡ Two → AcceptedAt s old new history (noted new.history before) e before text i j
    → IfOk text (λ reply. Did (edited s e) old.city.changes (record new { history = history }) reply i j)
change_did s old new history e before (Err none) i j two h = tt
change_did s old new history e before (Ok reply) i j two h =
    let at = h.is_at in
    let a = h.accepts in
    let k : history ≡ noted s.kept s.sources =
    h.kept ∙ ap (λ (k : Kept). noted k before) (ap (λ (x : Session). x.history) a.others ∙ at.kept) ∙ ap (noted s.kept) (a.before_is ∙ at.sources) in
    subst (λ (k : Kept). Did (changed s k (applied s e)) old.city.changes (record new { history = history }) reply
    i j) (k ∙ noted_in s old Two at two) (changed_did s old new history e before reply i j at h.apart a h.reply)

-- and in version 1 they aren't
pub alone_did : (s : State) (old new : Session) (e : Edit) (text : Result (List ℕ) NoMemory) (i j : ℕ)
    → IsAt s old → old.version ≡ One → HasDistinctLots e → Accepts old e old.city.sources new i j
    → IfOk text (λ t. t ≡ ok_reply new.quiet)
    → IfOk text (λ reply. Did (edited s e) old.city.changes new reply i j)
alone_did s old new e (Err none) i j at one apart a r = tt
alone_did s old new e (Ok reply) i j at one apart a r =
    let k : new.history ≡ s.kept = ap (λ (x : Session). x.history) a.others ∙ at.kept in
    subst (λ (k : Kept). Did (changed s k (applied s e)) old.city.changes new reply i j) (k ∙ noted_in s old One at one) (changed_did s old new new.history e old.city.sources reply i j at apart a r)

pub step_did : (s : State) (old new : Session) (history : Kept) (none : Refused) (step : Option Step) (some : Step)
    (taken before : Sources) (text : Result (List ℕ) NoMemory) (i j : ℕ)
    → IsStep step some taken → AcceptedAt s old new history some.left (edit.Whole taken) before text i j
    → IfOk text (λ reply. Did (stepped s none step) old.city.changes (record new { history = history }) reply i j)
step_did s old new history none step some taken before (Err e) i j known h = tt
step_did s old new history none step some taken before (Ok reply) i j known h =
    let did : Did (changed s history (applied s (edit.Whole taken))) old.city.changes (record new { history = history }) reply i j =
    changed_did s old new history (edit.Whole taken) before reply i j h.is_at h.apart h.accepts h.reply in
    subst (λ (e : Effect). Did e old.city.changes (record new { history = history }) reply i j)
    (ap (λ (x : Sources). changed s history (applied s (edit.Whole x))) known.takes ∙ ap (λ (k : Kept). changed s k (applied s (edit.Whole some.taken))) h.kept
    ∙ sym (some_step s none step some known.there)) did

-- ---- what an edit answered

pub accepts_of : (old new : Session) (e : Edit) (answer : Result Sources EditRefused) (before : Sources) (i j : ℕ)
    → answer ≡ Ok before → Tells old e answer new i j → Accepts old e before new i j
accepts_of old new e answer before i j is h = subst (λ (r : Result Sources EditRefused). Tells old e r new i j) is h

pub refuses_of : (old new : Session) (e : Edit) (answer : Result Sources EditRefused) (refused : EditRefused) (i j : ℕ)
    → answer ≡ Err refused → Tells old e answer new i j → Refuses old e refused new i j
refuses_of old new e answer refused i j is h = subst (λ (r : Result Sources EditRefused). Tells old e r new i j) is h

pub works_of : (old new : Session) (e : Edit) (answer : Result (Unit {0}) EditRefused) (i j : ℕ) → answer ≡ Ok tt
    → Works old e answer new i j → Accepts old e old.city.sources new i j
works_of old new e answer i j is h = subst (λ (r : Result (Unit {0}) EditRefused). Works old e r new i j) is h

pub works_refused : (old new : Session) (e : Edit) (answer : Result (Unit {0}) EditRefused) (refused : EditRefused)
    (i j : ℕ)
    → answer ≡ Err refused → Works old e answer new i j → Refuses old e refused new i j
works_refused old new e answer refused i j is h = subst (λ (r : Result (Unit {0}) EditRefused). Works old e r new i j) is h

-- ---- refused

spent_refused : (old : Sources) (refused : EditRefused) (budget i j : ℕ) → i ≤ j → j ≤ i + (budget + 1)
    → (refused ≢ cause.OverBudget → j ≡ i) → SpentBy old budget (Err refused) i j
spent_refused old (cause.NoRule id) budget i j later most free = let n = free (λ e. cc) in (later, omega arith)
spent_refused old (cause.NoAttribute name) budget i j later most free = let n = free (λ e. cc) in (later, omega arith)
spent_refused old (cause.NoSymbol name) budget i j later most free = let n = free (λ e. cc) in (later, omega arith)
spent_refused old (cause.NoLot name) budget i j later most free = let n = free (λ e. cc) in (later, omega arith)
spent_refused old (cause.BadLot name) budget i j later most free = let n = free (λ e. cc) in (later, omega arith)
spent_refused old cause.TooManyLots budget i j later most free = let n = free (λ e. cc) in (later, omega arith)
spent_refused old (cause.Check fault) budget i j later most free = let n = free (λ e. cc) in (later, omega arith)
spent_refused old cause.OverBudget budget i j later most free = (later, most)
spent_refused old cause.NoMemory budget i j later most free = let n = free (λ e. cc) in (later, omega arith)

-- an edit that was refused
pub refused_did : (s : State) (old new : Session) (kept : Kept) (e : Edit) (refused : EditRefused)
    (text : Result (List ℕ) NoMemory) (i j : ℕ)
    → IsAt s old → Refuses old e refused new i j → IfOk text (λ t. t ≡ refusal_text_of (told.Edit refused))
    → IfOk text (λ reply. Did (changed s kept (applied s e)) old.city.changes new reply i j)
refused_did s old new kept e refused (Err none) i j at h is = tt
refused_did s old new kept e refused (Ok reply) i j at h is =
    let why = h.why in
    let cause : applied s e ≡ Err refused = sym (ap (λ (x : Sources). apply x e old.city.budget) at.sources ∙ ap (λ (b : ℕ). apply s.sources e b) at.budget) ∙ why.cause in
    subst (λ (t : Result Sources EditRefused). Did (changed s kept t) old.city.changes new reply i j) (sym cause)
    (record {
      is_at = subst (IsAt s) (sym h.same) at;
      reply = is;
      spent = subst (λ (b : ℕ). SpentBy s.sources b (Err refused) i j) at.budget (spent_refused s.sources refused old.city.budget i j why.later why.most why.unspent);
      changed = subst (λ (x : Session). old.city.changes ≡ no_changes → x.city.changes ≡ no_changes) (sym h.same) (λ none. none);
    })

-- at the state the edit was refused, and the text, where there was memory for it, tells why
pub record RefusedAt (s : State) (old new : Session) (e : Edit) (refused : EditRefused) (text : Result (List ℕ) NoMemory) (i j : ℕ) : Type 0 where
  pub is_at : IsAt s old
  pub refusal : Refuses old e refused new i j
  pub reply : IfOk text (λ t. t ≡ refusal_text_of (told.Edit refused))

pub step_refused : (s : State) (old new : Session) (none : Refused) (step : Option Step) (some : Step)
    (taken : Sources) (refused : EditRefused) (text : Result (List ℕ) NoMemory) (i j : ℕ)
    → IsStep step some taken → RefusedAt s old new (edit.Whole taken) refused text i j
    → IfOk text (λ reply. Did (stepped s none step) old.city.changes new reply i j)
step_refused s old new none step some taken refused text i j known h =
    subst (λ (e : Effect). IfOk text (λ reply. Did e old.city.changes new reply i j))
    (ap (λ (x : Sources). changed s some.left (applied s (edit.Whole x))) known.takes ∙ sym (some_step s none step some known.there))
    (refused_did s old new some.left (edit.Whole taken) refused text i j h.is_at h.refusal h.reply)

-- ---- the next line

-- an edit of the city leaves the history
pub history_same : (old new : Session) (e : Edit) (before : Sources) (i j : ℕ) → Accepts old e before new i j
    → new.history ≡ old.history
history_same old new e before i j a = ap (λ (x : Session). x.history) a.others

pub accepted_ready : (old new : Session) (history : Kept) (e : Edit) (before : Sources) (i j : ℕ) → IsReady old
    → IsWritten e → Accepts old e before new i j
    → All AreWritten history.past → All AreWritten history.future → IsReady (record new { history = history })
accepted_ready old new history e before i j ready written a past future = record {
  warm = a.done.warm_then;
  bill = a.bill;
  few = subst (λ (b : ℕ). b ≤ BUDGET_TWO) (sym a.done.budget_stays) ready.few;
  rules = applied_prints _ _ _ _ a.done.applied ready.rules written;
  past = past;
  future = future;
  block = subst MayHaveRead (sym (ap (λ (x : Session). x.block) a.others)) ready.block;
}

-- where nothing is noted
pub alone_ready : (old new : Session) (e : Edit) (i j : ℕ) → IsReady old → IsWritten e
    → Accepts old e old.city.sources new i j → IsReady new
alone_ready old new e i j ready written a =
    let same = history_same old new e old.city.sources i j a in
    accepted_ready old new new.history e old.city.sources i j ready written a
    (subst (λ (k : Kept). All AreWritten k.past) (sym same) ready.past) (subst (λ (k : Kept). All AreWritten k.future) (sym same) ready.future)

-- the sources before an edit are such as lines write
pub before_written : (old new : Session) (e : Edit) (before : Sources) (i j : ℕ) → IsReady old
    → Accepts old e before new i j → AreWritten before
before_written old new e before i j ready a =
    subst AreWritten (sym a.before_is) (record { printable = ready.rules; names = a.sound.names })
