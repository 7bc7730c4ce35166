-- What is told behind the output.
use Rattle.std.proofs.Common.{◌≡◌, ◌≢◌, ◌∙◌, ◌⊎◌, inl, inr, ℕ, List, ◌++◌, length, Option, Some, None, refl, sym, ap, subst}
use Rattle.std.specs.Prelude.{IfSome, IsTrue}
use Rattle.std.proofs.Math.Seq.{take-length}
use Rattle.std.specs.Io.KnownBytes.{Appends, IsAtEnd}
use Rattle.cga_outside.specs.Causes.{Rose}
use Rattle.cga_shape.specs.declared.sources.Sources.{Sources}
use Rattle.cga_city.specs.Derived.{members}
use Rattle.cga_words.specs.declared.status.Status.{Status}
use Rattle.cga_words.specs.declared.status.Status.TheVariants.{Done, Usage, ReadFault, WriteFault, TooLong, NoMemory}
use Rattle.cga_top.specs.Hulls.{IsHullText, IsToldIn, IsToldOf}
use Rattle.cga_top.specs.Output.{effect_of_script, output_of}
use Rattle.cga_top.specs.Outside.{Gave, Outside}
use Rattle.cga_top.specs.Prefixes.{AppendsSome}
use Rattle.cga_top.specs.Session.{IsAt}
use Rattle.cga_top.specs.State.{State}
use Rattle.cga_top.specs.Statuses.{HoldsFew, StatusMeans, WritesAll}
use Rattle.cga_top.specs.Talks.{TalkMeans}
use Rattle.cga_top.specs.Telling.{TellMeans, TellingMeans, TellsAll, TellsSome}
use Rattle.cga_top.specs.declared.session.Session.{Session}
use Rattle.cga_top.proofs.Complete.{complete_of, of_left}
use Rattle.cga_top.proofs.Effects.{some_after, spent_then}
use Rattle.cga_top.proofs.Ends.{IsFlushed, SameSource, all_of_it, flushed_as, some_kept}
use Rattle.cga_top.proofs.Gives.{gave_same, same_given}
use Rattle.cga_top.proofs.Known.{appends_more}
use Rattle.cga_top.proofs.Silent.{known_more, nothing_told, status_means}

-- what is told of a session's lots
abbrev pub ToldBy : Session → List ℕ → Type 0
ToldBy session text = IsHullText (members session.city.budget session.city.sources) session.city.sources.lots text

told_in : (s : State) (session : Session) (text : List ℕ) → IsAt s session → ToldBy session text → IsToldIn s text
told_in s session text at told =
    subst (λ (b : ℕ). IsHullText (members b s.sources) s.sources.lots text) at.budget
    (subst (λ (x : Sources). IsHullText (members session.city.budget x) x.lots text) at.sources told)

-- all of the text was written, and then flushed
pub tell_done : (Tells : List ℕ → Type 0) (text : List ℕ) (status : Status) (old mid new : Outside) → Tells text
    → Appends old.held mid.held text → mid.writes_failed ≡ old.writes_failed
    → IsFlushed status Done mid new → TellMeans Tells status old new
tell_done Tells text status old mid new told all calm f =
    let other : Done ≢ WriteFault = λ e. cc in
    flushed_as (λ (s : Status). TellMeans Tells s old new) status Done old mid new other f calm
    (λ flushed still. (flushed, still, (text, told, all_of_it old.held mid.held new.held text all f.held)))
    (λ rose. (rose, (text, told, some_kept old.held mid.held new.held text all f.held)))

some_all : (a b : Option (List ℕ)) (bytes : List ℕ) → Appends a b bytes → AppendsSome a b bytes
some_all a b bytes p = (length bytes, rw take-length p)

-- behind a script that was done
module _ (d : ℕ) (session : Session) (old mid new : Outside) (done : StatusMeans d Done old mid)
    (came : (bytes : List ℕ) × (mid.given ≡ old.given ++ bytes) × IsAt (effect_of_script d bytes).state session)
    (source : SameSource mid new) (spent : new.expanded ≡ mid.expanded) where
  abbrev bytes : List ℕ
  bytes = done.3.0

  w : WritesAll d bytes old mid
  w = done.3.3

  at_state : IsAt (effect_of_script d bytes).state session
  at_state = subst (λ (x : List ℕ). IsAt (effect_of_script d x).state session) (same_given old.given came.0 bytes mid.given came.1 done.3.1.given) came.2

  gave : Gave bytes old new
  gave = gave_same bytes old mid new done.3.1 source

  ended : IsAtEnd new.left
  ended = subst IsAtEnd (sym source.left) done.3.2

  -- what holds of what was given holds of all that was left
  of_all : (P : List ℕ → Type 0) → P bytes → IfSome old.left P
  of_all P p = of_left P old.left new.left bytes gave.taken ended p

  told_all : (text : List ℕ) → ToldBy session text → Appends mid.held new.held text → TellsAll d bytes old new
  told_all text told all = record {
    few = w.few;
    text = text;
    told = told_in (effect_of_script d bytes).state session text at_state told;
    output = appends_more old.held mid.held new.held (output_of d bytes) text w.output all;
    spent = record { by = spent_then (effect_of_script d bytes).works old.expanded mid.expanded new.expanded spent w.spent.by };
  }

  told_some : (text : List ℕ) → ToldBy session text → AppendsSome mid.held new.held text → TellsSome d bytes old new
  told_some text told some =
      inr (text, told_in (effect_of_script d bytes).state session text at_state told, some_after old.held mid.held new.held (output_of d bytes) text w.output some)

  none_told : new ≡ mid → AppendsSome old.held new.held (output_of d bytes)
  none_told same = subst (λ (o : Outside). AppendsSome old.held o.held (output_of d bytes)) (sym same) (some_all old.held mid.held (output_of d bytes) w.output)

  pub telling_means : (status : Status) → TellMeans (ToldBy session) status mid new → TellingMeans d status old new
  telling_means Done t = (
    rw source.ended done.0,
    t.0,
    record { reads = source.reads ∙ done.2.reads; writes = t.1 ∙ done.2.writes },
    (bytes, gave, ended, told_all t.2.0 t.2.1 t.2.2),
  )
  telling_means WriteFault t = (
    subst (λ (n : ℕ). Rose n new.writes_failed) done.2.writes t.0,
    (let some : TellsSome d bytes old new = told_some t.1.0 t.1.1 t.1.2 in
        record { read = bytes; gave = gave; begins = some; of_all = of_all (λ x. TellsSome d x old new) some }),
  )
  telling_means NoMemory same = (
    record { reads = source.reads ∙ done.2.reads; writes = ap (λ (o : Outside). o.writes_failed) same ∙ done.2.writes },
    record { read = bytes; gave = gave; begins = none_told same; of_all = of_all (λ x. AppendsSome old.held new.held (output_of d x)) (none_told same) },
  )
  telling_means ReadFault bad = absurd bad
  telling_means TooLong bad = absurd bad
  telling_means Usage bad = absurd bad

untold_status : (d : ℕ) (status : Status) (old new : Outside) → StatusMeans d status old new → status ≢ Done
    → TellingMeans d status old new
untold_status d Done old new m other = absurd (other refl)
untold_status d WriteFault old new m other = (
  m.0,
  record {
    read = m.1.read;
    gave = m.1.gave;
    begins = inl m.1.begins;
    of_all = known_more _ (λ bytes. TellsSome d bytes old new) old.left m.1.of_all (λ bytes some. inl some);
  },
)
untold_status d ReadFault old new m other = m
untold_status d TooLong old new m other = m
untold_status d NoMemory old new m other = m
untold_status d Usage old new m other = m

-- where nothing more was told
pub untold_means : (d : ℕ) (status : Status) (old new : Outside) → TalkMeans nothing_told d status old new
    → status ≢ Done → TellingMeans d status old new
untold_means d status old new m other = untold_status d status old new (status_means d status old new m) other

pub telling_complete : (d : ℕ) (status : Status) (old new : Outside) → TellingMeans d status old new
    → HoldsFew old.left → (Rose old.reads_failed new.reads_failed → ⊥)
    → (Rose old.writes_failed new.writes_failed → ⊥) → status ≢ Usage
    → (status ≡ Done) ⊎ (status ≡ NoMemory)
telling_complete d Done old new m few calm silent used = inl refl
telling_complete d NoMemory old new m few calm silent used = inr refl
telling_complete d WriteFault old new m few calm silent used = absurd (silent m.0)
telling_complete d ReadFault old new m few calm silent used = complete_of d ReadFault old new m few calm silent used
telling_complete d TooLong old new m few calm silent used = complete_of d TooLong old new m few calm silent used
telling_complete d Usage old new m few calm silent used = absurd (used refl)

-- where all was done, all was told of what was left
pub told_left : (d : ℕ) (status : Status) (old new : Outside) → TellingMeans d status old new → status ≡ Done
    → IfSome old.left (λ bytes. (text : List ℕ) × IsToldOf d bytes text
    × Appends old.held new.held (output_of d bytes ++ text))
told_left d status old new means done =
    let all = subst (λ (s : Status). TellingMeans d s old new) done means in
    of_left (λ bytes. (text : List ℕ) × IsToldOf d bytes text × Appends old.held new.held (output_of d bytes ++ text)) old.left new.left
    all.3.0 all.3.1.taken all.3.2 (all.3.3.text, all.3.3.told, all.3.3.output)
