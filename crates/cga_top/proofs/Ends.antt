-- What a run comes to, by its end.
use Rattle.std.proofs.Common.{◌≡◌, ◌≢◌, ◌∙◌, ◌⊎◌, inl, inr, ℕ, ◌+◌, ◌≤◌, ◌<◌, List, [], ◌++◌, length, take, Option, Some, None, refl, sym, ap, subst, arith}
use Rattle.std.proofs.lemmas.List.{append-nil, take_all}
use Rattle.std.proofs.lemmas.List.Elements.{All-nil}
use Rattle.std.specs.Prelude.{IfSome, IsTrue}
use Rattle.std.specs.Io.KnownBytes.{Appends, Consumes, IsAtEnd, Keeps}
use Rattle.cga_outside.specs.Causes.{Rose}
use Rattle.cga_script.specs.Lines.{cut, lines_of}
use Rattle.cga_script.specs.Pending.{Pending, kept_of}
use Rattle.cga_script.specs.declared.ending.Ending.TheVariants.{Open}
use Rattle.cga_script.proofs.Door.{rest_of_part}
use Rattle.cga_top.specs.Faults.{FaultsAt}
use Rattle.cga_top.specs.Lived.{Begun, Finished, Unfinished, behind_all}
use Rattle.cga_top.specs.Outside.{Outside}
use Rattle.cga_top.specs.Output.{effect_of_all, effect_of_lines, effect_of_script}
use Rattle.cga_top.specs.Prefixes.{AppendsSome}
use Rattle.cga_top.specs.Reads.{IsHalted, IsRead, limit, pending_after, read_limit}
use Rattle.cga_top.specs.Session.{IsAt}
use Rattle.cga_top.specs.State.{State, start}
use Rattle.cga_top.specs.Talks.{SaysSome, TalkMeans, TalksAll, TalksLines, TalksPrefix}
use Rattle.cga_top.specs.Turns.{Talk, all_lines, end_of, last_of, text_by}
use Rattle.cga_top.specs.declared.halt.Halt.{Halt}
use Rattle.cga_top.specs.declared.halt.Halt.TheVariants as cause
use Rattle.cga_top.specs.declared.session.Session.{Session}
use Rattle.cga_words.specs.declared.status.Status.{Status}
use Rattle.cga_words.specs.declared.status.Status.TheVariants.{Done, NoMemory, ReadFault, TooLong, WriteFault}
use Rattle.cga_top.proofs.Effects.{some_nothing, spent_then}
use Rattle.cga_top.proofs.Gives.{gave_nothing, gave_same, same_more}
use Rattle.cga_top.proofs.Lived.{begun_all, finished_some}
use Rattle.cga_top.proofs.WholeScript.{says_all, says_known, says_read, says_some, last_state, state_is}
pub use Rattle.cga_top.proofs.Gives.{SameSource}
pub use Rattle.cga_fraction.proofs.Door.{all_of_it}

pub some_kept : (a b c : Option (List ℕ)) (text : List ℕ) → Appends a b text → Keeps b c → AppendsSome a c text
some_kept a b c text p q = (length text, let e : take (length text) text ≡ text = take_all (length text) text (omega arith) in rw e (all_of_it a b c text p q))

-- a fact of what the source tells
pub by_bytes : (P : List ℕ → Type 0) (known : Option (List ℕ)) → ((bytes : List ℕ) → known ≡ Some bytes → P bytes)
    → IfSome known P
by_bytes P None each = tt
by_bytes P (Some bytes) each = each bytes refl

-- a flush gave the wanted status, or a write fault
pub record IsFlushed (status wanted : Status) (old new : Outside) : Type 0 where
  pub source : SameSource old new
  pub expanded : new.expanded ≡ old.expanded
  pub held : Keeps old.held new.held
  pub answers : (status ≡ wanted) ⊎ (status ≡ WriteFault)
  pub done : status ≢ WriteFault → IsTrue new.flushed
  pub fault : status ≢ wanted → Rose old.writes_failed new.writes_failed
  pub calm : status ≢ WriteFault → new.writes_failed ≡ old.writes_failed

-- the status after a flush is the wanted one with what it means, or a write fault with what that means
pub flushed_as : (means : Status → Type 0) (status wanted : Status) (old mid new : Outside) → wanted ≢ WriteFault
    → IsFlushed status wanted mid new → mid.writes_failed ≡ old.writes_failed
    → (IsTrue new.flushed → new.writes_failed ≡ old.writes_failed → means wanted)
    → (Rose old.writes_failed new.writes_failed → means WriteFault) → means status
flushed_as means status wanted old mid new other f calm fine bad = elim f.answers [
  | inl is ↦ let kept : status ≢ WriteFault = λ e. other (sym is ∙ e) in subst means (sym is) (fine (f.done kept) (f.calm kept ∙ calm))
  | inr is ↦ let unwanted : status ≢ wanted = λ e. other (sym e ∙ is) in subst means (sym is) (bad (subst (λ (n : ℕ). Rose n new.writes_failed) calm (f.fault unwanted)))
]

-- the whole script was read
pub all_taken : (read bytes : List ℕ) (left : Option (List ℕ)) → Consumes (Some bytes) left read → IsAtEnd left
    → read ≡ bytes
all_taken read bytes None taken at_end = absurd taken
all_taken read bytes (Some rest) taken at_end = sym (taken ∙ ap (λ (x : List ℕ). read ++ x) at_end ∙ append-nil read)

-- ---- by the end

-- what was told when reading failed or went too far
lines_told : (told : Talk) (d : ℕ) (read : List ℕ) (old mid new : Outside) (session : Session) (pending : Pending)
    → IsRead told d read old mid session pending → SameSource mid new → new.expanded ≡ mid.expanded
    → Keeps mid.held new.held → TalksLines told d read old new
lines_told told d read old mid new session pending r source expanded keeps =
    record {
      gave = gave_same read old mid new r.gave source;
      turns = r.lived.turns;
      lines = r.lived.lines_are;
      changed = r.lived.changed;
      written = all_of_it old.held mid.held new.held (text_by told (start d) r.lived.turns) r.lived.written keeps;
      spent = record { by = spent_then (effect_of_lines d (take limit read)).works old.expanded mid.expanded new.expanded expanded r.lived.spent };
    }

read_some : (told : Talk) (d : ℕ) (read : List ℕ) (old mid new : Outside) (session : Session) (pending : Pending)
    → IsRead told d read old mid session pending → SameSource mid new → Keeps mid.held new.held
    → TalksPrefix told d old new
read_some told d read old mid new session pending r source keeps =
    let begun : Begun told (start d) (lines_of (take limit read)) old.held new.held =
    begun_all told (start d) (lines_of (take limit read)) session old.held mid.held new.held old.expanded mid.expanded r.lived keeps in
    record {
      read = read;
      gave = gave_same read old mid new r.gave source;
      begins = says_read told d read old.held new.held begun;
      of_all = says_known told d old.left mid.left read old.held new.held r.gave.taken begun;
    }

pub failed_means : (told : Talk) (d : ℕ) (status : Status) (old mid new : Outside) (session : Session)
    (pending : Pending)
    (read : List ℕ)
    → IsRead told d read old mid session pending → length read ≤ limit → Rose old.reads_failed mid.reads_failed
    → IsFlushed status ReadFault mid new → TalkMeans told d status old new
failed_means told d status old mid new session pending read r few rose f =
    let other : ReadFault ≢ WriteFault = λ e. cc in
    flushed_as (λ (s : Status). TalkMeans told d s old new) status ReadFault old mid new other f r.calm
    (λ flushed calm. (
      subst (Rose old.reads_failed) (sym f.source.reads) rose,
      flushed,
      calm,
      (read, few, lines_told told d read old mid new session pending r f.source f.expanded f.held),
    ))
    (λ failed. (failed, read_some told d read old mid new session pending r f.source f.held))

pub too_long_means : (told : Talk) (d : ℕ) (status : Status) (old mid new : Outside) (session : Session)
    (pending : Pending)
    (read : List ℕ)
    → IsRead told d read old mid session pending → limit < length read → length read ≤ limit + read_limit
    → mid.reads_failed ≡ old.reads_failed → IsFlushed status TooLong mid new → TalkMeans told d status old new
too_long_means told d status old mid new session pending read r many most reads f =
    let other : TooLong ≢ WriteFault = λ e. cc in
    flushed_as (λ (s : Status). TalkMeans told d s old new) status TooLong old mid new other f r.calm
    (λ flushed calm. (
      flushed,
      record { reads = f.source.reads ∙ reads; writes = calm },
      (read, many, most, lines_told told d read old mid new session pending r f.source f.expanded f.held),
    ))
    (λ failed. (failed, read_some told d read old mid new session pending r f.source f.held))

-- the whole script was read
module _ (told : Talk) (d : ℕ) (read : List ℕ) (old mid : Outside) (session : Session) (pending : Pending) (r : IsRead told d read old mid session pending)
    (few : length read ≤ limit) (at_end : IsAtEnd mid.left) where
  all_read : (bytes : List ℕ) → old.left ≡ Some bytes → take limit read ≡ bytes
  all_read bytes known = take_all limit read few ∙ all_taken read bytes mid.left (subst (λ (left : Option (List ℕ)). Consumes left mid.left read) known r.gave.taken) at_end

  pub end_some : (new : Outside) → SameSource mid new
      → Unfinished told (effect_of_lines d (take limit read)).state (last_of (cut (take limit read)).rest) mid.held
      new.held → TalksPrefix told d old new
  end_some new source u =
      let some : SaysSome told d (take limit read) old.held new.held =
      says_some told d (take limit read) session old.held mid.held new.held old.expanded mid.expanded r.lived u in
      record {
        read = read;
        gave = gave_same read old mid new r.gave source;
        begins = subst (λ (x : List ℕ). SaysSome told d x old.held new.held) (take_all limit read few) some;
        of_all = by_bytes (λ bytes. SaysSome told d bytes old.held new.held) old.left (λ bytes known. subst (λ (x : List ℕ). SaysSome told d x old.held new.held) (all_read bytes known) some);
      }

  all_told : (next : Session) (last new : Outside)
      → Finished told (effect_of_lines d (take limit read)).state (last_of (cut (take limit read)).rest) next mid.held
      last.held mid.expanded last.expanded
      → new.expanded ≡ last.expanded → Keeps last.held new.held → TalksAll told d read old new
  all_told next last new q expanded keeps =
      let is : take limit read ≡ read = take_all limit read few in
      let all = says_all told d (take limit read) session next old.held mid.held last.held old.expanded mid.expanded last.expanded r.lived q in
      let talks : TalksAll told d (take limit read) old new = record {
        few = subst (λ (x : List ℕ). length x ≤ limit) (sym is) few;
        says = record {
          turns = all.0.turns;
          lines = all.0.lines;
          changed = all.0.changed;
          written = all_of_it old.held last.held new.held _ all.0.written keeps;
        };
        spent = record { by = spent_then (effect_of_script d (take limit read)).works old.expanded last.expanded new.expanded expanded all.1 };
      } in
      subst (λ (x : List ℕ). TalksAll told d x old new) is talks

  pub done_means : (status : Status) (next : Session) (last new : Outside) → IsTrue mid.ended
      → mid.reads_failed ≡ old.reads_failed
      → Finished told (effect_of_lines d (take limit read)).state (last_of (cut (take limit read)).rest) next mid.held
      last.held mid.expanded last.expanded
      → SameSource mid last → last.writes_failed ≡ mid.writes_failed → IsFlushed status Done last new
      → TalkMeans told d status old new
  done_means status next last new ended reads q source writes f =
      let other : Done ≢ WriteFault = λ e. cc in
      let same : SameSource mid new = same_more mid last new source f.source in
      let over : IsTrue new.ended = rw same.ended ended in
      flushed_as (λ (s : Status). TalkMeans told d s old new) status Done old last new other f (writes ∙ r.calm)
      (λ flushed calm. (
        over,
        flushed,
        record { reads = same.reads ∙ reads; writes = calm },
        (read, gave_same read old mid new r.gave same, subst IsAtEnd (sym same.left) at_end, all_told next last new q f.expanded f.held),
      ))
      (λ failed. (
        failed,
        end_some new same (finished_some told (effect_of_lines d (take limit read)).state
            (last_of (cut (take limit read)).rest) next mid.held last.held new.held mid.expanded last.expanded q f.held),
      ))

-- and so the session has come to the state of the whole script
pub came_to : (told : Talk) (d : ℕ) (read : List ℕ) (old mid : Outside) (session next : Session) (pending : Pending)
    → IsRead told d read old mid session pending → length read ≤ limit
    → IsAt (last_state d (take limit read)) next
    → (bytes : List ℕ) × (mid.given ≡ old.given ++ bytes) × IsAt (effect_of_script d bytes).state next
came_to told d read old mid session next pending r few at =
    let whole : IsAt (effect_of_script d (take limit read)).state next = subst (λ (s : State). IsAt s next) (state_is d (take limit read)) at in
    (read, r.gave.given, subst (λ (x : List ℕ). IsAt (effect_of_script d x).state next) (take_all limit read few) whole)

pub halted_means : (told : Talk) (d : ℕ) (halt : Halt) (status : Status) (old new : Outside)
    → (halt ≡ cause.WriteFault → status ≡ WriteFault) → (halt ≡ cause.NoMemory → status ≡ NoMemory)
    → FaultsAt halt old.writes_failed new.writes_failed → new.reads_failed ≡ old.reads_failed
    → TalksPrefix told d old new → TalkMeans told d status old new
halted_means told d cause.WriteFault status old new write memory faults reads some =
    subst (λ (s : Status). TalkMeans told d s old new) (sym (write refl)) (faults, some)
halted_means told d cause.NoMemory status old new write memory faults reads some =
    subst (λ (s : Status). TalkMeans told d s old new) (sym (memory refl)) (record { reads = reads; writes = faults }, some)

pub halted_some : (told : Talk) (d : ℕ) (read : List ℕ) (old new : Outside) → IsHalted told d read old new
    → TalksPrefix told d old new
halted_some told d read old new h = record {
  read = read;
  gave = h.gave;
  begins = says_read told d read old.held new.held h.begun;
  of_all = says_known told d old.left new.left read old.held new.held h.gave.taken h.begun;
}

-- no memory at the start
none_told : (told : Talk) (d : ℕ) (o : Outside) (bytes : List ℕ) → SaysSome told d bytes o.held o.held
none_told told d o bytes = record {
  turns = [];
  left = all_lines bytes;
  lines = refl;
  changed = tt;
  written = some_nothing o.held (behind_all (all_lines bytes) (end_of d bytes));
}

pub none_means : (told : Talk) (d : ℕ) (o : Outside) → TalkMeans told d NoMemory o o
none_means told d o = (
  record { reads = refl; writes = refl },
  record {
    read = [];
    gave = gave_nothing o;
    begins = none_told told d o [];
    of_all = by_bytes (λ bytes. SaysSome told d bytes o.held o.held) o.left (λ bytes known. none_told told d o bytes);
  },
)

-- Nothing kept is what is pending before the first byte.
pub start_pending : (p : Pending) → p ≡ record { kept = []; ending = Open } → p ≡ pending_after []
start_pending p e = e ∙ ap (λ (k : List ℕ). record { kept = kept_of k; ending = Open }) (sym (rest_of_part [] (All-nil (λ (b : ℕ). b ≢ 10))))
