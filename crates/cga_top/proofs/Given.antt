-- What a script that is there as a whole comes to.
use Rattle.std.proofs.Common.{◌≡◌, ◌≢◌, ◌∙◌, ◌⊎◌, inl, inr, ℕ, ◌++◌, List, [], Option, None, Some, refl, sym, ap, subst}
use Rattle.std.proofs.Math.Seq.{take-nil}
use Rattle.std.specs.Prelude.{IfSome}
use Rattle.std.proofs.lemmas.List.{append-nil}
use Rattle.std.proofs.lemmas.List.Elements.{All-nil}
use Rattle.std.specs.Io.KnownBytes.{Appends}
use Rattle.cga_outside.specs.Causes.{Rose}
use Rattle.cga_script.specs.Lines.{cut, lines_of}
use Rattle.cga_script.specs.Pending.{Pending, kept_of}
use Rattle.cga_script.proofs.Door.{rest_of_part}
use Rattle.cga_words.specs.Town.{town_text}
use Rattle.cga_top.specs.declared.halt.Halt.{Halt}
use Rattle.cga_top.specs.declared.session.Session.{Session}
use Rattle.cga_top.specs.declared.halt.Halt.TheVariants as cause
use Rattle.cga_words.specs.declared.status.Status.{Status}
use Rattle.cga_words.specs.declared.status.Status.TheVariants.{Done, Usage, ReadFault, WriteFault, TooLong, NoMemory}
use Rattle.cga_top.specs.State.{start}
use Rattle.cga_top.specs.Effect.{HasSpent}
use Rattle.cga_top.specs.Lived.{Begun, Lived}
use Rattle.cga_top.specs.Output.{effect_of_script, output_of}
use Rattle.cga_top.specs.Outside.{Outside}
use Rattle.cga_top.specs.Faults.{FaultsAt}
use Rattle.cga_top.specs.Prefixes.{AppendsSome}
use Rattle.cga_top.specs.Reads.{pending_after}
use Rattle.cga_top.specs.Runs.{GivenMeans, RunMeans, HoldsFewOr, IsScript, script_of}
use Rattle.cga_top.proofs.Complete.{complete_of, given_of, headline_of}
use Rattle.cga_top.proofs.Effects.{spent_then, some_nothing}
use Rattle.cga_top.proofs.Ends.{IsFlushed, all_of_it, some_kept}
use Rattle.cga_top.proofs.Silent.{nothing_told, unbegun_means, writes_some}
use Rattle.cga_top.proofs.WholeScript.{says_first}
use Rattle.cga_top.proofs.Gives.{gave_nothing}

-- no run was begun, for want of memory
pub unbegun_run : (d : ℕ) (town : Option ℕ) (o : Outside) → RunMeans d town NoMemory o o
unbegun_run d None o = unbegun_means d o
unbegun_run d (Some lots) o = (
  (refl, some_nothing o.held (output_of d (town_text lots))),
  record { given = refl; left = refl; ended = refl; reads = refl },
)

pub none_kept : (p : Pending) → p ≡ pending_after [] → p.kept ≡ []
none_kept p e = ap (λ (q : Pending). q.kept) e ∙ ap kept_of (rest_of_part [] (All-nil (λ (b : ℕ). b ≢ 10))) ∙ take-nil 4098

-- behind nothing that was kept
pub given_lived : (d : ℕ) (kept bytes : List ℕ) (session : Session) (a b : Option (List ℕ)) (i j : ℕ) → kept ≡ []
    → Lived nothing_told (start d) (lines_of (kept ++ bytes)) session a b i j
    → Lived nothing_told (start d) (lines_of bytes) session a b i j
given_lived d kept bytes session a b i j e p =
    subst (λ (k : List ℕ). Lived nothing_told (start d) (lines_of (k ++ bytes)) session a b i j) e p

pub rest_kept : (kept bytes p : List ℕ) → kept ≡ [] → p ≡ kept_of (cut (kept ++ bytes)).rest
    → p ≡ kept_of (cut bytes).rest
rest_kept kept bytes p e h = h ∙ ap (λ (k : List ℕ). kept_of (cut (k ++ bytes)).rest) e

pub some_given : (d : ℕ) (kept bytes : List ℕ) (a b : Option (List ℕ)) → kept ≡ []
    → Begun nothing_told (start d) (lines_of (kept ++ bytes)) a b → AppendsSome a b (output_of d bytes)
some_given d kept bytes a b e p =
    let begun = subst (λ (k : List ℕ). Begun nothing_told (start d) (lines_of (k ++ bytes)) a b) e p in
    writes_some d bytes a b (says_first nothing_told d bytes bytes [] a b (sym (append-nil bytes)) begun)

pub given_done : (d : ℕ) (bytes : List ℕ) (status : Status) (old mid new : Outside)
    → Appends old.held mid.held (output_of d bytes)
    → HasSpent (effect_of_script d bytes).works old.expanded mid.expanded
    → mid.writes_failed ≡ old.writes_failed → IsFlushed status Done mid new → GivenMeans d bytes status old new
given_done d bytes status old mid new all spent calm f =
    let other : Done ≢ WriteFault = λ e. cc in
    elim f.answers [
      | inl is ↦ let fine : status ≢ WriteFault = λ e. other (sym is ∙ e) in
          subst (λ (s : Status). GivenMeans d bytes s old new) (sym is) (
            f.done fine,
            f.calm fine ∙ calm,
            all_of_it old.held mid.held new.held (output_of d bytes) all f.held,
            record { by = spent_then (effect_of_script d bytes).works old.expanded mid.expanded new.expanded f.expanded spent },
          )
      | inr is ↦ let unwanted : status ≢ Done = λ e. other (sym e ∙ is) in
          subst (λ (s : Status). GivenMeans d bytes s old new) (sym is)
          (subst (λ (n : ℕ). Rose n new.writes_failed) calm (f.fault unwanted), some_kept old.held mid.held new.held (output_of d bytes) all f.held)
    ]

pub given_halted : (d : ℕ) (bytes : List ℕ) (halt : Halt) (status : Status) (old new : Outside)
    → (halt ≡ cause.WriteFault → status ≡ WriteFault) → (halt ≡ cause.NoMemory → status ≡ NoMemory)
    → FaultsAt halt old.writes_failed new.writes_failed → AppendsSome old.held new.held (output_of d bytes)
    → GivenMeans d bytes status old new
given_halted d bytes cause.WriteFault status old new write memory faults some = subst (λ (s : Status). GivenMeans d bytes s old new) (sym (write refl)) (faults, some)
given_halted d bytes cause.NoMemory status old new write memory faults some = subst (λ (s : Status). GivenMeans d bytes s old new) (sym (memory refl)) (faults, some)

-- ---- by the town

pub usage : (d : ℕ) (town : Option ℕ) (o : Outside) → RunMeans d town Usage o o
usage d None o = refl
usage d (Some lots) o = (refl, record { given = refl; left = refl; ended = refl; reads = refl })

given_headline : (d : ℕ) (bytes : List ℕ) (status : Status) (old new : Outside) → GivenMeans d bytes status old new
    → status ≡ Done → Appends old.held new.held (output_of d bytes)
given_headline d bytes status old new m is = let all = subst (λ (s : Status). GivenMeans d bytes s old new) is m in all.2

pub run_headline : (d : ℕ) (town : Option ℕ) (status : Status) (old new : Outside) → RunMeans d town status old new
    → status ≡ Done → IfSome (script_of town old.left) (λ bytes. Appends old.held new.held (output_of d bytes))
run_headline d None status old new m is = headline_of d status old new m is
run_headline d (Some lots) status old new m is = given_headline d (town_text lots) status old new m.0 is

pub run_given_headline : (d : ℕ) (town : Option ℕ) (status : Status) (old new : Outside)
    → RunMeans d town status old new → status ≡ Done
    → (bytes : List ℕ) × IsScript town old.given new.given bytes × Appends old.held new.held (output_of d bytes)
run_given_headline d None status old new m is = given_of d status old new m is
run_given_headline d (Some lots) status old new m is = (town_text lots, refl, given_headline d (town_text lots) status old new m.0 is)

given_complete : (d : ℕ) (bytes : List ℕ) (status : Status) (old new : Outside) → GivenMeans d bytes status old new
    → (Rose old.writes_failed new.writes_failed → ⊥) → status ≢ Usage → (status ≡ Done) ⊎ (status ≡ NoMemory)
given_complete d bytes Done old new m silent used = inl refl
given_complete d bytes NoMemory old new m silent used = inr refl
given_complete d bytes WriteFault old new m silent used = absurd (silent m.0)
given_complete d bytes ReadFault old new m silent used = absurd m
given_complete d bytes TooLong old new m silent used = absurd m
given_complete d bytes Usage old new m silent used = absurd (used refl)

pub run_complete : (d : ℕ) (town : Option ℕ) (status : Status) (old new : Outside) → RunMeans d town status old new
    → HoldsFewOr town old.left
    → (Rose old.reads_failed new.reads_failed → ⊥) → (Rose old.writes_failed new.writes_failed → ⊥) → status ≢ Usage
    → (status ≡ Done) ⊎ (status ≡ NoMemory)
run_complete d None status old new m few calm silent used = complete_of d status old new m few calm silent used
run_complete d (Some lots) status old new m few calm silent used = given_complete d (town_text lots) status old new m.0 silent used
