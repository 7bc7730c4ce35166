-- Completeness, from what the statuses mean.
use Rattle.std.proofs.Common.{◌≡◌, ℕ, ◌≤◌, ◌<◌, ◌⊎◌, ◌≢◌, inl, inr, List, ◌++◌, length, Option, Some, None, refl, sym, ap, subst, ◌∙◌, arith, length-append}
use Rattle.std.specs.Prelude.{IfSome}
use Rattle.std.specs.Io.KnownBytes.{Consumes, Appends, IsAtEnd}
use Rattle.cga_top.specs.Output.{output_of}
use Rattle.cga_outside.specs.Causes.{Rose}
use Rattle.cga_words.specs.declared.status.Status.{Status}
use Rattle.cga_words.specs.declared.status.Status.TheVariants.{Done, Usage, ReadFault, WriteFault, TooLong, NoMemory}
use Rattle.cga_top.specs.Reads.{limit}
use Rattle.cga_top.specs.Outside.{Outside}
use Rattle.cga_top.specs.Statuses.{StatusMeans, HoldsFew}
use Rattle.cga_top.specs.Talks.{TalkMeans}
use Rattle.cga_top.specs.Turns.{Talk}
use Rattle.cga_top.proofs.Ends.{all_taken}

not_so_long : (bytes read : List ℕ) (left : Option (List ℕ)) → Consumes (Some bytes) left read
    → limit < length read → length bytes ≤ limit → ⊥
not_so_long bytes read None p h few = p
not_so_long bytes read (Some rest) p h few = omega (arith, ap length p, length-append read rest)

-- A source that holds a short script doesn't give more bytes than the limit.
pub few_given : (script left : Option (List ℕ)) (read : List ℕ) → Consumes script left read → HoldsFew script
    → limit < length read → ⊥
few_given None left read p few many = few
few_given (Some bytes) left read p few many = not_so_long bytes read left p many few

pub talk_complete : (told : Talk) (d : ℕ) (status : Status) (old new : Outside) → TalkMeans told d status old new
    → HoldsFew old.left
    → (Rose old.reads_failed new.reads_failed → ⊥) → (Rose old.writes_failed new.writes_failed → ⊥) → status ≢ Usage
    → (status ≡ Done) ⊎ (status ≡ NoMemory)
talk_complete told d Done old new m few calm silent used = inl refl
talk_complete told d NoMemory old new m few calm silent used = inr refl
talk_complete told d ReadFault old new m few calm silent used = absurd (calm m.0)
talk_complete told d WriteFault old new m few calm silent used = absurd (silent m.0)
talk_complete told d TooLong old new m few calm silent used = absurd (few_given old.left new.left m.2.0 m.2.3.gave.taken few m.2.1)
talk_complete told d Usage old new m few calm silent used = absurd (used refl)

pub complete_of : (d : ℕ) (status : Status) (old new : Outside) → StatusMeans d status old new → HoldsFew old.left
    → (Rose old.reads_failed new.reads_failed → ⊥) → (Rose old.writes_failed new.writes_failed → ⊥) → status ≢ Usage
    → (status ≡ Done) ⊎ (status ≡ NoMemory)
complete_of d Done old new m few calm silent used = inl refl
complete_of d NoMemory old new m few calm silent used = inr refl
complete_of d ReadFault old new m few calm silent used = absurd (calm m.0)
complete_of d WriteFault old new m few calm silent used = absurd (silent m.0)
complete_of d TooLong old new m few calm silent used = absurd (few_given old.left new.left m.2.0 m.2.3.gave.taken few m.2.1)
complete_of d Usage old new m few calm silent used = absurd (used refl)

-- what holds of all that was given holds of all that was left, where the source tells it and none is left now
pub of_left : (P : List ℕ → Type 0) (script left : Option (List ℕ)) (bytes : List ℕ) → Consumes script left bytes
    → IsAtEnd left → P bytes → IfSome script P
of_left P None left bytes taken at_end p = tt
of_left P (Some all) left bytes taken at_end p = subst P (all_taken bytes all left taken at_end) p

-- where all was done, all of the output was written
pub headline_of : (d : ℕ) (status : Status) (old new : Outside) → StatusMeans d status old new → status ≡ Done
    → IfSome old.left (λ bytes. Appends old.held new.held (output_of d bytes))
headline_of d status old new means done =
    let all = subst (λ (s : Status). StatusMeans d s old new) done means in
    of_left (λ bytes. Appends old.held new.held (output_of d bytes)) old.left new.left all.3.0 all.3.1.taken all.3.2 all.3.3.output

-- likewise of what was given
pub given_of : (d : ℕ) (status : Status) (old new : Outside) → StatusMeans d status old new → status ≡ Done
    → (bytes : List ℕ) × (new.given ≡ old.given ++ bytes) × Appends old.held new.held (output_of d bytes)
given_of d status old new means done =
    let all = subst (λ (s : Status). StatusMeans d s old new) done means in
    (all.3.0, all.3.1.given, all.3.3.output)

-- a status that a flush may turn into a write fault is no usage
pub not_used : (r status : Status) → (r ≡ status) ⊎ (r ≡ WriteFault) → status ≢ Usage → r ≢ Usage
not_used r status or other = elim or [ inl is ↦ λ e. other (sym is ∙ e) | inr is ↦ λ e. let bad : WriteFault ≡ Usage = sym is ∙ e in cc ]

-- Done is another status than Usage.
pub done_not_used : Done ≢ Usage
done_not_used e = cc

-- ReadFault is another status than Usage.
pub read_not_used : ReadFault ≢ Usage
read_not_used e = cc

-- TooLong is another status than Usage.
pub long_not_used : TooLong ≢ Usage
long_not_used e = cc

-- and none but Done is done
pub not_done : (r status : Status) → (r ≡ status) ⊎ (r ≡ WriteFault) → status ≢ Done → r ≢ Done
not_done r status or other = elim or [ inl is ↦ λ e. other (sym is ∙ e) | inr is ↦ λ e. let bad : WriteFault ≡ Done = sym is ∙ e in cc ]

pub read_not_done : ReadFault ≢ Done
read_not_done e = cc

pub long_not_done : TooLong ≢ Done
long_not_done e = cc
