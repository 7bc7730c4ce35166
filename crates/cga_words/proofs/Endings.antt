-- How a program ends.
use Rattle.std.proofs.Common.{◌≡◌, ◌≢◌, ℕ, List, Result, Ok, Err, refl, subst, arith}
use Rattle.std.specs.Prelude.{IfOk}
use Rattle.cga_words.specs.Exits.{number_of}
use Rattle.cga_words.specs.declared.status.Status.{Status}
use Rattle.cga_words.specs.declared.status.Status.TheVariants.{Done, NoMemory, ReadFault, TooLong, Usage, WriteFault}

-- exit status 0 is that of Done alone
pub zero_is_done : (status : Status) (number : ℕ) → number ≡ number_of status → number ≡ 0 → status ≡ Done
zero_is_done Done number e zero = refl
zero_is_done Usage number e zero = absurd (omega (arith, e, zero))
zero_is_done ReadFault number e zero = absurd (omega (arith, e, zero))
zero_is_done WriteFault number e zero = absurd (omega (arith, e, zero))
zero_is_done TooLong number e zero = absurd (omega (arith, e, zero))
zero_is_done NoMemory number e zero = absurd (omega (arith, e, zero))

-- want of memory isn't a fault of usage
pub memory_not_used : NoMemory ≢ Usage
memory_not_used e = cc

-- what holds of the words holds of what they were collected from
pub of_words : {G X E : Type 0} (P : List X → Type 0) (items : G → List X) (found : Result G E) (words : List X)
    → IfOk found (λ given. words ≡ items given) → P words → IfOk found (λ given. P (items given))
of_words P items (Ok given) words same p = subst P same p
of_words P items (Err error) words same p = tt
