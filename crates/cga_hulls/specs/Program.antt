-- What the program's exit status and its line on standard error say.
use Rattle.std.specs.Prelude.{◌≡◌, ◌≢◌, ◌≤◌, ◌⊎◌, ℕ, List, ◌++◌, true, Option, None, IfSome, unwrap_or}
use Rattle.std.specs.Io.KnownBytes.{Appends}
use Rattle.cga_outside.specs.Causes.{Rose}
use Rattle.cga_top.specs.Hulls.{IsToldOf}
use Rattle.cga_top.specs.Outside.{Outside}
use Rattle.cga_top.specs.Output.{output_of}
use Rattle.cga_top.specs.Statuses.{HoldsFew}
use Rattle.cga_top.specs.Telling.{TellingMeans}
use Rattle.cga_words.specs.Exits.{line_of, number_of}
use Rattle.cga_words.specs.Plain.{plain_words}
use Rattle.cga_words.specs.Words.{IsTownless, decimals_of}
use Rattle.cga_words.specs.declared.program_name.ProgramName.TheVariants.{Hulls}
use Rattle.cga_words.specs.declared.status.Status.{Status}
use Rattle.cga_words.specs.declared.status.Status.TheVariants.{Done, NoMemory, Usage}

-- where the words came: the run ended in one way, which the exit status and the line say, and which means what it means
-- of a run with these words. Exit status 0 says that all was written: the output, and what is told of the lots
pub record IsEnd (texts : List (List ℕ)) (old new : Outside) (number : ℕ) (line : List ℕ) : Type 0 where
  pub status : Status
  pub number_is : number ≡ number_of status
  pub line_is : line ≡ line_of Hulls status
  pub means : TellingMeans (decimals_of texts) status old new
  pub told : number ≡ 0 → IfSome old.left (λ bytes. (text : List ℕ) × IsToldOf (decimals_of texts) bytes text
      × Appends old.held new.held (output_of (decimals_of texts) bytes ++ text))
  pub usage : status ≡ Usage → IsTownless texts → ⊥
  pub refused : (IsTownless texts → ⊥) → (status ≡ Usage) ⊎ (status ≡ NoMemory)
  pub plain : (name : List ℕ) (decimals : Option ℕ) → IfSome decimals (λ n. n ≤ 9)
      → texts ≡ plain_words name true decimals None
      → (status ≢ Usage) × (decimals_of texts ≡ unwrap_or decimals 6)
  pub complete : IsTownless texts → HoldsFew old.left → (Rose old.reads_failed new.reads_failed → ⊥)
      → (Rose old.writes_failed new.writes_failed → ⊥) → (status ≡ Done) ⊎ (status ≡ NoMemory)
