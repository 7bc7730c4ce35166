-- What the program's exit status and its line on standard error say.
use Rattle.std.specs.Prelude.{◌≡◌, ◌≢◌, ◌⊎◌, ℕ, List, [], Bool, Option, IfSome, unwrap_or}
use Rattle.std.specs.Io.KnownBytes.{Appends}
use Rattle.cga_outside.specs.Causes.{Rose}
use Rattle.cga_top.specs.Outside.{Outside}
use Rattle.cga_top.specs.Output.{output_of}
use Rattle.cga_top.specs.Runs.{HoldsFewOr, IsScript, RunMeans, script_of}
use Rattle.cga_words.specs.Exits.{line_of, number_of}
use Rattle.cga_words.specs.Plain.{IsPlain, plain_words}
use Rattle.cga_words.specs.Words.{command_app, decimals_of, town_of}
use Rattle.cga_words.specs.declared.program_name.ProgramName.TheVariants.{City}
use Rattle.cga_words.specs.declared.status.Status.{Status}
use Rattle.cga_words.specs.declared.status.Status.TheVariants.{Done, NoMemory, Usage}
use Rattle.clap.specs.Words.{Text, fault_of}

-- where the words came: the run ended in one way, which the exit status and the line say, and which means what it means
-- of a run with these words. Exit status 0 says that all of the output of what the source gave was written
pub record IsEnd (texts : List Text) (old new : Outside) (number : ℕ) (line : List ℕ) : Type 0 where
  pub status : Status
  pub number_is : number ≡ number_of status
  pub line_is : line ≡ line_of City status
  pub means : RunMeans (decimals_of texts) (town_of texts) status old new
  pub given : number ≡ 0 → (bytes : List ℕ) × IsScript (town_of texts) old.given new.given bytes
      × Appends old.held new.held (output_of (decimals_of texts) bytes)
  pub headline : number ≡ 0 → IfSome (script_of (town_of texts) old.left)
      (λ bytes. Appends old.held new.held (output_of (decimals_of texts) bytes))
  pub usage : status ≡ Usage → fault_of command_app texts ≢ []
  pub refused : fault_of command_app texts ≢ [] → (status ≡ Usage) ⊎ (status ≡ NoMemory)
  pub plain : (name : List ℕ) (first : Bool) (decimals town : Option ℕ) → IsPlain decimals town
      → texts ≡ plain_words name first decimals town
      → (status ≢ Usage) × (decimals_of texts ≡ unwrap_or decimals 6) × (town_of texts ≡ town)
  pub complete : fault_of command_app texts ≡ [] → HoldsFewOr (town_of texts) old.left
      → (Rose old.reads_failed new.reads_failed → ⊥) → (Rose old.writes_failed new.writes_failed → ⊥)
      → (status ≡ Done) ⊎ (status ≡ NoMemory)
