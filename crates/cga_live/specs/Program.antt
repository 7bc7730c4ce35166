-- What the program's exit status and its line on standard error say.
use Rattle.std.specs.Prelude.{◌≡◌, ◌≢◌, ◌⊎◌, ℕ, List, [], ◌∷◌, ◌++◌, IfSome}
use Rattle.std.specs.Io.KnownBytes.{Appends}
use Rattle.cga_live.specs.Live.{IsLiveOf}
use Rattle.cga_live.specs.Means.{LiveMeans}
use Rattle.cga_outside.specs.Causes.{Rose}
use Rattle.cga_top.specs.Hulls.{usual}
use Rattle.cga_top.specs.Outside.{Outside}
use Rattle.cga_top.specs.Statuses.{HoldsFew}
use Rattle.cga_words.specs.Exits.{line_of, number_of}
use Rattle.cga_words.specs.Words.{wordless_app}
use Rattle.cga_words.specs.declared.program_name.ProgramName.TheVariants.{Live}
use Rattle.cga_words.specs.declared.status.Status.{Status}
use Rattle.cga_words.specs.declared.status.Status.TheVariants.{Done, NoMemory, Usage}
use Rattle.clap.specs.Words.{Text, fault_of}

-- where the words came: the run ended in one way, which the exit status and the line say. Exit status 0 says that each
-- line was replied to and told
pub record IsEnd (texts : List Text) (old new : Outside) (number : ℕ) (line : List ℕ) : Type 0 where
  pub status : Status
  pub number_is : number ≡ number_of status
  pub line_is : line ≡ line_of Live status
  pub means : LiveMeans usual status old new
  pub given : number ≡ 0 → (bytes : List ℕ) × (text : List ℕ) × (new.given ≡ old.given ++ bytes)
      × IsLiveOf usual bytes text × Appends old.held new.held text
  pub headline : number ≡ 0 → IfSome old.left (λ bytes. (text : List ℕ) × IsLiveOf usual bytes text
      × Appends old.held new.held text)
  pub usage : status ≡ Usage → fault_of wordless_app texts ≢ []
  pub refused : fault_of wordless_app texts ≢ [] → (status ≡ Usage) ⊎ (status ≡ NoMemory)
  pub alone : (name : List ℕ) → texts ≡ name ∷ [] → status ≢ Usage
  pub complete : fault_of wordless_app texts ≡ [] → HoldsFew old.left
      → (Rose old.reads_failed new.reads_failed → ⊥) → (Rose old.writes_failed new.writes_failed → ⊥)
      → (status ≡ Done) ⊎ (status ≡ NoMemory)
