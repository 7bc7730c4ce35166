-- What the statuses of a run mean that tells more behind the output.
use Rattle.std.specs.Prelude.{◌≡◌, ◌⊎◌, ℕ, ◌≤◌, List, ◌++◌, length, IsTrue, IfSome}
use Rattle.std.specs.Io.KnownBytes.{Appends, IsAtEnd}
use Rattle.cga_outside.specs.Causes.{Rose}
use Rattle.cga_outside.specs.declared.sink.Sink as sink
use Rattle.cga_words.specs.declared.status.Status.{Status}
use Rattle.cga_words.specs.declared.status.Status.TheVariants.{Done, Usage, ReadFault, WriteFault, TooLong, NoMemory}
use Rattle.cga_top.specs.Hulls.{IsToldOf}
use Rattle.cga_top.specs.Output.{effect_of_script, output_of}
use Rattle.cga_top.specs.Outside.{Gave, Outside, IsCalm}
use Rattle.cga_top.specs.Prefixes.{AppendsSome}
use Rattle.cga_top.specs.Reads.{limit}
use Rattle.cga_top.specs.Statuses.{Spent, StatusMeans}

-- the script is within the limit, and all of the output was written, and behind it what is told of the lots
pub record TellsAll (decimals : ℕ) (bytes : List ℕ) (old new : Outside) : Type 0 where
  pub few : length bytes ≤ limit
  pub text : List ℕ
  pub told : IsToldOf decimals bytes text
  pub output : Appends old.held new.held (output_of decimals bytes ++ text)
  pub spent : Spent (effect_of_script decimals bytes) old new

-- what was written begins the output, or the output with what is told behind it
abbrev pub TellsSome : ℕ → List ℕ → Outside → Outside → Type 0
TellsSome decimals bytes old new = AppendsSome old.held new.held (output_of decimals bytes)
    ⊎ ((text : List ℕ) × IsToldOf decimals bytes text × AppendsSome old.held new.held (output_of decimals bytes ++ text))

-- so of the bytes that were given, and of all that were left, where the source tells them
pub record TellsPrefix (decimals : ℕ) (old new : Outside) : Type 0 where
  pub read : List ℕ
  pub gave : Gave read old new
  pub begins : TellsSome decimals read old new
  pub of_all : IfSome old.left (λ bytes. TellsSome decimals bytes old new)

-- one row for each status: they are those of a run that tells nothing more, but where more was told
abbrev pub TellingMeans : ℕ → Status → Outside → Outside → Type 0
TellingMeans decimals Done old new = IsTrue new.ended × IsTrue new.flushed × IsCalm old new
    × ((bytes : List ℕ) × Gave bytes old new × IsAtEnd new.left × TellsAll decimals bytes old new)
TellingMeans decimals WriteFault old new = Rose old.writes_failed new.writes_failed × TellsPrefix decimals old new
TellingMeans decimals ReadFault old new = StatusMeans decimals ReadFault old new
TellingMeans decimals TooLong old new = StatusMeans decimals TooLong old new
TellingMeans decimals NoMemory old new = StatusMeans decimals NoMemory old new
TellingMeans decimals Usage old new = StatusMeans decimals Usage old new

-- a moment, with what a sink tells
abbrev pub sunk_at : {K : Type 0} → sink.Ghosts K → Outside → K → Outside
sunk_at sink o out = record o { held = sink.held out; flushed = sink.flushed out; writes_failed = sink.faults out }

-- how telling ended, of a text of this kind: only the sink and memory can fail
abbrev pub TellMeans : (List ℕ → Type 0) → Status → Outside → Outside → Type 0
TellMeans Tells Done old new = IsTrue new.flushed × (new.writes_failed ≡ old.writes_failed) × ((text : List ℕ) × Tells text × Appends old.held new.held text)
TellMeans Tells WriteFault old new = Rose old.writes_failed new.writes_failed × ((text : List ℕ) × Tells text × AppendsSome old.held new.held text)
TellMeans Tells NoMemory old new = new ≡ old
TellMeans Tells ReadFault old new = ⊥
TellMeans Tells TooLong old new = ⊥
TellMeans Tells Usage old new = ⊥
