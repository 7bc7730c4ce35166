-- What the statuses of a run mean, by the words of the command line.
use Rattle.std.specs.Prelude.{◌≡◌, ℕ, List, [], ◌++◌, false, Option, Some, None, IsTrue}
use Rattle.std.specs.Io.KnownBytes.{Appends}
use Rattle.cga_outside.specs.Causes.{Rose}
use Rattle.cga_outside.specs.declared.sink.Sink as sink
use Rattle.cga_words.specs.Town.{town_text}
use Rattle.cga_words.specs.declared.status.Status.{Status}
use Rattle.cga_words.specs.declared.status.Status.TheVariants.{Done, Usage, ReadFault, WriteFault, TooLong, NoMemory}
use Rattle.cga_top.specs.Output.{effect_of_script, output_of}
use Rattle.cga_top.specs.Outside.{Outside}
use Rattle.cga_top.specs.Prefixes.{AppendsSome}
use Rattle.cga_top.specs.Statuses.{Spent, StatusMeans, HoldsFew}

-- the script: that of the town, or what the source holds, where it tells
abbrev pub script_of : Option ℕ → Option (List ℕ) → Option (List ℕ)
script_of None left = left
script_of (Some lots) left = Some (town_text lots)

-- the script that was done: that of the town, or what the source gave since
abbrev pub IsScript : Option ℕ → List ℕ → List ℕ → List ℕ → Type 0
IsScript None old new bytes = new ≡ old ++ bytes
IsScript (Some lots) old new bytes = bytes ≡ town_text lots

-- a sink and a counter, beside a source of which nothing is asked
abbrev pub sunk_in : {K : Type 0} → sink.Ghosts K → K → ℕ → Outside
sunk_in sink out expanded = record {
  given = [];
  left = None;
  ended = false;
  reads_failed = 0;
  held = sink.held out;
  flushed = sink.flushed out;
  writes_failed = sink.faults out;
  expanded = expanded;
}

-- one row for each status of a script that is there as a whole: only the sink and memory can fail
abbrev pub GivenMeans : ℕ → List ℕ → Status → Outside → Outside → Type 0
GivenMeans decimals bytes Done old new =
    IsTrue new.flushed × (new.writes_failed ≡ old.writes_failed) × Appends old.held new.held (output_of decimals bytes) × Spent (effect_of_script decimals bytes) old new
GivenMeans decimals bytes WriteFault old new = Rose old.writes_failed new.writes_failed × AppendsSome old.held new.held (output_of decimals bytes)
GivenMeans decimals bytes NoMemory old new = (new.writes_failed ≡ old.writes_failed) × AppendsSome old.held new.held (output_of decimals bytes)
GivenMeans decimals bytes Usage old new = new ≡ old
GivenMeans decimals bytes ReadFault old new = ⊥
GivenMeans decimals bytes TooLong old new = ⊥

-- the source is as it was
pub record IsUnread (old new : Outside) : Type 0 where
  pub given : new.given ≡ old.given
  pub left : new.left ≡ old.left
  pub ended : new.ended ≡ old.ended
  pub reads : new.reads_failed ≡ old.reads_failed

-- with a town its script is given, and the source isn't read
abbrev pub RunMeans : ℕ → Option ℕ → Status → Outside → Outside → Type 0
RunMeans decimals None status old new = StatusMeans decimals status old new
RunMeans decimals (Some lots) status old new = GivenMeans decimals (town_text lots) status old new × IsUnread old new

-- there is a town, or it is told what the source holds, and that is within the limit
abbrev pub HoldsFewOr : Option ℕ → Option (List ℕ) → Type 0
HoldsFewOr None left = HoldsFew left
HoldsFewOr (Some lots) left = Unit {0}
