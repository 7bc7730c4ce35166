-- What the statuses of a run mean.
use Rattle.std.specs.Prelude.{◌≡◌, ℕ, ◌+◌, ◌≤◌, ◌<◌, List, ◌++◌, length, take, IsTrue, IfSome}
use Rattle.std.specs.Io.KnownBytes.{Appends, IsAtEnd}
use Rattle.cga_outside.specs.Causes.{Rose}
use Rattle.cga_script.specs.Lines.{Line, lines_of}
use Rattle.cga_words.specs.declared.status.Status.{Status}
use Rattle.cga_words.specs.declared.status.Status.TheVariants.{Done, Usage, ReadFault, WriteFault, TooLong, NoMemory}
use Rattle.cga_top.specs.Output.{effect_of_lines, effect_of_script}
use Rattle.cga_top.specs.Outside.{Gave, Outside, IsCalm}
use Rattle.cga_top.specs.Prefixes.{AppendsSome}
use Rattle.cga_top.specs.Reads.{limit, read_limit}
use Rattle.cga_top.specs.Lived.{behind_all}
use Rattle.cga_top.specs.State.{start}
use Rattle.cga_top.specs.Statuses.{Spent}
use Rattle.cga_top.specs.Turns.{LineChanges, all_lines, end_of, lines_in}
use Rattle.cga_live.specs.Live.{AreTold, IsLiveOf, text_of}

-- the script is within the limit, and all of it was replied to and told
pub record TellsAll (decimals : ℕ) (bytes : List ℕ) (old new : Outside) : Type 0 where
  pub few : length bytes ≤ limit
  pub text : List ℕ
  pub live : IsLiveOf decimals bytes text
  pub written : Appends old.held new.held text
  pub spent : Spent (effect_of_script decimals bytes) old new

-- of the script so much was given, and the lines within the limit were replied to and told
pub record TellsLines (decimals : ℕ) (read : List ℕ) (old new : Outside) : Type 0 where
  pub gave : Gave read old new
  pub turns : List LineChanges
  pub lines : lines_in turns ≡ lines_of (take limit read)
  pub told : AreTold (start decimals) turns
  pub written : Appends old.held new.held (text_of (start decimals) turns)
  pub spent : Spent (effect_of_lines decimals (take limit read)) old new

-- what was written begins what is told of the script's first lines, and of its end where no line is left
pub record TellsSome (decimals : ℕ) (bytes : List ℕ) (old new : Outside) : Type 0 where
  pub turns : List LineChanges
  pub left : List Line
  pub lines : lines_in turns ++ left ≡ all_lines bytes
  pub told : AreTold (start decimals) turns
  pub written : AppendsSome old.held new.held
      (text_of (start decimals) turns ++ behind_all left (end_of decimals bytes))

-- so of the bytes that were given, and of all that were left, where the source tells them
pub record TellsPrefix (decimals : ℕ) (old new : Outside) : Type 0 where
  pub read : List ℕ
  pub gave : Gave read old new
  pub begins : TellsSome decimals read old new
  pub of_all : IfSome old.left (λ bytes. TellsSome decimals bytes old new)

-- one row for each status, by the bytes that the source gave: where all was done, they are the script, and none is left
abbrev pub LiveMeans : ℕ → Status → Outside → Outside → Type 0
LiveMeans decimals Done old new = IsTrue new.ended × IsTrue new.flushed × IsCalm old new
    × ((bytes : List ℕ) × Gave bytes old new × IsAtEnd new.left × TellsAll decimals bytes old new)
LiveMeans decimals ReadFault old new = Rose old.reads_failed new.reads_failed × IsTrue new.flushed × (new.writes_failed ≡ old.writes_failed)
    × ((read : List ℕ) × (length read ≤ limit) × TellsLines decimals read old new)
LiveMeans decimals WriteFault old new = Rose old.writes_failed new.writes_failed × TellsPrefix decimals old new
LiveMeans decimals TooLong old new = IsTrue new.flushed × IsCalm old new
    × ((read : List ℕ) × (limit < length read) × (length read ≤ limit + read_limit) × TellsLines decimals read old new)
LiveMeans decimals NoMemory old new = IsCalm old new × TellsPrefix decimals old new
LiveMeans decimals Usage old new = new ≡ old
