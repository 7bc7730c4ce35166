-- What the statuses of a run mean.
use Rattle.std.specs.Prelude.{◌≡◌, ℕ, ◌+◌, ◌≤◌, ◌<◌, List, length, take, IsTrue, Option, Some, None, IfSome}
use Rattle.std.specs.Io.KnownBytes.{Appends, IsAtEnd}
use Rattle.cga_outside.specs.Causes.{Rose}
use Rattle.cga_words.specs.declared.status.Status.{Status}
use Rattle.cga_words.specs.declared.status.Status.TheVariants.{Done, Usage, ReadFault, WriteFault, TooLong, NoMemory}
use Rattle.cga_top.specs.Effect.{Effect, HasSpent}
use Rattle.cga_top.specs.Output.{effect_of_lines, effect_of_script, replies_of, output_of}
use Rattle.cga_top.specs.Outside.{Gave, Outside, IsCalm}
use Rattle.cga_top.specs.Reads.{limit, read_limit}
use Rattle.cga_top.specs.Prefixes.{AppendsSome}

-- the expansions are those of the works that the lines asked for
pub record Spent (e : Effect) (old new : Outside) : Type 0 where
  pub by : HasSpent e.works old.expanded new.expanded

-- the script is within the limit, and all of the output was written
pub record WritesAll (decimals : ℕ) (bytes : List ℕ) (old new : Outside) : Type 0 where
  pub few : length bytes ≤ limit
  pub output : Appends old.held new.held (output_of decimals bytes)
  pub spent : Spent (effect_of_script decimals bytes) old new

-- of the script so much was given, and the replies to the lines within the limit were written
pub record WritesReplies (decimals : ℕ) (read : List ℕ) (old new : Outside) : Type 0 where
  pub gave : Gave read old new
  pub replies : Appends old.held new.held (replies_of decimals (take limit read))
  pub spent : Spent (effect_of_lines decimals (take limit read)) old new

-- what was written begins the output of what was given, and that of all that was left, where the source tells it
pub record WritesPrefix (decimals : ℕ) (old new : Outside) : Type 0 where
  pub read : List ℕ
  pub gave : Gave read old new
  pub begins : AppendsSome old.held new.held (output_of decimals read)
  pub of_all : IfSome old.left (λ bytes. AppendsSome old.held new.held (output_of decimals bytes))

-- one row for each status, by the bytes that the source gave: where all was done, they are the script, and none is left
abbrev pub StatusMeans : ℕ → Status → Outside → Outside → Type 0
StatusMeans decimals Done old new = IsTrue new.ended × IsTrue new.flushed × IsCalm old new
    × ((bytes : List ℕ) × Gave bytes old new × IsAtEnd new.left × WritesAll decimals bytes old new)
StatusMeans decimals ReadFault old new = Rose old.reads_failed new.reads_failed × IsTrue new.flushed × (new.writes_failed ≡ old.writes_failed)
    × ((read : List ℕ) × (length read ≤ limit) × WritesReplies decimals read old new)
StatusMeans decimals WriteFault old new = Rose old.writes_failed new.writes_failed × WritesPrefix decimals old new
StatusMeans decimals TooLong old new = IsTrue new.flushed × IsCalm old new
    × ((read : List ℕ) × (limit < length read) × (length read ≤ limit + read_limit) × WritesReplies decimals read old new)
StatusMeans decimals NoMemory old new = IsCalm old new × WritesPrefix decimals old new
StatusMeans decimals Usage old new = new ≡ old

-- it is told what the source holds, and that is within the limit
abbrev pub HoldsFew : Option (List ℕ) → Type 0
HoldsFew None = ⊥
HoldsFew (Some bytes) = length bytes ≤ limit
