-- What the statuses of a run mean that tells more behind each reply.
use Rattle.std.specs.Prelude.{◌≡◌, ℕ, ◌+◌, ◌≤◌, ◌<◌, List, ◌++◌, Option, length, take, IsTrue, IfSome}
use Rattle.std.specs.Io.KnownBytes.{Appends, IsAtEnd}
use Rattle.cga_outside.specs.Causes.{Rose}
use Rattle.cga_script.specs.Lines.{Line, lines_of}
use Rattle.cga_words.specs.declared.status.Status.{Status}
use Rattle.cga_words.specs.declared.status.Status.TheVariants.{Done, Usage, ReadFault, WriteFault, TooLong, NoMemory}
use Rattle.cga_top.specs.Lived.{behind_all}
use Rattle.cga_top.specs.Output.{effect_of_lines, effect_of_script}
use Rattle.cga_top.specs.Outside.{Gave, Outside, IsCalm}
use Rattle.cga_top.specs.Prefixes.{AppendsSome}
use Rattle.cga_top.specs.Reads.{limit, read_limit}
use Rattle.cga_top.specs.State.{start}
use Rattle.cga_top.specs.Statuses.{Spent}
use Rattle.cga_top.specs.Turns.{HaveChanged, Talk, LineChanges, all_lines, end_of, lines_in, text_by}

-- all lines of a script were replied to and told, and its end
pub record SaysAll (told : Talk) (decimals : ℕ) (bytes : List ℕ) (old new : Option (List ℕ)) : Type 0 where
  pub turns : List LineChanges
  pub lines : lines_in turns ≡ all_lines bytes
  pub changed : HaveChanged (start decimals) turns
  pub written : Appends old new (text_by told (start decimals) turns ++ end_of decimals bytes)

-- what was written begins what is told of the script's first lines, and of its end where no line is left
pub record SaysSome (told : Talk) (decimals : ℕ) (bytes : List ℕ) (old new : Option (List ℕ)) : Type 0 where
  pub turns : List LineChanges
  pub left : List Line
  pub lines : lines_in turns ++ left ≡ all_lines bytes
  pub changed : HaveChanged (start decimals) turns
  pub written : AppendsSome old new
      (text_by told (start decimals) turns ++ behind_all left (end_of decimals bytes))

-- the script is within the limit, and all of it was replied to and told
pub record TalksAll (told : Talk) (decimals : ℕ) (bytes : List ℕ) (old new : Outside) : Type 0 where
  pub few : length bytes ≤ limit
  pub says : SaysAll told decimals bytes old.held new.held
  pub spent : Spent (effect_of_script decimals bytes) old new

-- of the script so much was given, and the lines within the limit were replied to and told
pub record TalksLines (told : Talk) (decimals : ℕ) (read : List ℕ) (old new : Outside) : Type 0 where
  pub gave : Gave read old new
  pub turns : List LineChanges
  pub lines : lines_in turns ≡ lines_of (take limit read)
  pub changed : HaveChanged (start decimals) turns
  pub written : Appends old.held new.held (text_by told (start decimals) turns)
  pub spent : Spent (effect_of_lines decimals (take limit read)) old new

-- some of the bytes that were given was told, and of all that were left, where the source tells them
pub record TalksPrefix (told : Talk) (decimals : ℕ) (old new : Outside) : Type 0 where
  pub read : List ℕ
  pub gave : Gave read old new
  pub begins : SaysSome told decimals read old.held new.held
  pub of_all : IfSome old.left (λ bytes. SaysSome told decimals bytes old.held new.held)

-- one row for each status, by the bytes that the source gave: where all was done, they are the script, and none is left
abbrev pub TalkMeans : Talk → ℕ → Status → Outside → Outside → Type 0
TalkMeans told decimals Done old new = IsTrue new.ended × IsTrue new.flushed × IsCalm old new
    × ((bytes : List ℕ) × Gave bytes old new × IsAtEnd new.left × TalksAll told decimals bytes old new)
TalkMeans told decimals ReadFault old new = Rose old.reads_failed new.reads_failed × IsTrue new.flushed
    × (new.writes_failed ≡ old.writes_failed)
    × ((read : List ℕ) × (length read ≤ limit) × TalksLines told decimals read old new)
TalkMeans told decimals WriteFault old new = Rose old.writes_failed new.writes_failed × TalksPrefix told decimals old new
TalkMeans told decimals TooLong old new = IsTrue new.flushed × IsCalm old new
    × ((read : List ℕ) × (limit < length read) × (length read ≤ limit + read_limit) × TalksLines told decimals read old new)
TalkMeans told decimals NoMemory old new = IsCalm old new × TalksPrefix told decimals old new
TalkMeans told decimals Usage old new = new ≡ old
