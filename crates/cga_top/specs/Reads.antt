-- How reading a script ended.
use Rattle.std.specs.Prelude.{◌≡◌, ◌≢◌, ℕ, ◌+◌, ◌≤◌, ◌<◌, List, [], length, take, IsTrue}
use Rattle.std.specs.Io.KnownBytes.{IsAtEnd}
use Rattle.cga_outside.specs.Causes.{Rose}
use Rattle.cga_script.specs.Lines.{cut, lines_of}
use Rattle.cga_script.specs.Pending.{Pending, kept_of}
use Rattle.cga_script.specs.declared.ending.Ending.TheVariants.{Open}
use Rattle.cga_top.specs.declared.session.Session.{Session}
use Rattle.cga_top.specs.declared.read_end.ReadEnd.{ReadEnd}
use Rattle.cga_top.specs.declared.read_end.ReadEnd.TheVariants.{Ended, Failed, TooLong, Halted}
use Rattle.cga_top.specs.Outside.{Gave, Outside}
use Rattle.cga_top.specs.Faults.{FaultsAt}
use Rattle.cga_top.specs.Lived.{Begun, Lived}
use Rattle.cga_top.specs.State.{start}
use Rattle.cga_top.specs.Turns.{Talk}

-- the most bytes of a script
abbrev pub limit : ℕ
limit = 67108864

-- the most bytes of one read
abbrev pub read_limit : ℕ
read_limit = 4096

-- what is kept of bytes that were read
abbrev pub pending_after : List ℕ → Pending
pending_after read = record { kept = kept_of (cut read).rest; ending = Open }

-- what was read so far was replied to, up to the limit, and flushed; no write and no flush failed
pub record IsRead (told : Talk) (decimals : ℕ) (read : List ℕ) (old new : Outside) (session : Session) (lines : Pending) : Type 0 where
  pub gave : Gave read old new
  pub lived : Lived told (start decimals) (lines_of
      (take limit read)) session old.held new.held old.expanded new.expanded
  pub lines_are : lines ≡ pending_after (take limit read)
  pub flushed : read ≢ [] → IsTrue new.flushed
  pub calm : new.writes_failed ≡ old.writes_failed

-- some of the replies to what was read were written, and no read failed
pub record IsHalted (told : Talk) (decimals : ℕ) (read : List ℕ) (old new : Outside) : Type 0 where
  pub gave : Gave read old new
  pub begun : Begun told (start decimals) (lines_of (take limit read)) old.held new.held
  pub calm : new.reads_failed ≡ old.reads_failed

-- by the end: all within the limit, up to a failed read, more than the limit, or stopped by the sink or by memory
abbrev pub ReadsTo : Talk → ℕ → ReadEnd → Outside → Outside → Session → Pending → Type 0
ReadsTo told decimals Ended old new session lines = (read : List ℕ) × IsRead told decimals read old new session lines
    × (length read ≤ limit) × IsAtEnd new.left × IsTrue new.ended × (new.reads_failed ≡ old.reads_failed)
ReadsTo told decimals Failed old new session lines = (read : List ℕ) × IsRead told decimals read old new session lines
    × (length read ≤ limit) × Rose old.reads_failed new.reads_failed
ReadsTo told decimals TooLong old new session lines = (read : List ℕ) × IsRead told decimals read old new session lines
    × (limit < length read) × (length read ≤ limit + read_limit) × (new.reads_failed ≡ old.reads_failed)
ReadsTo told decimals (Halted halt) old new session lines = (read : List ℕ) × IsHalted told decimals read old new
    × FaultsAt halt old.writes_failed new.writes_failed
