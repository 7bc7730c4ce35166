-- A source, a sink and a counter of expansions, at one moment.
use Rattle.std.specs.Prelude.{◌≡◌, ℕ, List, ◌++◌, Bool, Option}
use Rattle.std.specs.Io.KnownBytes.{Consumes}
use Rattle.cga_outside.specs.declared.source.Source as source
use Rattle.cga_outside.specs.declared.sink.Sink as sink

-- the bytes that the source gave so far; those that are left and those that are held, where they are told; whether the
-- source ended and all was flushed; how often each has failed; and how many shapes were expanded
pub record Outside : Type 0 where
  pub given : List ℕ
  pub left : Option (List ℕ)
  pub ended : Bool
  pub reads_failed : ℕ
  pub held : Option (List ℕ)
  pub flushed : Bool
  pub writes_failed : ℕ
  pub expanded : ℕ

-- what a source, a sink and a counter tell
abbrev pub outside_of : {S K : Type 0} → source.Ghosts S → sink.Ghosts K → S → K → ℕ → Outside
outside_of source sink script out expanded = record {
  given = source.given script;
  left = source.left script;
  ended = source.ended script;
  reads_failed = source.faults script;
  held = sink.held out;
  flushed = sink.flushed out;
  writes_failed = sink.faults out;
  expanded = expanded;
}

-- the source gave these bytes since; where it tells what is left, they are no longer left
pub record Gave (bytes : List ℕ) (old new : Outside) : Type 0 where
  pub given : new.given ≡ old.given ++ bytes
  pub taken : Consumes old.left new.left bytes

-- no read, no write and no flush has failed
pub record IsCalm (old new : Outside) : Type 0 where
  pub reads : new.reads_failed ≡ old.reads_failed
  pub writes : new.writes_failed ≡ old.writes_failed
