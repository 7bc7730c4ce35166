-- One more read.
use Rattle.std.proofs.Common.{◌≡◌, ◌≢◌, ℕ, ◌-◌, ◌≤◌, List, [], ◌++◌, length, take, Option, Bool, refl, sym, ap, subst, ◌∙◌}
use Rattle.std.specs.Prelude.{IsTrue}
use Rattle.std.proofs.Math.Seq.{take-nil}
use Rattle.std.proofs.lemmas.List.{take_all}
use Rattle.std.proofs.lemmas.List.Elements.{All-nil}
use Rattle.std.specs.Io.KnownBytes.{Consumes, Keeps}
use Rattle.cga_script.specs.Lines.{Line, cut, lines_of}
use Rattle.cga_script.specs.Pending.{Pending, kept_of}
use Rattle.cga_script.specs.declared.ending.Ending.TheVariants.{Open}
use Rattle.cga_script.proofs.Door.{kept_append, lines_append, no_lines, rest_is_one, take_room}
use Rattle.cga_top.specs.declared.session.Session.{Session}
use Rattle.cga_top.specs.KeptPart.{IsKeptPart}
use Rattle.cga_top.specs.Lived.{Begun, IsHere, Lived}
use Rattle.cga_top.specs.Outside.{Gave, Outside}
use Rattle.cga_top.specs.Output.{effect_of_all}
use Rattle.cga_top.specs.Reads.{limit, pending_after, IsRead, IsHalted}
use Rattle.cga_top.specs.State.{State, start}
use Rattle.cga_top.specs.Turns.{Talk}
use Rattle.cga_top.proofs.Gives.{gave_kept, gave_more, gave_none, gave_nothing}
use Rattle.cga_top.proofs.Lived.{begun_more, lived_more, lived_nothing}
use Rattle.cga_top.proofs.Pieces.{part_kept}

-- What is pending is a part of a line.
pub is_part : (read : List ℕ) (p : Pending) → p ≡ pending_after read → IsKeptPart p
is_part read p e = part_kept p (cut read).rest e (rest_is_one read)

-- what is looked at of one more chunk
module _ (read chunk piece : List ℕ) (lines : Pending) (few : length read ≤ limit) (first : piece ≡ take (limit - length read) chunk) (are : lines ≡ pending_after (take limit read)) where
  all_read : take limit read ≡ read
  all_read = take_all limit read few

  more_read : take limit (read ++ chunk) ≡ read ++ piece
  more_read = take_room limit read chunk few ∙ ap (λ (p : List ℕ). read ++ p) (sym first)

  kept_is : lines.kept ≡ kept_of (cut read).rest
  kept_is = ap (λ (p : Pending). p.kept) are ∙ ap (λ (r : List ℕ). kept_of (cut r).rest) all_read

  -- The lines of what was read with one more piece are those before, and those that the piece ends.
  pub lines_more : lines_of (take limit (read ++ chunk)) ≡ lines_of (take limit read) ++ lines_of (lines.kept ++ piece)
  lines_more =
      ap lines_of more_read ∙ lines_append read piece ∙ ap (λ (k : List ℕ). lines_of read ++ lines_of (k ++ piece)) (sym kept_is)
      ∙ ap (λ (r : List ℕ). lines_of r ++ lines_of (lines.kept ++ piece)) (sym all_read)

  -- What a piece leaves is what is pending after all that was read.
  pub pending_is : record { kept = kept_of (cut (lines.kept ++ piece)).rest; ending = Open } ≡ pending_after (take limit (read ++ chunk))
  pending_is =
      ap (λ (k : List ℕ). record { kept = kept_of (cut (k ++ piece)).rest; ending = Open }) kept_is
      ∙ ap (λ (k : List ℕ). record { kept = k; ending = Open }) (kept_append read piece) ∙ ap pending_after (sym more_read)

-- nothing was read
pub reads_start : (told : Talk) (d : ℕ) (session : Session) (lines : Pending) (o : Outside) → IsHere (start d) session
    → lines ≡ pending_after [] → IsRead told d [] o o session lines
reads_start told d session lines o here are =
    let none : take limit [] ≡ [] = take-nil limit in
    let no_line : lines_of (take limit []) ≡ [] = ap lines_of none ∙ no_lines [] (All-nil (λ (b : ℕ). b ≢ 10)) in
    record {
      gave = gave_nothing o;
      lived = subst (λ (l : List Line). Lived told (start d) l session o.held o.held o.expanded o.expanded) (sym no_line) (lived_nothing told (start d) session o.held o.expanded here);
      lines_are = are ∙ ap pending_after (sym none);
      flushed = λ some. absurd (some refl);
      calm = refl;
    }

-- a read that gave nothing, at the end
pub reads_none : (told : Talk) (d : ℕ) (read : List ℕ) (old mid : Outside) (session : Session) (lines : Pending)
    (given : List ℕ) (left : Option (List ℕ)) (ended : Bool) (failed : ℕ) → IsRead told d read old mid session lines
    → given ≡ mid.given ++ [] → Consumes mid.left left []
    → IsRead told d read old (record mid { given = given; left = left; ended = ended; reads_failed = failed }) session lines
reads_none told d read old mid session lines given left ended failed r none taken = record {
  gave = gave_none read old mid (record mid { given = given; left = left; ended = ended; reads_failed = failed }) r.gave none taken;
  lived = r.lived;
  lines_are = r.lines_are;
  flushed = r.flushed;
  calm = r.calm;
}

-- and one that failed
pub reads_kept : (told : Talk) (d : ℕ) (read : List ℕ) (old mid : Outside) (session : Session) (lines : Pending)
    (given : List ℕ) (left : Option (List ℕ)) (ended : Bool) (failed : ℕ) → IsRead told d read old mid session lines
    → given ≡ mid.given → Keeps mid.left left
    → IsRead told d read old (record mid { given = given; left = left; ended = ended; reads_failed = failed }) session lines
reads_kept told d read old mid session lines given left ended failed r none keeps = record {
  gave = gave_kept read old mid (record mid { given = given; left = left; ended = ended; reads_failed = failed }) r.gave none keeps;
  lived = r.lived;
  lines_are = r.lines_are;
  flushed = r.flushed;
  calm = r.calm;
}

module _ (told : Talk) (d : ℕ) (read chunk piece : List ℕ) (old mid new : Outside) (session : Session) (lines : Pending)
    (few : length read ≤ limit) (first : piece ≡ take (limit - length read) chunk) (r : IsRead told d read old mid session lines) (more : Gave chunk mid new) where
  abbrev so_far : State
  so_far = (effect_of_all (start d) (lines_of (take limit read))).state

  pub reads_more : (next : Session) (after : Pending)
      → ((s : State) → IsHere s session
      → Lived told s (lines_of (lines.kept ++ piece)) next mid.held new.held mid.expanded new.expanded)
      → after ≡ record { kept = kept_of (cut (lines.kept ++ piece)).rest; ending = Open }
      → IsTrue new.flushed → new.writes_failed ≡ mid.writes_failed → IsRead told d (read ++ chunk) old new next after
  reads_more next after each e flushed calm = record {
    gave = gave_more old mid new read chunk r.gave more;
    lived = subst (λ (l : List Line). Lived told (start d) l next old.held new.held old.expanded new.expanded) (sym (lines_more read chunk piece lines few first r.lines_are))
        (lived_more told (start d) (lines_of (take limit read)) (lines_of (lines.kept ++ piece)) session next
        old.held mid.held new.held old.expanded mid.expanded new.expanded r.lived (each so_far r.lived.here));
    lines_are = e ∙ pending_is read chunk piece lines few first r.lines_are;
    flushed = λ some. flushed;
    calm = calm ∙ r.calm;
  }

  pub reads_halt : ((s : State) → IsHere s session → Begun told s (lines_of (lines.kept ++ piece)) mid.held new.held)
      → new.reads_failed ≡ old.reads_failed → IsHalted told d (read ++ chunk) old new
  reads_halt each calm = record {
    gave = gave_more old mid new read chunk r.gave more;
    begun = subst (λ (l : List Line). Begun told (start d) l old.held new.held) (sym (lines_more read chunk piece lines few first r.lines_are))
        (begun_more told (start d) (lines_of (take limit read)) (lines_of (lines.kept ++ piece)) session old.held mid.held new.held old.expanded mid.expanded r.lived (each so_far r.lived.here));
    calm = calm;
  }
