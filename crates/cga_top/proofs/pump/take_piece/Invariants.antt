use Rattle.std.proofs.Common.{◌≡◌, ◌++◌, length}
use Rattle.cga_script.specs.Lines.{cut, lines_of}
use Rattle.cga_script.specs.Pending.{kept_of}
use Rattle.cga_top.specs.State.{State}
use Rattle.cga_top.specs.Lived.{IsHere, Underway}
use Rattle.cga_top.specs.Ready.{IsReady}
use Rattle.cga_top.specs.KeptPart.{IsKeptPart}
use Rattle.cga_top.proofs.pump.take_piece.Given as goal

abbrev pub invariant-loop-rest : goal.invariant-loop-rest
invariant-loop-rest g l = record {
  part : IsKeptPart l.lines;
  ready : IsReady l.session;
  calm : g.K.Sink.faults l.out ≡ g.K.Sink.faults l.initial.out;
  each : (s : State) → IsHere s l.initial.session
      → Underway g.W.Talker.told s (lines_of (l.initial.lines.kept ++ l.fn.piece)) (lines_of (l.lines.kept ++ l.rest)) l.session (g.K.Sink.held l.initial.out) (g.K.Sink.held l.out) l.initial.expansions l.expansions;
  kept : kept_of (cut (l.lines.kept ++ l.rest)).rest ≡ kept_of (cut (l.initial.lines.kept ++ l.fn.piece)).rest;
}

abbrev pub decreases-loop-rest : goal.decreases-loop-rest
decreases-loop-rest g l = length l.rest
