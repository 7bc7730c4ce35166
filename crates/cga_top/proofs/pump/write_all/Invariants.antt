use Rattle.std.proofs.Common.{◌≡◌, List, ℕ, ◌++◌, length}
use Rattle.std.specs.Io.KnownBytes.{Appends}
use Rattle.cga_top.proofs.pump.write_all.Given as goal

abbrev pub invariant-loop-rest : goal.invariant-loop-rest
invariant-loop-rest g l = record {
  calm : g.K.Sink.faults l.out ≡ g.K.Sink.faults l.initial.out;
  bytes : (done : List ℕ) × (done ++ l.rest ≡ l.fn.bytes) × Appends (g.K.Sink.held l.initial.out) (g.K.Sink.held l.out) done;
}

abbrev pub decreases-loop-rest : goal.decreases-loop-rest
decreases-loop-rest g l = length l.rest
