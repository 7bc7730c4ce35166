use Rattle.std.proofs.Common.{◌≡◌, ◌+◌, ◌*◌, ◌^◌, ◌≤◌, length}
use Rattle.cga_obj.specs.Lots.{AreSolid}
use Rattle.cga_top.proofs.LotTexts.{Comes}
use Rattle.cga_top.proofs.print_lots.write_instances.Given as goal

abbrev pub invariant-loop-rest : goal.invariant-loop-rest
invariant-loop-rest g l = record {
  come : Comes (g.M.Meshes.mesh_of l.meshes) l.decimals l.before l.drawn l.after l.rest (g.K.Sink.held l.initial.out) (g.K.Sink.held l.out);
  solid : AreSolid l.rest;
  room : l.after + length l.rest * 2 ^ 64 ≤ l.before + length l.drawn * 2 ^ 64;
  calm : g.K.Sink.faults l.out ≡ g.K.Sink.faults l.initial.out;
}

abbrev pub decreases-loop-rest : goal.decreases-loop-rest
decreases-loop-rest g l = length l.rest
