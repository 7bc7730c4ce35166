use Rattle.std.proofs.Common.{◌≡◌, ◌*◌, ◌^◌, ◌≤◌, drop}
use Rattle.std.specs.Prelude.{bytes_eq}
use Rattle.std.specs.List.{IsDistinct}
use Rattle.cga_top.specs.Prints.{in_lots}
use Rattle.cga_top.proofs.LotTexts.{LotsCome}
use Rattle.cga_top.proofs.print_lots.write_lots.Given as goal

abbrev pub invariant-loop-lot : goal.invariant-loop-lot
invariant-loop-lot g l = record {
  come : LotsCome (g.M.Meshes.mesh_of l.meshes) l.session.decimals (in_lots l.session.city) l.lots (drop l.lot-index l.lots) l.before (g.K.Sink.held l.initial.out) (g.K.Sink.held l.out);
  apart : IsDistinct bytes_eq (drop l.lot-index l.lots);
  room : l.before ≤ l.lot-index * 2 ^ 95;
  calm : g.K.Sink.faults l.out ≡ g.K.Sink.faults l.initial.out;
}
