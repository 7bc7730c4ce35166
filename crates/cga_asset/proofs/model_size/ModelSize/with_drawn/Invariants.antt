use Rattle.std.proofs.Common.{◌≡◌, ◌+◌, ◌≤◌, take}
use Rattle.std.specs.Prelude.{sum_by}
use Rattle.cga_asset.specs.Dressed.{entries_of, vertices_of}
use Rattle.cga_asset.proofs.model_size.ModelSize.with_drawn.Given as goal

abbrev pub invariant-loop-instance : goal.invariant-loop-instance
invariant-loop-instance g l = record {
  vertices : l.vertices ≡ l.fn.self.vertices + sum_by (vertices_of (g.M.Meshes.mesh_of l.meshes)) (take l.instance-index l.drawn);
  numbers : l.numbers ≡ l.fn.self.entries + sum_by (entries_of (g.M.Meshes.mesh_of l.meshes)) (take l.instance-index l.drawn);
  few_vertices : l.vertices ≤ 4000000;
  few_numbers : l.numbers ≤ 16000000;
}
