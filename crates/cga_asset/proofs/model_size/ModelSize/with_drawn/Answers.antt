use Rattle.std.proofs.Common.{List, ap, length, sym, ◌+◌, ◌∙◌, ℕ}
use Rattle.std.specs.Prelude.{sum_by}
use Rattle.cga_solid.specs.declared.solid_mesh.SolidMesh.{SolidMesh}
use Rattle.cga_asset.specs.Dressed.{entries_of, vertices_of}
use Rattle.cga_asset.proofs.Large.{kept_small, next_from, passes_none, refused}
use Rattle.cga_asset.proofs.model_size.ModelSize.with_drawn.Goals as goal

pub returns-then-exceeds : goal.returns-then-exceeds
returns-then-exceeds g c =
    let m = g.M.Meshes.mesh_of c.args.meshes.now in
    let i = c.loop-instance.instance-index in
    refused m c.args.drawn.now c.args.self (i + 1) (c.loop-instance.vertices + c.len.result) (c.loop-instance.numbers + c.entries-numbers.result)
    (next_from (vertices_of m) c.args.drawn.now i c.args.self.vertices c.instance-item.result c.loop-instance.vertices c.len.result c.loop-instance-test.true (sym c.instance-item.is) c.loop-instance.invariant.vertices
    (c.len.ensures ∙ ap (λ (x : SolidMesh). length x.vertices) c.in_ok-mesh.ensures))
    (next_from (entries_of m) c.args.drawn.now i c.args.self.entries c.instance-item.result c.loop-instance.numbers c.entries-numbers.result c.loop-instance-test.true (sym c.instance-item.is) c.loop-instance.invariant.numbers
    (c.entries-numbers.ensures.value ∙ ap (λ (x : List (List ℕ)). sum_by (λ (f : List ℕ). length f) x) (c.as_slice.ensures ∙ ap (λ (x : SolidMesh). x.faces) c.in_ok-mesh.ensures)))
    (sym c.exceeds.ensures ∙ c.if-exceeds.true)

pub loop-instance-preserved : goal.loop-instance-preserved
loop-instance-preserved g c =
    let m = g.M.Meshes.mesh_of c.args.meshes.now in
    let i = c.loop-instance.instance-index in
    record {
      vertices = next_from (vertices_of m) c.args.drawn.now i c.args.self.vertices c.instance-item.result c.loop-instance.vertices c.len.result c.loop-instance-test.true (sym c.instance-item.is) c.loop-instance.invariant.vertices
          (c.len.ensures ∙ ap (λ (x : SolidMesh). length x.vertices) c.in_ok-mesh.ensures);
      numbers = next_from (entries_of m) c.args.drawn.now i c.args.self.entries c.instance-item.result c.loop-instance.numbers c.entries-numbers.result c.loop-instance-test.true (sym c.instance-item.is) c.loop-instance.invariant.numbers
          (c.entries-numbers.ensures.value ∙ ap (λ (x : List (List ℕ)). sum_by (λ (f : List ℕ). length f) x) (c.as_slice.ensures ∙ ap (λ (x : SolidMesh). x.faces) c.in_ok-mesh.ensures));
      few_vertices = (passes_none (c.loop-instance.vertices + c.len.result) (c.loop-instance.numbers + c.entries-numbers.result) (sym c.exceeds.ensures ∙ c.if-exceeds.false)).0;
      few_numbers = (passes_none (c.loop-instance.vertices + c.len.result) (c.loop-instance.numbers + c.entries-numbers.result) (sym c.exceeds.ensures ∙ c.if-exceeds.false)).1;
    }

pub returns : goal.returns
returns g c =
    let inv = c.loop-instance.invariant in
    kept_small (g.M.Meshes.mesh_of c.args.meshes.now) c.args.drawn.now c.args.self c.loop-instance.instance-index c.loop-instance.vertices c.loop-instance.numbers
    c.loop-instance-test.false inv.vertices inv.numbers inv.few_vertices inv.few_numbers
