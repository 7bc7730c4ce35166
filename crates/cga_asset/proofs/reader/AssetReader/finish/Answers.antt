use Rattle.std.proofs.Common.{ℕ, List, ◌∙◌, ap}
use Rattle.cga_asset.specs.Pending.{pending}
use Rattle.cga_asset.proofs.Reading.{end_faulty, end_whole}
use Rattle.cga_asset.proofs.reader.AssetReader.finish.Goals as goal

pub returns-in-Ok : goal.returns-in-Ok
returns-in-Ok c = λ lines h.
    end_whole c.args.self lines c.finished.result h
    (c.in-Ok.ensures ∙ (ap (λ (x : List (List ℕ)). pending c.args.self.vertex_lines x c.as_slice-2.result.now) c.as_slice.ensures ∙ ap (λ (x : List ℕ). pending c.args.self.vertex_lines c.args.self.mesh.faces x) c.as_slice-2.ensures))
    c.finished.ensures

pub returns-in-Err : goal.returns-in-Err
returns-in-Err c = λ lines h.
    end_faulty c.args.self lines c.in-Err.fault h
    (c.in-Err.ensures ∙ (ap (λ (x : List (List ℕ)). pending c.args.self.vertex_lines x c.as_slice-2.result.now) c.as_slice.ensures ∙ ap (λ (x : List ℕ). pending c.args.self.vertex_lines c.args.self.mesh.faces x) c.as_slice-2.ensures))
