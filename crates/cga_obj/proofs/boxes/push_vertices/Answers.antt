use Rattle.cga_obj.proofs.Plain.{vertices_are}
use Rattle.cga_obj.proofs.boxes.push_vertices.Goals as goal

pub returns : goal.returns
returns c =
    vertices_are c.args.decimals c.args.along.now.0 c.args.along.now.1 c.args.along.now.2 c.args.corners.now
    _ _ _ _ _ c.first-x.ensures c.further-y.ensures c.further-z.ensures c.in_ok-push_corners.ensures
