use Rattle.cga_obj.proofs.Plain.{quad_lines}
use Rattle.cga_obj.proofs.boxes.push_quad_faces.Goals as goal

pub returns : goal.returns
returns c =
    quad_lines c.args.before _ _ _ _ c.number-a.ensures c.number-b.ensures c.number-c.ensures c.number-d.ensures _ _ c.in_ok-push_face.ensures
