use Rattle.cga_obj.proofs.Plain.{cube_lines}
use Rattle.cga_obj.proofs.boxes.push_cube_faces.Goals as goal

pub returns : goal.returns
returns c =
    cube_lines c.args.before _ _ _ _ c.number-one.ensures c.number-two.ensures c.number-three.ensures c.number-four.ensures
    _ _ _ _ c.number-five.ensures c.number-six.ensures c.number-seven.ensures c.number-eight.ensures
    _ _ _ _ _ _ _ c.in_ok-push_face.ensures c.in_ok-push_face-2.ensures c.in_ok-push_face-3.ensures c.in_ok-push_face-4.ensures c.in_ok-push_face-5.ensures c.in_ok-push_face-6.ensures
