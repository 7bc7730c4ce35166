use Rattle.cga_obj.proofs.Plain.{quad_count, quad_pushed}
use Rattle.cga_obj.proofs.boxes.push_quad.Goals as goal

pub returns-clause-text : goal.returns-clause-text
returns-clause-text c =
    quad_pushed c.args.scope.now c.args.along.now c.args.decimals c.args.before _ _ _ c.requires.solid c.requires.spans c.in_ok-push_vertices.ensures c.in_ok-push_quad_faces.ensures

pub returns-clause-count : goal.returns-clause-count
returns-clause-count c = quad_count c.args.scope.now c.args.along.now c.requires.solid c.requires.spans
