use Rattle.cga_facing.proofs.Facing.{meshes_face_out, solids_face_out}
use Rattle.cga_facing.proofs.laws.solids_face_out.Goals as goal

pub returns-clause-corners : goal.returns-clause-corners
returns-clause-corners c = solids_face_out

pub returns-clause-meshes : goal.returns-clause-meshes
returns-clause-meshes c = meshes_face_out
