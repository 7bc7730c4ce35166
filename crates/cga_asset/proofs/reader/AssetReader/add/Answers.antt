use Rattle.cga_asset.proofs.Faces.{face_added}
use Rattle.cga_asset.proofs.reader.AssetReader.add.Goals as goal

pub returns-in_ok-push-in-Face-Some-2-clause-gives : goal.returns-in_ok-push-in-Face-Some-2-clause-gives
returns-in_ok-push-in-Face-Some-2-clause-gives c = λ e total.
    rw (c.faces_fault-self.ensures, c.len-in-Face-Some.ensures, c.in_ok-push-in-Face-Some.ensures.ok, c.in_ok-push-in-Face-Some-2.ensures.ok, c.requires, c.in-Face-Some.is, c.in-Face-Some.field-0-is)
    (face_added total c.args.self.now.lines c.args.self.now.mesh c.args.self.now.face_lines c.in-Face-Some.corners e)
