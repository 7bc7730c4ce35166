use Rattle.std.proofs.Common.{sym, subst, Result, IfOk}
use Rattle.cga_asset.specs.Wardrobe.{WardrobeView, with_asset}
use Rattle.cga_asset.specs.declared.fault.AssetFault.{AssetFault}
use Rattle.cga_solid.specs.declared.solid_mesh.SolidMesh.{SolidMesh}
use Rattle.cga_top.specs.Replies.{given}
use Rattle.cga_top.specs.Session.{Did}
use Rattle.cga_top.proofs.Clothes.{clothed_did}
use Rattle.cga_top.proofs.dresses.keep_asset.Goals as goal

pub returns-in-Ok-clause-did : goal.returns-in-Ok-clause-did
returns-in-Ok-clause-did c = λ s n st.
    subst (λ (m : Result SolidMesh AssetFault). IfOk c.reply_to.result (λ reply. Did (given s c.args.name m) c.args.session.now.city.changes (record c.args.session.now { wardrobe = c.set-done.new.self }) reply n n)) (sym c.in-Ok.is)
    (clothed_did s c.args.session.now c.set-done.new.self (λ (w : WardrobeView). with_asset w c.args.name c.in-Ok.asset) c.set-done.result c.reply_to.result n st c.set-done.ensures c.reply_to.ensures)
