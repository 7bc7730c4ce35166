use Rattle.cga_asset.specs.Wardrobe.{WardrobeView, dressed}
use Rattle.cga_top.proofs.Clothes.{clothed_did}
use Rattle.cga_top.proofs.dresses.dress.Goals as goal

pub returns-clause-did : goal.returns-clause-did
returns-clause-did c = λ s n st. clothed_did s c.args.session.now c.dress-done.new.self (λ (w : WardrobeView). dressed w c.args.symbol c.args.name) c.dress-done.result c.reply_to.result n st c.dress-done.ensures c.reply_to.ensures
