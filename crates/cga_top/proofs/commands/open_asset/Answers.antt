use Rattle.std.proofs.Common.{[], refl}
use Rattle.cga_top.specs.State.{of_asset}
use Rattle.cga_top.proofs.commands.open_asset.Goals as goal

pub returns-clause-did : goal.returns-clause-did
returns-clause-did c = λ s n st. c.open.ensures.did s (of_asset c.args.name []) n st (refl, c.new-reader.ensures)
