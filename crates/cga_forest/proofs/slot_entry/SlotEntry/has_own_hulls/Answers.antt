use Rattle.std.proofs.Common.{◌∙◌, refl, ap}
use Rattle.cga_kept_hulls.specs.declared.kept_hulls.KeptHulls.TheVariants.{Own}
use Rattle.cga_forest.proofs.Known.{known_own, same_flags}
use Rattle.cga_forest.proofs.slot_entry.SlotEntry.has_own_hulls.Goals as goal

pub returns-in-Own : goal.returns-in-Own
returns-in-Own c told = known_own c.args.self.now c.args.self.now.node refl (c.in-Own.is ∙ ap Own (same_flags c.in-Own.asks c.args.self.now.node.asks told))
