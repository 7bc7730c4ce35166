use Rattle.std.proofs.Common.{None, refl, subst}
use Rattle.cga_update.specs.Roots.{AreThereStill}
use Rattle.cga_update.specs.declared.changed_lots.ChangedLots.{ChangedLots}
use Rattle.cga_update.proofs.Adding.{nothing_gained}
use Rattle.cga_update.proofs.Rooting.{there_all}
use Rattle.cga_update.proofs.roots.add_roots.Goals as goal

pub returns-in-Nothing-clause-gains : goal.returns-in-Nothing-clause-gains
returns-in-Nothing-clause-gains c = nothing_gained c.args.renewal.new.now c.args.forest.now

pub returns-in-Nothing-clause-there : goal.returns-in-Nothing-clause-there
returns-in-Nothing-clause-there c =
    there_all c.args.renewal.new.now None c.args.forest.now
    (subst (λ (lots : ChangedLots). AreThereStill lots c.args.renewal.new.now c.args.forest.now) c.in-Nothing.is c.requires.there) refl

pub add_changed-requires-clause-there : goal.add_changed-requires-clause-there
add_changed-requires-clause-there c = subst (λ (lots : ChangedLots). AreThereStill lots c.args.renewal.new.now c.args.forest.now) c.in-One.is c.requires.there
