use Rattle.std.proofs.Common.{None, subst}
use Rattle.cga_fraction.proofs.Door.{None-not-Some as none_some}
use Rattle.cga_update.specs.ChangedLots.{AreChanged}
use Rattle.cga_update.specs.declared.changed_lots.ChangedLots.{ChangedLots}
use Rattle.cga_update.proofs.Rooting.{keeps_roots, still_wanted}
use Rattle.cga_update.proofs.roots.remove_roots.Goals as goal

pub returns-in-Nothing-clause-wanted : goal.returns-in-Nothing-clause-wanted
returns-in-Nothing-clause-wanted c =
    still_wanted c.args.renewal.old.now c.args.renewal.new.now None None
    (subst (λ (lots : ChangedLots). AreChanged lots c.args.renewal.old.now c.args.renewal.new.now) c.in-Nothing.is c.args.renewal.told)
    c.args.forest.now c.args.forest.now c.requires.wanted (keeps_roots c.args.renewal.new.now c.args.forest.now) (λ was is. none_some was is)

pub returns-in-Nothing-clause-loses : goal.returns-in-Nothing-clause-loses
returns-in-Nothing-clause-loses c = keeps_roots c.args.renewal.new.now c.args.forest.now

pub remove_changed-requires-clause-differ : goal.remove_changed-requires-clause-differ
remove_changed-requires-clause-differ c = subst (λ (lots : ChangedLots). AreChanged lots c.args.renewal.old.now c.args.renewal.new.now) c.in-One.is c.args.renewal.told
