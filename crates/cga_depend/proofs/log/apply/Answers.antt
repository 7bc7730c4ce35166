use Rattle.std.proofs.Common.{refl}
use Rattle.cga_depend.proofs.Applying.{applied_next, applied_end}
use Rattle.cga_depend.proofs.Places.{drop_at, drop_end}
use Rattle.cga_depend.proofs.log.apply.Goals as goal

pub loop-entry-preserved : goal.loop-entry-preserved
loop-entry-preserved c =
    let rest = drop_at c.args.log.now c.args.log.now refl c.loop-entry.entry-index c.entry-item.result c.loop-entry-test.true c.entry-item.is in record {
      applied = applied_next c.entry-item.result _ _ _ c.args.dependents.now c.loop-entry.dependents c.apply_one.new.dependents rest c.in_ok-apply_one.ensures.noted c.loop-entry.invariant.applied;
    }

pub returns : goal.returns
returns c =
    let none = drop_end c.args.log.now c.args.log.now refl c.loop-entry.entry-index c.loop-entry-test.false in
    record { applied = applied_end _ _ c.args.dependents.now c.loop-entry.dependents none c.loop-entry.invariant.applied }
