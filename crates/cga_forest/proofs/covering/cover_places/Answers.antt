use Rattle.std.proofs.Common.{arith}
use Rattle.cga_forest.specs.View.{at, hulls_of}
use Rattle.cga_forest.proofs.Covered.{covered_next}
use Rattle.cga_forest.proofs.covering.cover_places.Goals as goal

pub loop-place-preserved : goal.loop-place-preserved
loop-place-preserved c = record {
  here = covered_next c.loop-place.blocks c.cover_place.new.blocks c.args.roots.now.list (λ k. hulls_of (at c.args.store.now k)) c.args.from c.loop-place.place c.loop-place.invariant.here c.cover_place.ensures.kept c.cover_place.ensures.here;
  kept = λ p h e. c.cover_place.ensures.kept p h (c.loop-place.invariant.kept p h e);
}

pub returns-clause-here : goal.returns-clause-here
returns-clause-here c p low lt = let past = c.loop-place-test.false in c.loop-place.invariant.here p low (omega (arith, lt, past))
