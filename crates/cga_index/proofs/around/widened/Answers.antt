use Rattle.cga_index.proofs.Widening.{is_wider, wider_is_box}
use Rattle.cga_index.proofs.around.widened.Goals as goal

pub invariant_of-result : goal.invariant_of-result
invariant_of-result c = wider_is_box c.args.inner.now c.inner.inside.low c.inner.inside.high c.in_ok-low.low c.in_ok-high.high c.from.result c.from-2.result c.inner.view_is c.from.ensures c.from-2.ensures c.in_ok-low.ensures c.in_ok-high.ensures c.inner.invariant

pub returns : goal.returns
returns c = is_wider c.args.inner.now c.inner.inside.low c.inner.inside.high c.in_ok-low.low c.in_ok-high.high c.from.result c.from-2.result c.inner.view_is c.from.ensures c.from-2.ensures c.in_ok-low.ensures c.in_ok-high.ensures
