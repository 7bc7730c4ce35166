use Rattle.std.proofs.Common.{◌∙◌, rules, sym, subst}
use Rattle.cga_order.specs.Chain as order
use Rattle.cga_forest.specs.View.{seen}
use Rattle.cga_forest.proofs.Above.{above_exact}
use Rattle.cga_forest.proofs.standing.standing_of.Goals as goal

pub exists_at-requires-clause-by : goal.exists_at-requires-clause-by
exists_at-requires-clause-by c = subst order.IsWhole (sym c.chain-chain.ensures) (c.requires.places.chain c.args.by (seen c.in-Some-Some.asker.now) c.in-Some-Some.ensures')

pub waits_at-waits-requires-clause-by : goal.waits_at-waits-requires-clause-by
waits_at-waits-requires-clause-by c = subst order.IsWhole (sym c.chain-chain.ensures) (c.requires.places.chain c.args.by (seen c.in-Some-Some.asker.now) c.in-Some-Some.ensures')

pub waits_at-waits-requires-clause-own : goal.waits_at-waits-requires-clause-own
waits_at-waits-requires-clause-own c = c.requires.places.chain c.args.node (seen c.in-Some-Some.entry.now) c.in-Some-Some.ensures

pub returns-then-is_above : goal.returns-then-is_above
returns-then-is_above c =
    let here = c.in-Some-Some.ensures in
    let asks = c.in-Some-Some.ensures' in
    let above = above_exact _ c.requires.tree c.requires.places c.requires.apart c.args.node c.args.by
    c.in-Some-Some.entry.now c.in-Some-Some.asker.now here asks c.is_above.result c.is_above.ensures in
    rw (here, asks, above ∙ c.if-is_above.true) (search rules)

pub returns-else-not-exists_at : goal.returns-else-not-exists_at
returns-else-not-exists_at c =
    let here = c.in-Some-Some.ensures in
    let asks = c.in-Some-Some.ensures' in
    let above = above_exact _ c.requires.tree c.requires.places c.requires.apart c.args.node c.args.by
    c.in-Some-Some.entry.now c.in-Some-Some.asker.now here asks c.is_above.result c.is_above.ensures in
    rw (here, asks, above ∙ c.if-is_above.false) (search rules)
