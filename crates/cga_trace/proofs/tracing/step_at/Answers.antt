use Rattle.std.proofs.Common.{ap, ◌∙◌, arith, length}
use Rattle.cga_forest.proofs.Door.{inside}
use Rattle.cga_forest.specs.Tree.{children_of}
use Rattle.cga_trace.proofs.Turning.{some_of}
use Rattle.cga_trace.proofs.tracing.step_at.Goals as goal

pub children-children-requires : goal.children-children-requires
children-children-requires c =
    let n = some_of _ c.requires.here in
    inside c.args.forest.now c.laws.ensures c.args.id (n.0, n.1)

pub step_of-requires : goal.step_of-requires
step_of-requires c =
    let n = some_of _ c.requires.here in
    let few = c.laws.ensures.present.few c.args.id n.0 n.1 in
    let children = c.children-children.ensures ∙ ap (λ o. length (children_of o)) n.1 in
    record { few = omega (arith, few, children) }
