use Rattle.std.proofs.Common.{◌≡◌, Some, ap, ◌∙◌}
use Rattle.cga_forest.specs.Tree.{content_of}
use Rattle.cga_forest.specs.declared.node.Node.{Node}
use Rattle.cga_update.proofs.turn.symbol_at.Goals as goal

pub returns : goal.returns
returns c = λ d here.
    let found : Some c.node_of.result.now ≡ Some d.node = c.node_of.ensures ∙ ap content_of here in
    let same : c.node_of.result.now ≡ d.node = cc in
    ap (λ (n : Node). n.shape.symbol) same
