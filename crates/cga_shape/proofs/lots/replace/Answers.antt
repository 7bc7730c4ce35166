use Rattle.std.proofs.Common.{ap, sym, set, ◌∙◌}
use Rattle.cga_shape.specs.Runs.{joined}
use Rattle.cga_shape.proofs.Runs.{joined-remove}
use Rattle.cga_shape.proofs.lots.replace.Goals as goal

pub returns-then-is_empty : goal.returns-then-is_empty
returns-then-is_empty c =
    let runs = c.args.runs.now.items in
    ap joined c.remove.ensures.items ∙ (joined-remove runs c.args.at c.requires ∙ ap (λ r. joined (set runs c.args.at r)) (sym (c.is_empty.ensures.0 c.if-is_empty.true)))
