use Rattle.std.proofs.Common.{Some, sym, ap, ◌∙◌}
use Rattle.cga_expand.specs.Asked.{answer_if}
use Rattle.cga_derive.specs.Compared.{targeted}
use Rattle.cga_derive.proofs.Compared.{compared-is}
use Rattle.cga_derive.proofs.answers.answer.Goals as goal

pub returns-then-mentioned : goal.returns-then-mentioned
returns-then-mentioned c =
    ap Some (c.compared.ensures ∙ compared-is c.args.target c.args.shape.now c.args.list.now)
    ∙ ap (λ b. answer_if b c.args.shape.now (targeted c.args.target c.args.list.now)) (sym c.if-mentioned.true)
