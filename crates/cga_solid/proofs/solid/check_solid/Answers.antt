use Rattle.std.proofs.Common.{ap, sym, ◌∙◌}
use Rattle.cga_solid.specs.Solids.{form_of, is_cornered, lacks_size}
use Rattle.cga_solid.proofs.Cornered.{check_cornered}
use Rattle.cga_solid.proofs.solid.check_solid.Goals as goal

pub returns-then-is_cornered : goal.returns-then-is_cornered
returns-then-is_cornered c =
    let p = c.args.primitive in
    let size = sym c.size-size.ensures.value in
    let sized = ap (lacks_size p) size ∙ sym c.lacks_size.ensures ∙ c.if-lacks_size.false in
    let form = ap (λ s. is_cornered (form_of p s)) size ∙ ap is_cornered (sym c.of-form.ensures) in
    check_cornered p c.args.scope.now c.size-size.ensures.exists sized (form ∙ sym c.is_cornered.ensures ∙ c.if-is_cornered.true)
