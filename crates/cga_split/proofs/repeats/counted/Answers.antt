use Rattle.std.proofs.Common.{sym, ap, ◌∙◌, subst}
use Rattle.std.specs.Prelude.{IsTrue}
use Rattle.cga_fraction.specs.Rat.{Rat, zero_rat}
use Rattle.cga_fraction.specs.Order.{rat_lt}
use Rattle.cga_fraction.specs.Arithmetic.{divided}
use Rattle.cga_split.specs.Faults.{within}
use Rattle.cga_split.proofs.Shares.{whole_positive, step_sign}
use Rattle.cga_split.proofs.repeats.counted.Goals as goal

pub quotient-requires : goal.quotient-requires
quotient-requires c = subst (λ (x : Rat). IsTrue (rat_lt zero_rat x)) (sym c.from.ensures) (whole_positive c.args.count c.requires.count)

pub parts-requires : goal.parts-requires
parts-requires c =
    step_sign c.args.length c.in-Ok.step c.args.count c.requires.length c.requires.count
    (ap (λ (x : Rat). within (divided c.args.length x)) (sym c.from.ensures) ∙ sym (c.in-Ok.ensures {u = tt}))
