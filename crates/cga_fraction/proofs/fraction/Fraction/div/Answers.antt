use Rattle.std.proofs.Common.{◌≡◌, sym, rules, pos, ◌≢◌}
use Rattle.cga_fraction.proofs.Quotients.{by_zero, quotient_is}
use Rattle.cga_fraction.proofs.fraction.Fraction.div.Goals as goal

pub returns-then-other-eq0 : goal.returns-then-other-eq0
returns-then-other-eq0 c =
    let e : c.args.other.num ≡ pos 0 = search rules in
    sym (by_zero c.args.self c.args.other e)

pub returns : goal.returns
returns c =
    let some : c.args.other.num ≢ pos 0 = search rules in
    quotient_is c.args.self c.args.other _ _ _ some c.inverted.ensures c.mul.ensures.value c.as_quotient.ensures
