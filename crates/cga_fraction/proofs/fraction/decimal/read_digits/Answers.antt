use Rattle.std.proofs.Common.{◌≡◌, ◌+◌, ◌*◌, ◌^◌, ◌≤◌, length, arith, rules, true}
use Rattle.cga_fraction.specs.Decimals.{is_numeral}
use Rattle.cga_fraction.proofs.Digits.{side_small, second_small}
use Rattle.cga_fraction.proofs.Decimals.{read_is}
use Rattle.cga_fraction.proofs.fraction.decimal.read_digits.Goals as goal

pub value_after-requires-clause-small : goal.value_after-requires-clause-small
value_after-requires-clause-small c = side_small (length c.args.whole.now) (omega arith)

pub value_after-numerator-requires-clause-small : goal.value_after-numerator-requires-clause-small
value_after-numerator-requires-clause-small c = second_small c.value_after.result (length c.args.whole.now) (length c.args.places.now) (omega arith) c.value_after.ensures.small

pub lowest-requires-clause-small : goal.lowest-requires-clause-small
lowest-requires-clause-small c =
    let k : (c.value_after.result + 1) * 10 ^ length c.args.places.now ≤ 10 ^ 18 = second_small c.value_after.result (length c.args.whole.now) (length c.args.places.now) (omega arith) c.value_after.ensures.small in
    let m = c.value_after-numerator.ensures.small in
    omega arith

pub lowest-requires-clause-few : goal.lowest-requires-clause-few
lowest-requires-clause-few c =
    let k = side_small (length c.args.places.now) (omega arith) in
    let e = c.power_of_ten.ensures.value in
    omega arith

pub returns : goal.returns
returns c =
    let n : is_numeral c.args.whole.now ≡ true = search rules in
    let few : length c.args.whole.now + length c.args.places.now ≤ 18 = omega arith in
    read_is c.args.whole.now c.args.places.now c.value_after.result c.value_after-numerator.result c.power_of_ten.result _ n few c.value_after.ensures.value c.value_after-numerator.ensures.value c.power_of_ten.ensures.value c.lowest.ensures
