use Rattle.std.proofs.Common.{◌≡◌, rules, w64, pos}
use Rattle.std.proofs.lemmas.Int.{to_z-of_z}
use Rattle.std.specs.Int.RustNames.{FitsSigned}
use Rattle.cga_fraction.specs.Rat.{IsFraction}
use Rattle.cga_fraction.proofs.Sums.{over_one_is, same_left, same_right}
use Rattle.cga_fraction.proofs.fraction.Fraction.add.Goals as goal

pub returns-then-other-eq0-clause-value : goal.returns-then-other-eq0-clause-value
returns-then-other-eq0-clause-value c =
    let f : IsFraction c.args.self = search rules in
    let e : c.args.other.num ≡ pos 0 = search rules in
    same_right c.args.self c.args.other f e

pub returns-then-self-eq0-clause-value : goal.returns-then-self-eq0-clause-value
returns-then-self-eq0-clause-value c =
    let f : IsFraction c.args.other = search rules in
    let e : c.args.self.num ≡ pos 0 = search rules in
    same_left c.args.self c.args.other f e

pub returns-then-self-other-clause-value : goal.returns-then-self-other-clause-value
returns-then-self-other-clause-value c =
    let f : FitsSigned w64 c.self.inside.numerator = search rules in
    let g : FitsSigned w64 c.other.inside.numerator = search rules in
    let e : c.self.inside.denominator ≡ c.other.inside.denominator = search rules in
    over_one_is c.args.self c.args.other _ _ _ _ c.self.inside.denominator _ c.self.view_is (rw (← e) at c.other.view_is) c.self.invariant.positive (to_z-of_z w64 _ f) (to_z-of_z w64 _ g) c.over_one.ensures
