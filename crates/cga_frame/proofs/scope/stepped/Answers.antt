use Rattle.std.proofs.Common.{◌≡◌, rules, false}
use Rattle.cga_frame.specs.Axes.{same_axis}
use Rattle.cga_frame.proofs.Standing.{stay}
use Rattle.cga_frame.proofs.scope.stepped.Goals as goal

pub returns-then-not-lies_along : goal.returns-then-not-lies_along
returns-then-not-lies_along c =
    let e : same_axis c.args.along.axis c.args.axis ≡ false = search rules in
    stay c.args.along c.args.axis c.args.from c.args.by e c.requires
