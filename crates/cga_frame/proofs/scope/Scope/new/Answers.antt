use Rattle.std.proofs.Common.{◌≡◌, sym, rules, true, false, Ok, Err}
use Rattle.cga_frame.specs.Scope.{has_negative}
use Rattle.cga_frame.proofs.Standing.{negative_size, sized}
use Rattle.cga_frame.proofs.scope.Scope.new.Goals as goal

pub returns-then-has_negative-clause-value : goal.returns-then-has_negative-clause-value
returns-then-has_negative-clause-value c =
    let e : has_negative c.args.size ≡ true = search rules in
    sym (negative_size c.args.at c.args.frame c.args.size e)

pub returns-in-Ok-clause-value : goal.returns-in-Ok-clause-value
returns-in-Ok-clause-value c =
    let e : has_negative c.args.size ≡ false = search rules in
    sized c.args.at c.args.frame c.args.size (Ok c.in-Ok.scope) e c.in-Ok.ensures.value

pub returns-in-Err-clause-value : goal.returns-in-Err-clause-value
returns-in-Err-clause-value c =
    let e : has_negative c.args.size ≡ false = search rules in
    sized c.args.at c.args.frame c.args.size (Err c.in-Err.field-0) e c.in-Err.ensures.value
