use Rattle.std.proofs.Common.{◌≡◌, ◌∙◌, ◌-◌, ◌+◌, ℕ, ap, arith}
use Rattle.cga_fraction.specs.Results.{onto}
use Rattle.cga_split.specs.Repeat.{repeats_from}
use Rattle.cga_split.specs.Split.{part_at}
use Rattle.cga_split.proofs.RepeatParts.{one_repeat, part_fault}
use Rattle.cga_split.proofs.repeats.parts.Goals as goal

pub loop-number-preserved : goal.loop-number-preserved
loop-number-preserved c =
    let fewer : c.args.count - (c.loop-number.number + 1) ≡ c.args.count - c.loop-number.number - 1 = omega arith in
    ap (λ (n : ℕ). onto c.push.new.self (repeats_from (part_at c.args.scope.now c.args.axis) c.args.step (c.loop-number.number + 1) n)) fewer
    ∙ one_repeat (part_at c.args.scope.now c.args.axis) c.args.step c.loop-number.number (c.args.count - c.loop-number.number) c.loop-number.made _ (omega arith) c.loop-number.invariant
    c.in-Ok.from _ c.in-Ok-part.part (c.in-Ok.ensures {u = tt}) (c.in-Ok-part.ensures {u = tt}) (c.in_ok-push-in-Ok-part.ensures {u = tt}).ok

pub returns-in-Err-part : goal.returns-in-Err-part
returns-in-Err-part c =
    part_fault (part_at c.args.scope.now c.args.axis) c.args.step c.loop-number.number (c.args.count - c.loop-number.number) c.loop-number.made _ (omega arith) c.loop-number.invariant
    c.in-Ok.from c.in-Err-part.fault (c.in-Ok.ensures {u = tt}) (c.in-Err-part.ensures {u = tt})
