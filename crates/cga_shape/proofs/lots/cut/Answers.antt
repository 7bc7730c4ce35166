use Rattle.std.proofs.Common.{◌≡◌, ◌+◌, ◌-◌, ◌++◌, drop, take, ap, sym, arith, ◌∙◌}
use Rattle.std.proofs.Math.Seq.{take-add}
use Rattle.cga_shape.specs.Runs.{joined}
use Rattle.cga_shape.proofs.Runs.{joined-more}
use Rattle.cga_shape.proofs.lots.cut.Goals as goal

pub loop-done-preserved : goal.loop-done-preserved
loop-done-preserved c =
    let lots = c.args.lots.now in
    let done = c.loop-done.done in
    let run = c.in_ok-from_vec.field-0 in
    let size : (done + c.min.result) - done ≡ c.min.result = omega arith in
    let read = c.in_ok-from_vec.ensures ∙ (c.in_ok-run.ensures.items ∙ ap (λ n. take n (drop done lots)) size) in (
      omega arith,
      ap joined c.in_ok-push.ensures.items ∙ (joined-more c.loop-done.runs.items run
          ∙ (ap (λ l. l ++ run) c.loop-done.invariant.1 ∙ (ap (λ l. take done lots ++ l) read ∙ sym (take-add done c.min.result lots)))),
    )
