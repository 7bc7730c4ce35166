use Rattle.std.proofs.Common.{◌∙◌, ◌&&◌, sym, ap, arith, nat_eq, slice_index_or}
use Rattle.cga_order.proofs.Along.{one_further}
use Rattle.cga_order.proofs.runs.same_steps.Goals as goal

pub loop-place-preserved : goal.loop-place-preserved
loop-place-preserved c =
    let k = c.loop-place.place in
    ap (λ t. t && nat_eq (slice_index_or c.args.left.now k 0) (slice_index_or c.args.right.now k 0)) c.loop-place.invariant
    ∙ sym (one_further c.args.left.now c.args.right.now k (omega arith) (omega arith))
