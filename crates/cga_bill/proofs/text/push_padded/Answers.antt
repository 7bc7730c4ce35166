use Rattle.std.proofs.Common.{arith, refl}
use Rattle.cga_fraction.proofs.Door.{padded-end, padded-step}
use Rattle.cga_bill.proofs.text.push_padded.Goals as goal

pub loop-left-preserved : goal.loop-left-preserved
loop-left-preserved c = record {
  few = omega arith;
  text = rw c.in_ok-push.ensures (padded-step _ _ c.loop-left.left c.args.number _ (omega arith) (rw c.power_of_ten.ensures.value refl) c.loop-left.invariant.text);
}

pub returns : goal.returns
returns c = padded-end _ _ c.loop-left.left c.args.number (omega arith) c.loop-left.invariant.text
