use Rattle.std.proofs.Common.{◌≡◌, ◌≤◌, ◌++◌}
use Rattle.cga_fraction.specs.Texts.{padded}
use Rattle.cga_bill.proofs.text.push_padded.Given as goal

abbrev pub invariant-loop-left : goal.invariant-loop-left
invariant-loop-left l = record {
  few : l.left ≤ 6;
  text : l.text ++ padded l.left l.number ≡ l.initial.text ++ padded 6 l.number;
}

abbrev pub decreases-loop-left : goal.decreases-loop-left
decreases-loop-left l = l.left
