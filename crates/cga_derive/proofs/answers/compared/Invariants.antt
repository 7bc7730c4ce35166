use Rattle.std.proofs.Common.{◌≡◌, ◌≤◌, length, drop}
use Rattle.cga_derive.specs.Compared.{compared}
use Rattle.cga_derive.proofs.answers.compared.Given as goal

-- what the members behind come to
abbrev pub invariant-loop-left : goal.invariant-loop-left
invariant-loop-left l = record {
  within : l.left ≤ length l.list;
  found : l.found ≡ compared l.target l.shape (drop l.left l.list);
}

abbrev pub decreases-loop-left : goal.decreases-loop-left
decreases-loop-left l = l.left
