use Rattle.std.proofs.Common.{◌≡◌, ◌+◌, ◌≤◌, length, take}
use Rattle.cga_expand.specs.Run.{run_to}
use Rattle.cga_derive.specs.Underway.{IsUnderway}
use Rattle.cga_judge.specs.declared.limits.TheConstants.{MOST_SHAPES}
use Rattle.cga_judge.proofs.judging.judge.Given as goal

abbrev pub invariant-loop-given : goal.invariant-loop-given
invariant-loop-given g l = record {
  place : l.place ≡ l.given-index + 1;
  most : l.given-index ≤ MOST_SHAPES;
  within : l.given-index ≤ length l.steps;
  along : run_to l.sources l.given-index ≡ take l.given-index l.steps;
  underway : IsUnderway l.sources l.given-index l.run;
  count : l.expansions ≡ l.fn.expansions + l.given-index;
}
