use Rattle.std.proofs.Common.{◌≡◌, ◌+◌, ◌≤◌, length}
use Rattle.cga_derive.specs.Underway.{IsUnderway}
use Rattle.cga_derive.proofs.derivation.derive.Given as goal

abbrev pub invariant-turns : goal.invariant-turns
invariant-turns g l = record {
  underway : IsUnderway l.sources l.done l.run;
  count : l.expansions ≡ l.fn.expansions + l.done;
  fits : length l.run.list.items ≤ l.budget;
}
