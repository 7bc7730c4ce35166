use Rattle.std.proofs.Common.{◌≡◌, [], drop, take}
use Rattle.cga_check.specs.Faults.{first, each_after, param_faults}
use Rattle.cga_check.proofs.checks.head.check_params.Given as goal

abbrev pub invariant-loop-i : goal.invariant-loop-i
invariant-loop-i l = first (each_after (param_faults l.grammar l.id) (take l.i l.params) (drop l.i l.params)) ≡ first (each_after (param_faults l.fn.grammar l.fn.id) [] l.fn.params)
