use Rattle.std.proofs.Common.{◌≡◌, [], drop, take}
use Rattle.cga_check.specs.Faults.{first, each_after, attribute_faults}
use Rattle.cga_check.proofs.checks.check_attributes.Given as goal

abbrev pub invariant-loop-i : goal.invariant-loop-i
invariant-loop-i l = first (each_after attribute_faults (take l.i l.attributes) (drop l.i l.attributes)) ≡ first (each_after attribute_faults [] l.fn.attributes)
