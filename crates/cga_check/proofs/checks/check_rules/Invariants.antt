use Rattle.std.proofs.Common.{◌≡◌, [], drop, take}
use Rattle.cga_check.specs.Faults.{first, each_after, rule_faults}
use Rattle.cga_check.proofs.checks.check_rules.Given as goal

abbrev pub invariant-loop-i : goal.invariant-loop-i
invariant-loop-i l = first (each_after (rule_faults l.grammar) (take l.i l.entries) (drop l.i l.entries)) ≡ first (each_after (rule_faults l.fn.grammar) [] l.fn.grammar.rules)
