use Rattle.std.proofs.Common.{◌≡◌, drop}
use Rattle.cga_check.specs.Groups.{rules_of}
use Rattle.cga_expand.specs.Choices.{found_of, nothing, tried_all}
use Rattle.cga_expand.proofs.choose.chosen_rule.Given as goal

abbrev pub invariant-loop-entry : goal.invariant-loop-entry
invariant-loop-entry l =
    tried_all l.attributes l.shape l.answers (found_of l.choice) (rules_of (drop l.entry-index l.entries) l.shape.symbol)
    ≡ tried_all l.fn.attributes l.fn.shape l.fn.answers nothing (rules_of l.fn.entries l.fn.shape.symbol)
