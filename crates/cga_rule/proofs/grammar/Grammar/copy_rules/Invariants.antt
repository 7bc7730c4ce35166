use Rattle.std.proofs.Common.{◌≡◌, take}
use Rattle.cga_rule.proofs.grammar.Grammar.copy_rules.Given as goal

abbrev pub invariant-loop-entry : goal.invariant-loop-entry
invariant-loop-entry l = l.copy.items ≡ take l.entry-index l.self.rules
