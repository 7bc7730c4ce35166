use Rattle.std.proofs.Common.{◌≡◌, ◌+◌, drop}
use Rattle.cga_check.specs.Probabilities.{total}
use Rattle.cga_check.proofs.checks.probability.add_up.Given as goal

abbrev pub invariant-loop-alternative : goal.invariant-loop-alternative
invariant-loop-alternative l = l.left + total l.fn.alternatives ≡ 1000000 + total (drop l.alternative-index l.alternatives)
