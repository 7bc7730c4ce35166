use Rattle.std.proofs.Common.{◌≡◌, drop}
use Rattle.cga_expand.specs.Rules.{picked}
use Rattle.cga_expand.proofs.rules.picked_items.Given as goal

abbrev pub invariant-loop-alternative : goal.invariant-loop-alternative
invariant-loop-alternative l = picked l.number l.before (drop l.alternative-index l.alternatives) ≡ picked l.fn.number 0 l.fn.alternatives
