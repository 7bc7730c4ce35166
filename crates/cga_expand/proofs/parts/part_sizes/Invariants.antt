use Rattle.std.proofs.Common.{◌≡◌, drop}
use Rattle.cga_expr.specs.Names.{seen}
use Rattle.cga_fraction.specs.Results.{onto}
use Rattle.cga_expand.specs.Collect.{collected}
use Rattle.cga_expand.specs.Scopes.{part_in}
use Rattle.cga_expand.proofs.parts.part_sizes.Given as goal

abbrev pub invariant-loop-size : goal.invariant-loop-size
invariant-loop-size l = onto l.made (collected (part_in (seen l.names) l.scope) (drop l.size-index l.sizes)) ≡ collected (part_in (seen l.fn.names) l.fn.scope) l.fn.sizes
