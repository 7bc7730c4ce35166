use Rattle.std.proofs.Common.{◌≡◌, drop}
use Rattle.cga_expr.specs.Names.{seen}
use Rattle.cga_fraction.specs.Results.{onto}
use Rattle.cga_expand.specs.Collect.{collected}
use Rattle.cga_expand.specs.Scopes.{value_in}
use Rattle.cga_expand.proofs.emit.values.Given as goal

abbrev pub invariant-loop-expr : goal.invariant-loop-expr
invariant-loop-expr l = onto l.values (collected (value_in (seen l.names) l.scope) (drop l.expr-index l.exprs)) ≡ collected (value_in (seen l.fn.names) l.fn.scope) l.fn.exprs
