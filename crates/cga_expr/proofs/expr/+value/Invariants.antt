use Rattle.std.proofs.Common.{◌≡◌, map, drop}
use Rattle.cga_expr.specs.Names.{seen}
use Rattle.cga_expr.specs.Arithmetic.{added, scaled}
use Rattle.cga_expr.specs.Value.{from_left, added_value, scaled_value, expr_value, term_value}
use Rattle.cga_expr.proofs.expr.+value.Given as goal

abbrev pub invariant-value-loop-more : goal.invariant-value-loop-more
invariant-value-loop-more l = from_left added (map added_value (drop l.more-index l.more-items)) (seen l.names) l.sum ≡ expr_value l.fn.expr (seen l.fn.names)

abbrev pub invariant-term_value-loop-more : goal.invariant-term_value-loop-more
invariant-term_value-loop-more l = from_left scaled (map scaled_value (drop l.more-index l.more-items)) (seen l.names) l.product ≡ term_value l.fn.term (seen l.fn.names)
