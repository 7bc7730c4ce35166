use Rattle.std.proofs.Common.{◌+◌, ◌*◌}
use Rattle.cga_parser.proofs.expr.+expr.Given as goal

abbrev pub decreases-inside : goal.decreases-inside
decreases-inside l = 14 * l.depth + 0

abbrev pub decreases-inside_boxed : goal.decreases-inside_boxed
decreases-inside_boxed l = 14 * l.depth + 1

abbrev pub decreases-group : goal.decreases-group
decreases-group l = 14 * l.depth + 2

abbrev pub decreases-rand_parts : goal.decreases-rand_parts
decreases-rand_parts l = 14 * l.depth + 2

abbrev pub decreases-primary_rest : goal.decreases-primary_rest
decreases-primary_rest l = 14 * l.depth + 3

abbrev pub decreases-primary : goal.decreases-primary
decreases-primary l = 14 * l.depth + 4

abbrev pub decreases-factor : goal.decreases-factor
decreases-factor l = 14 * l.depth + 5

abbrev pub decreases-scaled : goal.decreases-scaled
decreases-scaled l = 14 * l.depth + 6

abbrev pub decreases-all_scaled-all_of : goal.decreases-all_scaled-all_of
decreases-all_scaled-all_of l = 14 * l.depth + 7

abbrev pub decreases-all_scaled : goal.decreases-all_scaled
decreases-all_scaled l = 14 * l.depth + 8

abbrev pub decreases-term : goal.decreases-term
decreases-term l = 14 * l.depth + 9

abbrev pub decreases-added : goal.decreases-added
decreases-added l = 14 * l.depth + 10

abbrev pub decreases-all_added-all_of : goal.decreases-all_added-all_of
decreases-all_added-all_of l = 14 * l.depth + 11

abbrev pub decreases-all_added : goal.decreases-all_added
decreases-all_added l = 14 * l.depth + 12

abbrev pub decreases-expr : goal.decreases-expr
decreases-expr l = 14 * l.depth + 13
