use Rattle.std.proofs.Common.{◌+◌, ◌*◌}
use Rattle.cga_parser.proofs.item.+item.Given as goal

abbrev pub decreases-inner_items : goal.decreases-inner_items
decreases-inner_items l = 11 * l.depth + 0

abbrev pub decreases-inner_body : goal.decreases-inner_body
decreases-inner_body l = 11 * l.depth + 0

abbrev pub decreases-scoped : goal.decreases-scoped
decreases-scoped l = 11 * l.depth + 1

abbrev pub decreases-braced_body : goal.decreases-braced_body
decreases-braced_body l = 11 * l.depth + 1

abbrev pub decreases-further_bodies-all_of+arg4 : goal.decreases-further_bodies-all_of+arg4
decreases-further_bodies-all_of+arg4 l = 11 * l.depth + 1

abbrev pub decreases-further_bodies : goal.decreases-further_bodies
decreases-further_bodies l = 11 * l.depth + 2

abbrev pub decreases-braced_bodies : goal.decreases-braced_bodies
decreases-braced_bodies l = 11 * l.depth + 3

abbrev pub decreases-subdiv_rest : goal.decreases-subdiv_rest
decreases-subdiv_rest l = 11 * l.depth + 4

abbrev pub decreases-repeat_rest : goal.decreases-repeat_rest
decreases-repeat_rest l = 11 * l.depth + 4

abbrev pub decreases-comp_rest : goal.decreases-comp_rest
decreases-comp_rest l = 11 * l.depth + 4

abbrev pub decreases-item_rest : goal.decreases-item_rest
decreases-item_rest l = 11 * l.depth + 5

abbrev pub decreases-item : goal.decreases-item
decreases-item l = 11 * l.depth + 6

abbrev pub decreases-further_items-all_of : goal.decreases-further_items-all_of
decreases-further_items-all_of l = 11 * l.depth + 7

abbrev pub decreases-further_items : goal.decreases-further_items
decreases-further_items l = 11 * l.depth + 8

abbrev pub decreases-items : goal.decreases-items
decreases-items l = 11 * l.depth + 9

abbrev pub decreases-body : goal.decreases-body
decreases-body l = 11 * l.depth + 10
