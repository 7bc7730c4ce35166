use Rattle.std.proofs.Common.{◌+◌, ◌*◌}
use Rattle.cga_parser.proofs.cond.+cond.Given as goal

abbrev pub decreases-inner : goal.decreases-inner
decreases-inner l = 10 * l.depth + 0

abbrev pub decreases-square : goal.decreases-square
decreases-square l = 10 * l.depth + 1

abbrev pub decreases-test : goal.decreases-test
decreases-test l = 10 * l.depth + 2

abbrev pub decreases-further_tests-all_of+arg4 : goal.decreases-further_tests-all_of+arg4
decreases-further_tests-all_of+arg4 l = 10 * l.depth + 3

abbrev pub decreases-further_tests : goal.decreases-further_tests
decreases-further_tests l = 10 * l.depth + 4

abbrev pub decreases-conj : goal.decreases-conj
decreases-conj l = 10 * l.depth + 5

abbrev pub decreases-further_conjs-all_of+arg4 : goal.decreases-further_conjs-all_of+arg4
decreases-further_conjs-all_of+arg4 l = 10 * l.depth + 6

abbrev pub decreases-further_conjs : goal.decreases-further_conjs
decreases-further_conjs l = 10 * l.depth + 7

abbrev pub decreases-cond : goal.decreases-cond
decreases-cond l = 10 * l.depth + 8
