use Rattle.std.proofs.Common.{map}
use Rattle.cga_syntax.specs.declared.keyword.Keyword.TheVariants as k
use Rattle.cga_syntax.specs.Pieces.{keyword, conj_pieces, test_pieces}
use Rattle.cga_syntax.proofs.Printed.{spread_first, spread_on}
use Rattle.cga_syntax.proofs.print.cond.+print.Goals as goal

pub push_conjs-loop-conj-init : goal.push_conjs-loop-conj-init
push_conjs-loop-conj-init t c = spread_first (keyword k.Or) c.args.marks.now (map conj_pieces c.args.conjs.now)

pub push_conjs-loop-conj-preserved : goal.push_conjs-loop-conj-preserved
push_conjs-loop-conj-preserved t c = spread_on (keyword k.Or) conj_pieces c.loop-conj.between c.loop-conj.marks c.args.conjs.now c.loop-conj.conj-index c.conj-item.result _ _ _ c.loop-conj-test.true c.conj-item.is c.loop-conj.invariant c.in_ok-push_between.ensures c.in_ok-push_conj.ensures

pub push_tests-loop-test-init : goal.push_tests-loop-test-init
push_tests-loop-test-init t c = spread_first (keyword k.And) c.args.marks.now (map test_pieces c.args.tests.now)

pub push_tests-loop-test-preserved : goal.push_tests-loop-test-preserved
push_tests-loop-test-preserved t c = spread_on (keyword k.And) test_pieces c.loop-test.between c.loop-test.marks c.args.tests.now c.loop-test.test-index c.test-item.result _ _ _ c.loop-test-test.true c.test-item.is c.loop-test.invariant c.in_ok-push_between.ensures c.in_ok-push_test.ensures
