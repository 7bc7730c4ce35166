use Rattle.std.proofs.Common.{◌≡◌, map, drop}
use Rattle.cga_expr.specs.Names.{seen}
use Rattle.cga_expr.specs.Holds.{all_hold, any_holds, cond_holds, conj_holds, test_holds}
use Rattle.cga_expr.proofs.cond.+holds.Given as goal

abbrev pub invariant-holds-loop-conj : goal.invariant-holds-loop-conj
invariant-holds-loop-conj l = any_holds (map conj_holds (drop l.conj-index l.conj-items)) (seen l.names) l.answers ≡ cond_holds l.fn.cond (seen l.fn.names) l.fn.answers

abbrev pub invariant-conj_holds-loop-test : goal.invariant-conj_holds-loop-test
invariant-conj_holds-loop-test l = all_hold (map test_holds (drop l.test-index l.test-items)) (seen l.names) l.answers ≡ conj_holds l.fn.conj (seen l.fn.names) l.fn.answers
