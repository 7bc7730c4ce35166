use Rattle.std.proofs.Common.{◌≡◌, [], map, drop}
use Rattle.cga_syntax.specs.declared.keyword.Keyword.TheVariants as k
use Rattle.cga_syntax.specs.Pieces.{separated, keyword, conj_pieces, test_pieces}
use Rattle.cga_syntax.specs.Printing.{printed_on}
use Rattle.cga_syntax.proofs.Printed.{spread}
use Rattle.cga_syntax.proofs.print.cond.+print.Given as goal

abbrev pub invariant-push_conjs-loop-conj : goal.invariant-push_conjs-loop-conj
invariant-push_conjs-loop-conj l =
    printed_on l.marks (spread (keyword k.Or) l.between (map conj_pieces (drop l.conj-index l.conjs))) ≡ printed_on l.initial.marks (separated (keyword k.Or) (map conj_pieces l.conjs) [])

abbrev pub invariant-push_tests-loop-test : goal.invariant-push_tests-loop-test
invariant-push_tests-loop-test l =
    printed_on l.marks (spread (keyword k.And) l.between (map test_pieces (drop l.test-index l.tests))) ≡ printed_on l.initial.marks (separated (keyword k.And) (map test_pieces l.tests) [])
