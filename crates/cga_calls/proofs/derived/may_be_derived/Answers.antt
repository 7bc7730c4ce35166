use Rattle.std.proofs.Common.{arith}
use lib.Pointwise.{bytes_decides}
use Rattle.cga_calls.proofs.Lots.{two_differ}
use Rattle.cga_calls.proofs.derived.may_be_derived.Goals as goal

pub returns-then-is_ok-clause-names : goal.returns-then-is_ok-clause-names
returns-then-is_ok-clause-names c = λ is.
    let lot = c.lot-item-then-lots-lt3.result in
    let other = c.other-item.result in
    two_differ c.args.lots.now lot other (omega arith) (omega arith) c.lot-item-then-lots-lt3.is c.other-item.is
    (λ e. let same = (bytes_decides lot.name other.name).1 e in cc c.if-eq.ensures)
