use Rattle.std.proofs.Common.{sym}
use Rattle.cga_split.proofs.Shares.{rest_sign, total_sign}
use Rattle.cga_split.proofs.subdivide.divide.Goals as goal

pub parts-requires-clause-rest : goal.parts-requires-clause-rest
parts-requires-clause-rest c =
    rest_sign c.along-length.result c.in_ok-absolute.absolute c.in_ok-rest.rest c.args.sizes.now (sym (c.if-not-is_positive.ensures {u = tt})) (sym (c.if-not-are_positive.ensures {u = tt}).value)
    (sym (c.in_ok-absolute.ensures {u = tt})) (sym (c.if-is_off.ensures {u = tt})) (sym (c.in_ok-rest.ensures {u = tt}))

pub parts-requires-clause-total : goal.parts-requires-clause-total
parts-requires-clause-total c =
    total_sign c.in_ok-relative.relative c.args.sizes.now (sym (c.if-not-are_positive.ensures {u = tt}).value) (sym (c.in_ok-relative.ensures {u = tt}))
