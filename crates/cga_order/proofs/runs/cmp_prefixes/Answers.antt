use Rattle.std.proofs.Common.{◌∙◌, sym, inl, inr, arith}
use Rattle.cga_order.proofs.Prefixes.{slice_cmp-within, slice_cmp-past}
use Rattle.cga_order.proofs.runs.cmp_prefixes.Goals as goal

pub returns-then-common-j : goal.returns-then-common-j
returns-then-common-j c =
    let common = c.requires.common in
    c.cmp.ensures ∙ sym (slice_cmp-past c.args.common c.args.xs.now c.args.ys.now c.args.i c.args.j common.same c.requires.left c.requires.right c.if-common-i.true c.if-common-j.true (common.parts (omega (arith, c.requires.left, c.if-common-i.true)) (omega (arith, c.requires.right, c.if-common-j.true))))

pub returns-else-common-i : goal.returns-else-common-i
returns-else-common-i c =
    c.cmp-else-common-i.ensures
    ∙ sym (slice_cmp-within c.args.common c.args.xs.now c.args.ys.now c.args.i c.args.j c.requires.common.same c.requires.left c.requires.right
    (elim c.else-common-i.either [ inl h ↦ inr h.1 | inr h ↦ inl h ]))
