use Rattle.std.proofs.Common.{◌≡◌, ◌+◌, ◌-◌, ◌<◌, ℕ, length, false, filter, get_or, take, sym, ap, ◌∙◌, arith}
use Rattle.cga_check.specs.Groups.{is_of}
use Rattle.cga_expand.proofs.Around.{one_less, passed_by}
use Rattle.cga_expand.proofs.places.end_of.Goals as goal

pub loop-end-preserved : goal.loop-end-preserved
loop-end-preserved c =
    let es = c.args.entries.now in
    let p = is_of c.args.symbol in
    let i = c.loop-end.end - 1 in
    let x = c.index-entries-end.result in
    let lt : i < length es = omega (arith, c.loop-end.invariant.0, c.loop-end-test.true) in
    let on : i + 1 ≡ c.loop-end.end = omega (arith, c.loop-end-test.true) in
    let other : p (get_or es i x) ≡ false = passed_by (p (get_or es i x)) c.ne.result c.ne.ensures c.if-ne.true in
    (omega (arith, lt), sym (one_less p es i x lt other) ∙ ap (λ (n : ℕ). filter p (take n es)) on ∙ c.loop-end.invariant.1)
