use Rattle.std.proofs.Common.{arith, sym, subst, ap, ◌∙◌, ◌++◌, ◌∷◌, [], List, take, append_assoc, length-append}
use Rattle.std.proofs.lemmas.List.{length-take-le, take_all}
use Rattle.cga_shape.specs.declared.drawn.Drawn.{Drawn}
use Rattle.cga_bill.specs.Bill.{IsBill}
use Rattle.cga_bill.proofs.Bounds.{can_add}
use Rattle.cga_bill.proofs.Lists.{one_come}
use Rattle.cga_bill.proofs.Steps.{added}
use Rattle.cga_bill.proofs.lines.add_all.Goals as goal

pub add-requires : goal.add-requires
add-requires c =
    let list : List Drawn = c.requires.0 in
    let come : List Drawn = c.args.come.now in
    let n = length-append list (take c.loop-drawn.drawn-index come) in
    let m = length-take-le c.loop-drawn.drawn-index come (omega arith) in
    can_add c.loop-drawn.lines.entries c.drawn-item.result (list ++ take c.loop-drawn.drawn-index come) (c.loop-drawn.invariant list c.requires.1) (omega (arith, n, m, c.requires.2))

pub loop-drawn-preserved : goal.loop-drawn-preserved
loop-drawn-preserved c = λ list h.
    let come : List Drawn = c.args.come.now in
    let so_far : List Drawn = take c.loop-drawn.drawn-index come in
    let more = added c.loop-drawn.lines c.add.new.lines c.drawn-item.result (list ++ so_far) (c.loop-drawn.invariant list h) c.in_ok-add.ensures.updates c.in_ok-add.ensures.ordered in
    subst (λ (l : List Drawn). IsBill c.add.new.lines.entries l)
    (append_assoc list so_far (c.drawn-item.result ∷ []) ∙ ap (λ (l : List Drawn). list ++ l) (sym (one_come come c.loop-drawn.drawn-index c.drawn-item.result c.loop-drawn-test.true (sym c.drawn-item.is))))
    more

pub returns : goal.returns
returns c = λ list h.
    subst (λ (l : List Drawn). IsBill c.loop-drawn.lines.entries (list ++ l)) (take_all c.loop-drawn.drawn-index c.args.come.now c.loop-drawn-test.false) (c.loop-drawn.invariant list h)
