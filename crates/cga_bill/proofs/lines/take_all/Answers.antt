use Rattle.std.proofs.Common.{◌+◌, sym, subst, ap, ◌∙◌, ◌++◌, List, drop}
use Rattle.std.proofs.lemmas.List.{append-nil, drop_all}
use Rattle.cga_shape.specs.declared.drawn.Drawn.{Drawn}
use Rattle.cga_bill.specs.Bill.{IsBill}
use Rattle.cga_bill.proofs.Lists.{one_left}
use Rattle.cga_bill.proofs.Steps.{can_take, taken}
use Rattle.cga_bill.proofs.lines.take_all.Goals as goal

pub take-requires : goal.take-requires
take-requires c =
    let gone : List Drawn = c.args.gone.now in
    let d : Drawn = c.drawn-item.result in
    let rest : List Drawn = c.requires.0 in
    can_take c.loop-drawn.lines.entries d rest (drop (c.loop-drawn.drawn-index + 1) gone)
    (subst (λ (l : List Drawn). IsBill c.loop-drawn.lines.entries (rest ++ l)) (one_left gone c.loop-drawn.drawn-index d c.loop-drawn-test.true (sym c.drawn-item.is)) (c.loop-drawn.invariant rest c.requires.1))

pub loop-drawn-preserved : goal.loop-drawn-preserved
loop-drawn-preserved c = λ rest h.
    let gone : List Drawn = c.args.gone.now in
    let d : Drawn = c.drawn-item.result in
    taken c.loop-drawn.lines c.take.new.lines d rest (drop (c.loop-drawn.drawn-index + 1) gone)
    (subst (λ (l : List Drawn). IsBill c.loop-drawn.lines.entries (rest ++ l)) (one_left gone c.loop-drawn.drawn-index d c.loop-drawn-test.true (sym c.drawn-item.is)) (c.loop-drawn.invariant rest h))
    c.take.ensures.updates c.take.ensures.ordered

pub returns : goal.returns
returns c = λ rest h.
    subst (λ (l : List Drawn). IsBill c.loop-drawn.lines.entries l)
    (ap (λ (l : List Drawn). rest ++ l) (drop_all c.loop-drawn.drawn-index c.args.gone.now c.loop-drawn-test.false) ∙ append-nil rest)
    (c.loop-drawn.invariant rest h)
