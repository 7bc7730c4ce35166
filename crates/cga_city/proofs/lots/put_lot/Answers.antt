use Rattle.std.proofs.Common.{◌≡◌, IfOk, List, sym, subst}
use Rattle.cga_shape.specs.declared.lot.Lot.{Lot}
use Rattle.cga_city.proofs.Differing.{with_same}
use Rattle.cga_city.proofs.lots.put_lot.Goals as goal

pub returns-then-stands_at : goal.returns-then-stands_at
returns-then-stands_at c =
    subst (λ (xs : List Lot). IfOk c.share.result (λ new. new ≡ xs)) (sym (with_same c.args.lot c.args.lots.now c.args.place c.requires.place (c.stands_at.ensures c.if-stands_at.true))) c.share.ensures
