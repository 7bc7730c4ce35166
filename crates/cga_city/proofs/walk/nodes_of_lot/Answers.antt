use Rattle.std.proofs.Common.{refl, arith, Some}
use Rattle.cga_fraction.proofs.Door.{IfOk-map}
use Rattle.cga_forest.proofs.Door.{inside, keeps_laws}
use Rattle.cga_city.proofs.LotNodes.{root_deep}
use Rattle.cga_city.proofs.walk.nodes_of_lot.Goals as goal

pub nodes_from-requires : goal.nodes_from-requires
nodes_from-requires c =
    let v = c.args.forest.now in
    let w = (c.in-Some.ensures c.in-Some.root).0 refl in
    let deep = root_deep v c.laws.ensures c.args.lot c.in-Some.root w in
    record { laws = keeps_laws v c.laws.ensures; node = inside v c.laws.ensures c.in-Some.root (w.0, w.1); highest = omega (arith, deep) }

pub returns-in-Some : goal.returns-in-Some
returns-in-Some c =
    IfOk-map c.nodes_from.result (λ nodes listed. (Some c.in-Some.root, c.in-Some.ensures, listed)) c.nodes_from.ensures
