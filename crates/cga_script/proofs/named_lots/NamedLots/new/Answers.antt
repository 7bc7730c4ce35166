use Rattle.std.proofs.Common.{arith, ap, length}
use Rattle.cga_script.proofs.LotPlaces.{no_places}
use Rattle.cga_script.proofs.named_lots.NamedLots.new.Goals as goal

pub invariant_of-result : goal.invariant_of-result
invariant_of-result c =
    let none = ap length c.new.ensures.items in
    (no_places c.new.result.items c.new-2.result c.new.ensures.items c.new-2.ensures.empty, omega (arith, none))
