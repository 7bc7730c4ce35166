use Rattle.std.proofs.Common.{◌≡◌, Some, sym, ap, ◌∙◌}
use Rattle.std.specs.Option.{option_copied}
use Rattle.cga_update.specs.Roots.{lot_at}
use Rattle.cga_update.proofs.Adding.{nothing_gained}
use Rattle.cga_update.proofs.Lots.{found_at, scope_of_lot}
use Rattle.cga_update.proofs.Rooting.{there_all, there_now}
use Rattle.cga_update.proofs.roots.add_changed.Goals as goal

pub returns-in_default-clause-gains : goal.returns-in_default-clause-gains
returns-in_default-clause-gains c = nothing_gained c.args.renewal.new.now c.args.forest.now

pub returns-in_default-clause-there : goal.returns-in_default-clause-there
returns-in_default-clause-there c =
    there_all c.args.renewal.new.now c.args.come c.args.forest.now c.requires.there
    (sym c.lot_at.ensures ∙ ap option_copied c.in_default.is)

pub add_root-requires : goal.add_root-requires
add_root-requires c =
    let is : lot_at c.args.renewal.new.now.lots c.args.come ≡ Some c.in-Some.lot.now =
    sym c.lot_at.ensures ∙ ap option_copied c.in-Some.is in
    let at = found_at c.args.renewal.new.now.lots c.args.come c.in-Some.lot.now is in
    record { symbols = c.requires.symbols; listed = (at.0, at.2); scope = scope_of_lot c.args.renewal.new.now.lots c.args.renewal.roots at.0 c.in-Some.lot.now at.2 }

pub returns-clause-there : goal.returns-clause-there
returns-clause-there c =
    let is : lot_at c.args.renewal.new.now.lots c.args.come ≡ Some c.in-Some.lot.now =
    sym c.lot_at.ensures ∙ ap option_copied c.in-Some.is in
    there_now c.args.renewal.new.now c.args.come c.args.forest.now c.add_root.new.forest c.requires.there c.in_ok-add_root.ensures.gains c.in-Some.lot.now is c.in_ok-add_root.ensures.there
