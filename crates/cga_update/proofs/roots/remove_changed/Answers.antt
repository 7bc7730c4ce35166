use Rattle.std.proofs.Common.{◌≡◌, Option, None, Some, sym, ap, subst, ◌∙◌}
use Rattle.std.specs.Option.{option_copied}
use Rattle.cga_fraction.proofs.Door.{None-not-Some as none_some, same_Some as some_same}
use Rattle.cga_shape.specs.declared.lot.Lot.{Lot}
use Rattle.cga_update.specs.Roots.{IsLotNamed, lot_at}
use Rattle.cga_update.proofs.Lots.{found_again}
use Rattle.cga_update.proofs.Rooting.{keeps_roots, still_wanted}
use Rattle.cga_update.proofs.roots.remove_changed.Goals as goal

pub returns-in_default-clause-wanted : goal.returns-in_default-clause-wanted
returns-in_default-clause-wanted c =
    let none : lot_at c.args.renewal.old.now.lots c.args.gone ≡ None = sym c.lot_at.ensures ∙ ap option_copied c.in_default.is in
    still_wanted c.args.renewal.old.now c.args.renewal.new.now c.args.gone c.args.come c.requires.differ c.args.forest.now c.args.forest.now c.requires.wanted (keeps_roots c.args.renewal.new.now c.args.forest.now)
    (λ was is. none_some was (sym none ∙ is))

pub returns-in_default-clause-loses : goal.returns-in_default-clause-loses
returns-in_default-clause-loses c = keeps_roots c.args.renewal.new.now c.args.forest.now

pub clear_root-requires-clause-lot : goal.clear_root-requires-clause-lot
clear_root-requires-clause-lot c =
    let old = c.args.renewal.old.now in
    let new = c.args.renewal.new.now in
    let was = c.in-Some.lot.now in
    let at : lot_at old.lots c.args.gone ≡ Some was =
    sym c.lot_at.ensures ∙ ap option_copied c.in-Some.is in
    let again = c.lot_named-again.ensures in
    subst (λ (found : Option Lot). IsLotNamed new.lots was.name found) (sym again)
    (found_again old new c.args.gone c.args.come c.requires.differ c.args.renewal.old_names was at)

pub returns-clause-wanted : goal.returns-clause-wanted
returns-clause-wanted c =
    let old = c.args.renewal.old.now in
    let new = c.args.renewal.new.now in
    let at : lot_at old.lots c.args.gone ≡ Some c.in-Some.lot.now =
    sym c.lot_at.ensures ∙ ap option_copied c.in-Some.is in
    still_wanted old new c.args.gone c.args.come c.requires.differ c.args.forest.now c.clear_root.new.forest c.requires.wanted c.in_ok-clear_root.ensures.loses
    (λ was is k d w.
    let same : c.in-Some.lot.now ≡ was = some_same c.in-Some.lot.now was (sym at ∙ is) in
    c.in_ok-clear_root.ensures.wanted k d (w.0, w.1, w.2 ∙ ap (λ (l : Lot). l.name) (sym same)))
