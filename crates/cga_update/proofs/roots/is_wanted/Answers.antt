use Rattle.std.proofs.Common.{◌≡◌, ◌∙◌, sym, ap, subst, true, false}
use Rattle.std.specs.Option.{option_copied}
use Rattle.cga_fraction.proofs.Door.{same_Some as some_same}
use Rattle.cga_forest.specs.Tree.{node_at}
use Rattle.cga_update.specs.Roots.{IsRootFor}
use Rattle.cga_update.proofs.Facts.{priority_told}
use Rattle.cga_update.proofs.Losing.{none_named}
use Rattle.cga_update.proofs.Lots.{not_wanted, scope_of_lot, wanted_by, wanted_for}
use Rattle.cga_update.proofs.roots.is_wanted.Goals as goal

pub returns-in_default-clause-unwanted : goal.returns-in_default-clause-unwanted
returns-in_default-clause-unwanted c = λ f k d w wanted.
    not_wanted c.args.renewal.new.now c.args.name _ c.requires.lot (ap option_copied c.in_default.is) d.node w.2 wanted

pub is_root_at-requires : goal.is_root_at-requires
is_root_at-requires c =
    let found = c.requires.lot.only c.in-Some.lot.now (ap option_copied c.in-Some.is) in
    record { scope = scope_of_lot c.args.renewal.new.now.lots c.args.renewal.roots found.1.0 c.in-Some.lot.now found.1.1 }

pub returns-in-Some-root_of-clause-wanted : goal.returns-in-Some-root_of-clause-wanted
returns-in-Some-root_of-clause-wanted c = λ t k d w.
    let found = c.requires.lot.only c.in-Some.lot.now (ap option_copied c.in-Some.is) in
    let same : k ≡ c.in-Some-root_of.root = some_same k c.in-Some-root_of.root (sym ((c.root_of.ensures k).1 (d, w.0, w.1, w.2)) ∙ c.in-Some-root_of.is) in
    wanted_by c.args.renewal.new.now found.1.0 c.in-Some.lot.now found.1.1 c.in_ok-said.said.priority (priority_told c.args.symbols.now c.args.renewal.new.now.grammar c.in-Some.lot.now.symbol c.in_ok-said.said c.in_ok-said.ensures.value c.requires.symbols) d.node
    (c.is_root_at.ensures.sound t d (ap (node_at c.args.forest.now) (sym same) ∙ w.0))

pub returns-in-Some-root_of-clause-unwanted : goal.returns-in-Some-root_of-clause-unwanted
returns-in-Some-root_of-clause-unwanted c = λ f k d w wanted.
    let found = c.requires.lot.only c.in-Some.lot.now (ap option_copied c.in-Some.is) in
    let same : k ≡ c.in-Some-root_of.root = some_same k c.in-Some-root_of.root (sym ((c.root_of.ensures k).1 (d, w.0, w.1, w.2)) ∙ c.in-Some-root_of.is) in
    let root = wanted_for c.args.renewal.new.now c.args.renewal.names found.1.0 c.in-Some.lot.now found.1.1 d.node wanted (w.2 ∙ sym found.0) in
    let here : true ≡ false =
    sym (c.is_root_at.ensures.whole d (ap (node_at c.args.forest.now) (sym same) ∙ w.0)
    (subst (λ p. IsRootFor c.in-Some.lot.now p d.node) (sym (priority_told c.args.symbols.now c.args.renewal.new.now.grammar c.in-Some.lot.now.symbol c.in_ok-said.said c.in_ok-said.ensures.value c.requires.symbols)) root)) ∙ f in absurd (cc)

pub returns-in-None-clause-wanted : goal.returns-in-None-clause-wanted
returns-in-None-clause-wanted c = λ t k d w. absurd (none_named c.args.forest.now c.args.name c.root_of.result c.root_of.ensures c.in-None.is k d w)
