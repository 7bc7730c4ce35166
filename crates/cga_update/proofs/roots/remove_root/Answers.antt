use Rattle.std.proofs.Common.{◌++◌, List, sym, ap, ◌∙◌, subst}
use Rattle.cga_forest.specs.declared.node_change.NodeChange.{NodeChange}
use Rattle.cga_update.specs.Roots.{HasLost}
use Rattle.cga_update.proofs.Losing.{gone_named, less_named, lost_named, others_named, none_named, some_named}
use Rattle.cga_update.proofs.roots.remove_root.Goals as goal

pub returns-in_default-clause-gone : goal.returns-in_default-clause-gone
returns-in_default-clause-gone c = none_named c.args.forest.now c.args.name c.root_of.result c.root_of.ensures c.in_default.is

pub below-requires : goal.below-requires
below-requires c = record { here = some_named c.args.forest.now c.args.name c.root_of.result c.root_of.ensures c.in-Some.root c.in-Some.is }

pub returns-clause-lost : goal.returns-clause-lost
returns-clause-lost c = λ V lost.
    subst (λ (list : List NodeChange). HasLost V c.remove_lot.new.self list) (sym (c.in_ok-extend_from_slice.ensures.items ∙ ap (λ (ys : List NodeChange). c.args.removed.now.items ++ ys) c.as_slice.ensures))
    (lost_named c.args.forest.now c.remove_lot.new.self c.args.name c.root_of.result c.root_of.ensures c.in-Some.root c.in-Some.is c.remove_lot.result c.remove_lot.ensures.absent c.remove_lot.ensures.there c.laws.ensures V c.args.removed.now.items c.in_ok-below.below c.remove_lot.ensures.mark c.in_ok-below.ensures lost)

pub returns-clause-gone : goal.returns-clause-gone
returns-clause-gone c = gone_named c.args.forest.now c.remove_lot.new.self c.args.name c.root_of.result c.root_of.ensures c.in-Some.root c.in-Some.is c.remove_lot.result c.remove_lot.ensures.absent c.remove_lot.ensures.there c.laws.ensures

pub returns-clause-less : goal.returns-clause-less
returns-clause-less c = less_named c.args.forest.now c.remove_lot.new.self c.args.name c.root_of.result c.root_of.ensures c.in-Some.root c.in-Some.is c.remove_lot.result c.remove_lot.ensures.absent c.remove_lot.ensures.there c.laws.ensures

pub returns-clause-others : goal.returns-clause-others
returns-clause-others c = others_named c.args.forest.now c.remove_lot.new.self c.args.name c.root_of.result c.root_of.ensures c.in-Some.root c.in-Some.is c.remove_lot.result c.remove_lot.ensures.absent c.remove_lot.ensures.there c.laws.ensures
