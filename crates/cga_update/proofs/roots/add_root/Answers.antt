use Rattle.std.proofs.Common.{sym, ◌∙◌, refl, [], None}
use Rattle.cga_forest.specs.View.{Seen}
use Rattle.cga_queue.proofs.Door.{on_ok}
use Rattle.cga_update.proofs.Adding.{root_by, root_there, no_root_there, gains_at, created_at}
use Rattle.cga_update.proofs.Lots.{root_name}
use Rattle.cga_update.proofs.roots.add_root.Goals as goal

pub returns-then-is_some-clause-there : goal.returns-then-is_some-clause-there
returns-then-is_some-clause-there c = root_there c.args.forest.now c.args.lot.now.name c.root_of.result c.root_of.ensures (sym c.is_some.ensures ∙ c.if-is_some.true)

pub add_lot-requires-clause-new : goal.add_lot-requires-clause-new
add_lot-requires-clause-new c = no_root_there c.args.forest.now c.args.lot.now.name c.root_of.result c.root_of.ensures (sym c.is_some.ensures ∙ c.if-is_some.false)

pub returns-clause-gains : goal.returns-clause-gains
returns-clause-gains c = on_ok c.list_node.result (λ listed. gains_at c.args.new.now c.args.forest.now c.add_lot.new.self c.args.lot.now c.requires.listed
    (no_root_there c.args.forest.now c.args.lot.now.name c.root_of.result c.root_of.ensures (sym c.is_some.ensures ∙ c.if-is_some.false))
    c.in_ok-root.root (root_by c.args.symbols.now c.args.new.now.grammar c.add_lot.new.self c.args.lot.now c.in_ok-root.root c.requires.symbols c.in_ok-root.ensures.root) c.in_ok-root.ensures.fresh c.in_ok-root.ensures.unmarked c.in_ok-root.ensures.others c.in_ok-root.ensures.mark) c.list_node.ensures

pub returns-clause-there : goal.returns-clause-there
returns-clause-there c =
    let root = c.in_ok-root.ensures.root in
    let seen : Seen = record { node = root.0; depth = 0; parent = None; index = 0; children = [] } in
    on_ok c.list_node.result (λ listed. (c.in_ok-root.root, seen, (root.2, refl, root_name c.args.lot.now root.0.shape root.1.shape))) c.list_node.ensures

pub returns-clause-created : goal.returns-clause-created
returns-clause-created c = on_ok c.list_node.result (λ listed W within lists. created_at c.args.new.now c.args.forest.now c.add_lot.new.self c.args.lot.now c.requires.listed
    (no_root_there c.args.forest.now c.args.lot.now.name c.root_of.result c.root_of.ensures (sym c.is_some.ensures ∙ c.if-is_some.false))
    c.in_ok-root.root (root_by c.args.symbols.now c.args.new.now.grammar c.add_lot.new.self c.args.lot.now c.in_ok-root.root c.requires.symbols c.in_ok-root.ensures.root) c.in_ok-root.ensures.fresh c.in_ok-root.ensures.unmarked c.in_ok-root.ensures.others W c.args.created.now.items c.list_node.new.list.items within lists listed) c.list_node.ensures
