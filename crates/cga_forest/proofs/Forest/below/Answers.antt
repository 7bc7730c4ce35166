use Rattle.std.proofs.Common.{◌≡◌, ◌++◌, ℕ, List, sym, ap, ◌∙◌, subst}
use Rattle.std.specs.Prelude.{is_some}
use Rattle.cga_forest.specs.declared.node_change.NodeChange.{NodeChange}
use Rattle.cga_forest.specs.View.{at, kids}
use Rattle.cga_forest.specs.Gathered.{below, found}
use Rattle.cga_forest.specs.NodeChange.{ListsBelow}
use Rattle.cga_forest.specs.Tree.{ForestView, node_at}
use Rattle.cga_forest.proofs.Right.{is_there}
use Rattle.cga_forest.proofs.Moves.{lists_below}
use Rattle.cga_forest.proofs.Forest.below.Goals as goal

pub returns : goal.returns
returns c =
    let v : ForestView = record { slots = c.self.inside.store.slots; marking = c.self.inside.marking; roots = c.self.inside.roots.list; marked_roots = c.self.inside.roots.former; mode = c.self.inside.mode } in
    let s = λ (k : ℕ). at c.self.inside.store k in
    let K = λ (d : ℕ). kids (at c.self.inside.store d) in
    let e = is_there (node_at v c.args.id) (ap (λ (w : ForestView). is_some (node_at w c.args.id)) c.self.view_is ∙ c.requires.here) in
    let lists : ListsBelow v c.args.id (found s (below K 257 c.args.id)) = lists_below s c.self.invariant.forest.present.tree c.args.id e.0 e.1 in
    let gathered : c.list_below.new.list.items ≡ found s (below K 257 c.args.id) =
    c.in_ok-list_below.ensures ∙ ap (λ (l : List NodeChange). l ++ found s (below K 257 c.slot_of.result)) c.new-list.ensures.items ∙ ap (λ k. found s (below K 257 k)) c.slot_of.ensures in
    subst (λ (w : ForestView). ListsBelow w c.args.id c.from_vec.result) c.self.view_is
    (subst (λ (l : List NodeChange). ListsBelow v c.args.id l) (sym (c.from_vec.ensures ∙ gathered)) lists)
