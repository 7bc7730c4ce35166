use Rattle.std.proofs.Common.{List, ℕ, subst}
use Rattle.cga_forest.specs.Tree.{IsRootOf, node_at}
use Rattle.cga_forest.proofs.Grown.{root_named}
use Rattle.cga_forest.proofs.Forest.add_lot.Goals as goal

pub add_root-requires-clause-new : goal.add_root-requires-clause-new
add_root-requires-clause-new c = λ k r.
    c.requires.new k (subst (λ (n : List ℕ). IsRootOf (node_at c.args.self.now) n k) (root_named c.args.lot.now c.in_ok-node.node.shape c.requires.scope c.in_ok-node.ensures.made.shape) r)

pub returns-clause-root : goal.returns-clause-root
returns-clause-root c = (c.in_ok-node.node, c.in_ok-node.ensures.made, rw c.new.ensures c.in_ok-root.ensures.node)
