use Rattle.std.proofs.Common.{◌∙◌, sym}
use Rattle.cga_order.specs.Seen.{chain_of}
use Rattle.cga_forest.specs.Tree.{node_at}
use Rattle.cga_update.specs.Queue.{chains_of}
use Rattle.cga_update.proofs.DueNodes.{lent_is, none_lent}
use Rattle.cga_update.proofs.worked.WorkedChained.chain.Goals as goal

pub returns-then-is_worked-clause-value : goal.returns-then-is_worked-clause-value
returns-then-is_worked-clause-value c =
    let v = c.args.self.now.forest.now in
    lent_is (node_at v c.args.id) (chain_of c.chain.result) (sym c.is_worked.ensures ∙ c.if-is_worked.true) c.chain.ensures.value

pub returns-else-is_worked-clause-value : goal.returns-else-is_worked-clause-value
returns-else-is_worked-clause-value c =
    none_lent (chains_of c.args.self.now.forest.now c.args.id) (sym c.is_worked.ensures ∙ c.if-is_worked.false)
