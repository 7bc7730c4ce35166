use Rattle.std.proofs.Common.{◌∙◌, sym}
use Rattle.cga_queue.specs.Last.{chain_at}
use Rattle.cga_queue.proofs.Bounding.{next_kept, next_not, next_own}
use Rattle.cga_queue.proofs.last.later.Goals as goal

pub returns-then-is_later-clause-next : goal.returns-then-is_later-clause-next
returns-then-is_later-clause-next g c = λ x is. next_own c.args.mode (g.N.Chained.chains c.args.nodes.now c.args.id) x is

pub returns-then-is_later-clause-kept : goal.returns-then-is_later-clause-kept
returns-then-is_later-clause-kept g c = λ x up.
    next_kept c.args.mode (chain_at (g.N.Chained.chains c.args.nodes.now) c.args.last) (g.N.Chained.chains c.args.nodes.now c.args.id) x
    (sym c.is_later.ensures ∙ c.if-is_later.true) up

pub returns-else-is_later-clause-next : goal.returns-else-is_later-clause-next
returns-else-is_later-clause-next g c = λ x is.
    next_not c.args.mode (chain_at (g.N.Chained.chains c.args.nodes.now) c.args.last) (g.N.Chained.chains c.args.nodes.now c.args.id) x
    (sym c.is_later.ensures ∙ c.if-is_later.false) is
