use Rattle.std.proofs.Common.{sym, subst}
use Rattle.cga_order.specs.Seen.{chain_of}
use Rattle.cga_queue.specs.Last.{IsPast}
use Rattle.cga_queue.specs.declared.last.Last as declared
use Rattle.cga_queue.proofs.Bounding.{past_key}
use Rattle.cga_queue.proofs.last.Last.is_past.Goals as goal

pub returns-in-At : goal.returns-in-At
returns-in-At c = λ is.
    subst (λ (l : declared.Last). IsPast c.args.mode l (chain_of c.args.chain.now)) (sym c.in-At.is)
    (past_key c.args.mode c.in-At.key c.is_before.result (chain_of c.args.chain.now) c.is_before.ensures is)
