use Rattle.std.proofs.Common.{◌≡◌, inr, subst}
use Rattle.std.specs.Prelude.{IfSome}
use Rattle.cga_order.specs.Chain.{Chain}
use Rattle.cga_order.specs.Seen.{chain_of}
use Rattle.cga_forest.specs.Node.{chain_kept}
use Rattle.cga_forest.specs.View.{Seen}
use Rattle.cga_queue.specs.Last.{IsPast}
use Rattle.cga_update.proofs.turn.has_nobody_left.Goals as goal

pub returns : goal.returns
returns c = λ is. inr (λ e here.
    subst (λ (x : Chain). IsPast c.args.work.now.renewal.new.now.mode c.args.work.now.last x)
    (subst (λ o. IfSome o (λ (k : Seen). chain_of c.chain.result ≡ chain_kept k.node)) here c.chain.ensures.value)
    (c.is_past.ensures is))
