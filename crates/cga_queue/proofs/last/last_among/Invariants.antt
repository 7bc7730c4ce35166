use Rattle.std.proofs.Common.{◌≡◌, ℕ, Some}
use Rattle.cga_order.specs.Chain.{Chain}
use Rattle.cga_queue.specs.Last.{IsUpTo, chain_at}
use Rattle.cga_queue.proofs.Bounding.{FirstHave}
use Rattle.cga_queue.proofs.last.last_among.Given as goal

abbrev pub invariant-loop-id : goal.invariant-loop-id
invariant-loop-id g l = record {
  all : FirstHave (λ (k : ℕ). (x : Chain) → g.N.Chained.chains l.nodes k ≡ Some x → IsUpTo l.mode (chain_at (g.N.Chained.chains l.nodes) l.last) x) l.ids l.id-index;
  kept : (x : Chain) → IsUpTo l.mode (chain_at (g.N.Chained.chains l.nodes) l.fn.first) x → IsUpTo l.mode (chain_at (g.N.Chained.chains l.nodes) l.last) x;
}
