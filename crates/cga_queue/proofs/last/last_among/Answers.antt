use Rattle.std.proofs.Common.{◌≡◌, ℕ, Some, arith, subst}
use Rattle.cga_fraction.proofs.Door.{same_Some as some_same, slice_get_from_get_or}
use Rattle.std.proofs.Common.{sym, ◌∙◌}
use Rattle.cga_order.specs.Chain.{Chain}
use Rattle.cga_queue.specs.Last.{IsUpTo, chain_at}
use Rattle.cga_queue.proofs.Bounding.{first_next, first_whole}
use Rattle.cga_queue.proofs.last.last_among.Goals as goal

pub loop-id-init : goal.loop-id-init
loop-id-init g c = record { all = λ i k lt. absurd (omega (arith, lt)); kept = λ x up. up }

pub loop-id-preserved : goal.loop-id-preserved
loop-id-preserved g c =
    let D = g.N.Chained.chains c.args.nodes.now in
    let ids = c.args.ids.now in
    let n = c.loop-id.id-index in
    let id = c.id-item.result in
    let at = slice_get_from_get_or ids n id c.loop-id-test.true c.id-item.is in
    let more = c.later-last.ensures in record {
      all = first_next (λ (k : ℕ). (x : Chain) → D k ≡ Some x → IsUpTo c.args.mode (chain_at D c.loop-id.last) x)
          (λ (k : ℕ). (x : Chain) → D k ≡ Some x → IsUpTo c.args.mode (chain_at D c.later-last.result) x) ids n
          (λ k up x is. more.kept x (up x is))
          (λ k here. subst (λ (j : ℕ). (x : Chain) → D j ≡ Some x → IsUpTo c.args.mode (chain_at D c.later-last.result) x) (some_same id k (sym at ∙ here)) more.next)
          c.loop-id.invariant.all;
      kept = λ x up. more.kept x (c.loop-id.invariant.kept x up);
    }

pub returns-clause-all : goal.returns-clause-all
returns-clause-all g c =
    let D = g.N.Chained.chains c.args.nodes.now in
    λ k x among is. first_whole (λ (j : ℕ). (y : Chain) → D j ≡ Some y → IsUpTo c.args.mode (chain_at D c.loop-id.last) y) c.args.ids.now c.loop-id.id-index c.loop-id-test.false c.loop-id.invariant.all k among x is
