use Rattle.std.proofs.Common.{ap}
use Rattle.cga_order.specs.Total.{rank_total, stamp_total}
use Rattle.cga_order.proofs.Order.{rank_exact}
use Rattle.cga_order.proofs.Chains.{rank-place, stamps-place}
use Rattle.cga_order.proofs.laws.orders.Goals as goal

pub returns : goal.returns
returns c = record {
  ranks = rank_total;
  one_rank = λ mode a b e. let p = rank-place a b (rank_exact mode _ _ e) in (ap (λ q. q.0) p, ap (λ q. q.1) p);
  stamps = stamp_total;
  one_stamp = λ mode a b e. let p = stamps-place mode a b e in (ap (λ q. q.0) p, ap (λ q. q.1) p);
}
