use Rattle.std.proofs.Common.{arith}
use Rattle.cga_order.specs.Seen.{chain_of}
use Rattle.cga_order.proofs.Shared.{shares-ranks}
use Rattle.cga_order.proofs.walk.shared_ranks.Goals as goal

pub returns : goal.returns
returns c =
    let common = c.common_length.ensures in
    record {
      left = omega (arith, common.left, c.min.ensures);
      right = omega (arith, common.right, c.min.ensures);
      same = shares-ranks (chain_of c.args.a.now) (chain_of c.args.b.now) c.min.result c.args.parting.common c.common_length.result (omega (arith, c.min.ensures)) (omega (arith, c.min.ensures)) c.requires.lots common.same c.requires.parting.common.same;
    }
