use Rattle.std.proofs.Common.{ℕ, List, length, sym, arith}
use Rattle.cga_asset.proofs.Large.{next_sum}
use Rattle.cga_asset.proofs.model_size.entries.Goals as goal

pub loop-face-preserved : goal.loop-face-preserved
loop-face-preserved c = record {
  value = next_sum (λ (f : List ℕ). length f) c.args.faces.now c.loop-face.face-index c.face-item.result c.loop-face.entries c.len.result c.loop-face-test.true (sym c.face-item.is) c.loop-face.invariant.value c.len.ensures;
  small = omega arith;
}
