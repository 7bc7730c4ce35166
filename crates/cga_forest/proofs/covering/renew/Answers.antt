use Rattle.std.proofs.Common.{ℕ, ◌*◌, ◌+◌, ◌<◌, length, arith}
use Rattle.cga_forest.specs.View.{at, hulls_of}
use Rattle.cga_forest.proofs.Covered.{covered_anew}
use Rattle.cga_forest.proofs.covering.renew.Goals as goal
use Rattle.cga_forest.proofs.covering.renew.Goals.{then-count-from-lt-BLOCK, else-count-from-lt-BLOCK}

pub returns-after-count-from-lt-BLOCK : goal.returns-after-count-from-lt-BLOCK
returns-after-count-from-lt-BLOCK c =
    let n = c.len-count.ensures in
    let reach : (p : ℕ) → p < length c.args.roots.now.list → p < 16 * c.args.block + 16 → p < c.if-count-from-lt-BLOCK.to = elim c.if-count-from-lt-BLOCK.branch [
      | then-count-from-lt-BLOCK w ↦ λ p a b. let t = w.to-is in omega (arith, a, b, t, n)
      | else-count-from-lt-BLOCK w ↦ λ p a b. let t = w.to-is in omega (arith, a, b, t, n)
    ] in
    covered_anew c.args.blocks.now c.empty.new.self c.cover_places.new.blocks c.args.roots.now.list (λ k. hulls_of (at c.args.store.now k)) c.args.block c.if-count-from-lt-BLOCK.to
    reach c.empty.ensures.others c.cover_places.ensures.kept c.cover_places.ensures.here c.requires
