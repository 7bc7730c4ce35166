use Rattle.std.proofs.Common.{ℕ, ◌≤◌, length, sym, subst}
use Rattle.std.specs.Prelude.{◌==◌, not}
use Rattle.std.proofs.lemmas.List.Sums.{prefix_len-le-length}
use Rattle.cga_asset.proofs.numbers.corner.Goals as goal

pub split_at-requires : goal.split_at-requires
split_at-requires c = subst (λ (n : ℕ). n ≤ length c.args.word.now) (sym c.stroke-end.ensures) (prefix_len-le-length (λ (b : ℕ). not (b == 47)) c.args.word.now)
