use Rattle.std.proofs.Common.{◌≡◌, ◌+◌, ℕ, drop}
use Rattle.std.specs.Prelude.{◌==◌}
use Rattle.std.specs.List.{position_or_len}
use Rattle.cga_asset.proofs.numbers.stroke.Given as goal

abbrev pub invariant-loop-at : goal.invariant-loop-at
invariant-loop-at l = l.at + position_or_len (λ (b : ℕ). b == 47) (drop l.at l.word) ≡ position_or_len (λ (b : ℕ). b == 47) l.word
