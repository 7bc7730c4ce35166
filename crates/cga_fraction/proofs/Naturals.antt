-- Products of naturals.
use Rattle.std.proofs.Common.{◌≡◌, ℕ, zero, suc, ◌*◌, ◌<◌, arith}

pub cross_products : (n d g a b : ℕ) → a * g ≡ n → b * g ≡ d → a * d ≡ n * b
cross_products n d g a b e f = rw (← e, ← f) (omega arith)

pub above_zero : (b g d : ℕ) → b * g ≡ d → 0 < d → 0 < b
above_zero zero g d e h = absurd (omega arith)
above_zero (suc b) g d e h = omega arith
