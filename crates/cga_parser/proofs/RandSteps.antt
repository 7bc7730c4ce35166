-- The steps of a rand, read after its ends.
use Rattle.std.proofs.Common.{◌≡◌, ℕ, Ok, Err, refl, sym, subst}
use Rattle.cga_lexer.specs.declared.sign.Sign.TheVariants as s
use Rattle.cga_syntax.specs.Limits.{most_steps}
use Rattle.cga_form.specs.declared.fault.Fault.{Fault}
use Rattle.cga_fraction.specs.declared.stop.Stop.{Stop}
use Rattle.cga_form.specs.Reader.{Input, Reader, ReadResult, ◌>>=◌, ◌>>◌, and_then, pure, single}
use Rattle.cga_form.specs.Cursor.{Fails}
use Rattle.cga_form.specs.Tokens.{a_whole}
use Rattle.cga_rule.specs.declared.expr.Expr.{Expr}
use Rattle.cga_parser.specs.Grammar.{sign}
use Rattle.cga_parser.specs.Portions.{rand_steps}
use Rattle.cga_parser.proofs.Loops.{fails_then}

module _ {B : Type 0} (b : Reader ℕ) (d : Reader (Unit {0})) (h : ℕ → B) where
  by_end : (n : ℕ) (w : ReadResult (Unit {0}))
      → and_then w (λ _. pure (h n)) ≡ and_then (and_then w (λ _. pure n)) (λ n. pure (h n))
  by_end n (Ok p) = refl
  by_end n (Err e) = refl

  by_number : (v : ReadResult ℕ)
      → and_then v (λ n. d >> pure (h n)) ≡ and_then (and_then v (λ n. d >> pure n)) (λ n. pure (h n))
  by_number (Ok p) = by_end p.0 (d p.1)
  by_number (Err e) = refl

  by_sign : (u : ReadResult (Unit {0}))
      → and_then u (λ _. b >>= λ n. d >> pure (h n)) ≡ and_then (and_then u (λ _. b >>= λ n. d >> pure n))
      (λ n. pure (h n))
  by_sign (Ok p) = by_number (b p.1)
  by_sign (Err e) = refl

abbrev with_ends : Expr → Expr → ℕ → Expr × Expr × ℕ
with_ends low high n = (low, high, n)

pub rand_fails : (low high : Expr) (i : Input) (e : Stop Fault) → Fails e (rand_steps i)
    → Fails {A = Expr × Expr × ℕ} e
    (and_then (sign s.Comma i) (λ _. single (a_whole 1 most_steps) >>= λ n. sign s.RightRound >> pure (low, high, n)))
rand_fails low high i e f =
    subst (Fails {A = Expr × Expr × ℕ} e)
    (sym (by_sign (single (a_whole 1 most_steps)) (sign s.RightRound) (with_ends low high) (sign s.Comma i)))
    (fails_then e (rand_steps i) (λ n. pure (with_ends low high n)) f)
