-- A factor, with the minus before it.
use Rattle.std.proofs.Common.{◌≡◌, ℕ, Bool, true, false, if◌then◌else◌, List, [], ◌∷◌, Result, Ok, Err, ap, subst}
use Rattle.cga_lexer.specs.declared.sign.Sign.TheVariants as s
use Rattle.cga_syntax.specs.declared.lexeme.Lexeme.{Lexeme}
use Rattle.cga_rule.specs.declared.expr.Expr.{Expr}
use Rattle.cga_rule.specs.declared.expr.Factor.{Factor}
use Rattle.cga_rule.specs.declared.expr.Primary.{Primary}
use Rattle.cga_fraction.specs.declared.stop.Stop.{Stop}
use Rattle.cga_fraction.specs.declared.stop.Stop.TheVariants as stop
use Rattle.cga_form.specs.declared.fault.Fault.{Fault}
use Rattle.cga_form.specs.Cursor.{Fails, Reads}
use Rattle.cga_form.specs.Reader.{Input, Reader, at, and_then, pure, skipped, taking}
use Rattle.cga_form.specs.Tokens.{is_sign, passing}
use Rattle.cga_parser.specs.Gained.{TakesMinus}
use Rattle.cga_parser.specs.Grammar.{primary, signed, factor}

module _ (p : Bool → Reader Factor) (r : Result Factor (Stop Fault)) (j : Input) where
  taken : (x b : Bool) (i new : Input) → b ≡ x → new ≡ (if b then skipped i else i) → Reads (p b new) r j
      → Reads (if x then and_then (taking (passing x) i) (λ _. p true) else p false i) r j
  taken true true i new e q h = subst (λ z. Reads (p true z) r j) q h
  taken false false i new e q h = subst (λ z. Reads (p false z) r j) q h
  taken true false i new e q h = absurd (cc)
  taken false true i new e q h = absurd (cc)

module _ (n : ℕ) (inside : Reader Expr) (r : Result Factor (Stop Fault)) (j : Input) where
  signed_at : (left : List Lexeme) (count : ℕ) (b : Bool) (new : Input) → TakesMinus (at left count) b new
      → Reads (signed n inside b new) r j → Reads (factor n inside (at left count)) r j
  unfolding factor
  signed_at [] count b new t h = taken (signed n inside) r j false b (at [] count) new t.0 t.1 h
  signed_at (k ∷ ks) count b new t h = taken (signed n inside) r j (is_sign s.Minus k) b (at (k ∷ ks) count) new t.0 t.1 h

module _ (n : ℕ) (inside : Reader Expr) (old : Input) (b : Bool) (new : Input) (t : TakesMinus old b new) where
  pub factor_ok : (x : Primary) (j : Input) → primary n inside new ≡ Ok (x, j)
      → factor n inside old ≡ Ok (record { minus = b; primary = x }, j)
  factor_ok x j h = signed_at n inside (Ok (record { minus = b; primary = x })) j old.left old.count b new t (ap (λ o. and_then o (λ y. pure (record { minus = b; primary = y }))) h)

  pub factor_fails : (e : Stop Fault) → Fails e (primary n inside new) → Fails e (factor n inside old)
  factor_fails stop.NoMemory f = tt
  factor_fails (stop.Fault e) f = signed_at n inside (Err (stop.Fault e)) new old.left old.count b new t (ap (λ o. and_then o (λ y. pure (record { minus = b; primary = y }))) f)
