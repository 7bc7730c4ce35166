-- One turn of the loops over the operands of a sum and of a product.
use Rattle.std.proofs.Common.{◌≡◌, ℕ, ◌+◌, ◌<◌, List, Bool, map, drop, length, get_or, ap, sym, ◌∙◌, Ok, Err}
use Rattle.std.proofs.lemmas.List.{at_drop_more}
use Rattle.cga_fraction.specs.Rat.{Rat}
use Rattle.cga_fraction.specs.Results.{and_then}
use Rattle.cga_expr.specs.declared.expr_fault.ExprFault.{ExprFault}
use Rattle.cga_expr.specs.Names.{Known}
use Rattle.cga_expr.specs.Arithmetic.{Computed}
use Rattle.cga_expr.specs.Value.{Marked, Meaning, from_left}

module _ {X : Type 0} (by : Bool → Rat → Rat → Computed) (mark : X → Marked) (k : Known) (xs : List X) (i : ℕ)
    (item : X) (x : Rat) (lt : i < length xs) (at : item ≡ get_or xs i item) (sign : Bool) (part : Meaning) (is : mark item ≡ (sign, part)) where
  turn : from_left by (map mark (drop i xs)) k x ≡ and_then (part k)
      (λ y. and_then (by sign x y) (from_left by (map mark (drop (i + 1) xs)) k))
  turn =
      at_drop_more (λ ys. from_left by (map mark ys) k x) xs i item lt
      ∙ ap (λ (m : X). and_then ((mark m).1 k) (λ y. and_then (by (mark m).0 x y) (from_left by (map mark (drop (i + 1) xs)) k))) (sym at)
      ∙ ap (λ (m : Marked). and_then (m.1 k) (λ y. and_then (by m.0 x y) (from_left by (map mark (drop (i + 1) xs)) k))) is

  pub goes_on : (y z : Rat) (r : Computed) → Ok y ≡ part k → Ok z ≡ by sign x y
      → from_left by (map mark (drop i xs)) k x ≡ r → from_left by (map mark (drop (i + 1) xs)) k z ≡ r
  goes_on y z r e f g =
      ap (λ (o : Computed). and_then o (from_left by (map mark (drop (i + 1) xs)) k)) f
      ∙ ap (λ (o : Computed). and_then o (λ y. and_then (by sign x y) (from_left by (map mark (drop (i + 1) xs)) k))) e
      ∙ sym turn ∙ g

  pub has_no_operand : (f : ExprFault) (r : Computed) → Err f ≡ part k → from_left by (map mark (drop i xs)) k x ≡ r
      → Err f ≡ r
  has_no_operand f r e g =
      ap (λ (o : Computed). and_then o (λ y. and_then (by sign x y) (from_left by (map mark (drop (i + 1) xs)) k))) e
      ∙ sym turn ∙ g

  pub is_refused : (y : Rat) (f : ExprFault) (r : Computed) → Ok y ≡ part k → Err f ≡ by sign x y
      → from_left by (map mark (drop i xs)) k x ≡ r → Err f ≡ r
  is_refused y f r e h g =
      ap (λ (o : Computed). and_then o (from_left by (map mark (drop (i + 1) xs)) k)) h
      ∙ ap (λ (o : Computed). and_then o (λ y. and_then (by sign x y) (from_left by (map mark (drop (i + 1) xs)) k))) e
      ∙ sym turn ∙ g
