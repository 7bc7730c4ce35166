-- Three in brackets, each with the sign after it.
use Rattle.std.proofs.Common.{◌≡◌, ℕ, Ok, Err, refl}
use Rattle.cga_lexer.specs.declared.sign.Sign.TheVariants as s
use Rattle.cga_rule.specs.declared.expr.Expr.{Expr}
use Rattle.cga_rule.specs.declared.item.Item.{Item}
use Rattle.cga_rule.specs.declared.item.Item.TheVariants as i
use Rattle.cga_form.specs.declared.heads.ItemHead.TheVariants as head
use Rattle.cga_form.specs.Reader.{Input, Reader, ReadResult, ◌>>=◌, ◌>>◌, and_then, pure, enter}
use Rattle.cga_form.specs.Tokens.{a_sign}
use Rattle.cga_parser.specs.Grammar.{sign, last_of, last_two, in_threes, size, move_parts, resize_parts, item_rest}
use Rattle.cga_parser.specs.Portions.{until}

module _ {A B : Type 0} (p : Reader A) (k : A → A → A → B) where
  abbrev pub one_by_one : Reader B
  one_by_one = until p s.Comma >>= λ x. until p s.Comma >>= λ y. until p s.RightRound >>= λ z. pure (k x y z)

  abbrev two : A → ReadResult A → ReadResult (A × A)
  two y o = and_then o (λ z. pure (y, z))

  abbrev three : A → ReadResult (A × A) → ReadResult (A × A × A)
  three x o = and_then o (λ r. pure (x, r.0, r.1))

  abbrev made : ReadResult (A × A × A) → ReadResult B
  made o = and_then o (λ t. pure (k t.0 t.1 t.2))

  last : (x y : A) (o : ReadResult A) → made (three x (two y o)) ≡ and_then o (λ z. pure (k x y z))
  last x y (Ok q) = refl
  last x y (Err e) = refl

  second_sign : (x y : A) (u : ReadResult (Unit {0}))
      → made (three x (two y (and_then u (λ _. until p s.RightRound)))) ≡ and_then (and_then u (λ _. pure y))
      (λ y. until p s.RightRound >>= λ z. pure (k x y z))
  second_sign x y (Ok q) = last x y (until p s.RightRound q.1)
  second_sign x y (Err e) = refl

  second : (x : A) (o : ReadResult A)
      → made (three x (and_then o (λ y i. two y (last_of p i)))) ≡ and_then (and_then o (λ y. sign s.Comma >> pure y))
      (λ y. until p s.RightRound >>= λ z. pure (k x y z))
  unfolding last_of
  second x (Ok q) = second_sign x q.0 (sign s.Comma q.1)
  second x (Err e) = refl

  first_sign : (x : A) (u : ReadResult (Unit {0})) →
      made (three x (and_then u (λ _ i. and_then (p i) (λ y j. two y (last_of p j))))) ≡ and_then
      (and_then u (λ _. pure x)) (λ x. until p s.Comma >>= λ y. until p s.RightRound >>= λ z. pure (k x y z))
  first_sign x (Ok q) = second x (p q.1)
  first_sign x (Err e) = refl

  first : (o : ReadResult A)
      → made (and_then o (λ x i. three x (last_two p i))) ≡ and_then (and_then o (λ x. sign s.Comma >> pure x))
      (λ x. until p s.Comma >>= λ y. until p s.RightRound >>= λ z. pure (k x y z))
  unfolding last_two
  first (Ok q) = first_sign q.0 (sign s.Comma q.1)
  first (Err e) = refl

  entered : (u : ReadResult (Unit {0})) → made (and_then u (λ _. in_threes p)) ≡ and_then u (λ _. one_by_one)
  entered (Ok q) = first (p q.1)
  entered (Err e) = refl

module _ (n : ℕ) (inside : Reader Expr) (inner : Reader Item) (j : Input) where
  pub move_is : item_rest n inside inner head.Move j ≡ and_then (enter (a_sign s.LeftRound) n j)
      (λ _. one_by_one inside i.Move)
  unfolding move_parts
  move_is = entered inside i.Move (enter (a_sign s.LeftRound) n j)

  pub resize_is : item_rest n inside inner head.Resize j ≡ and_then (enter (a_sign s.LeftRound) n j)
      (λ _. one_by_one (size n inside) i.Resize)
  unfolding resize_parts
  resize_is = entered (size n inside) i.Resize (enter (a_sign s.LeftRound) n j)
