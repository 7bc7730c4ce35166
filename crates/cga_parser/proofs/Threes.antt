-- Three of a kind in a bracket, one step after the other.
use Rattle.std.proofs.Common.{◌≡◌, Ok, Err, refl, sym, ◌∙◌}
use Rattle.cga_lexer.specs.declared.sign.Sign.TheVariants as s
use Rattle.cga_form.specs.Reader.{Input, Reader, ReadResult, and_then, ◌>>=◌, ◌>>◌, pure}
use Rattle.cga_form.specs.Parts.{sign}
use Rattle.cga_parser.specs.Grammar.{last_of, last_two, in_threes}

chained : {A B C : Type 0} (o : ReadResult A) (f : A → Reader B) (g : B → Reader C)
    → and_then (and_then o f) g ≡ and_then o (λ a j. and_then (f a j) g)
chained (Ok p) f g = refl
chained (Err e) f g = refl

abbrev pub one_by_one : {A : Type 0} → Reader A → Reader (A × A × A)
one_by_one p = p >>= λ x. sign s.Comma >> (p >>= λ y. sign s.Comma >> (p >>= λ z. sign s.RightRound >> pure (x, y, z)))

module _ {A : Type 0} (p : Reader A) (x : A) where
  third : (y : A) (m : Input)
      → and_then {B = A × A × A} (last_of p m) (λ z. pure (x, y, z)) ≡
      (sign s.Comma >> (p >>= λ z. sign s.RightRound >> pure (x, y, z))) m
  unfolding last_of
  third y m =
      chained {C = A × A × A} (sign s.Comma m) (λ _. p >>= λ z. sign s.RightRound >> pure z) (λ z. pure (x, y, z))
      ∙ (λ i. and_then (sign s.Comma m) (λ _ k. (chained {C = A × A × A} (p k) (λ z. sign s.RightRound >> pure z) (λ z. pure (x, y, z))
      ∙ (λ j. and_then (p k) (λ z l. chained {C = A × A × A} (sign s.RightRound l) (λ _. pure z) (λ z. pure (x, y, z)) j))) i))

  second : (j : Input)
      → and_then {B = A × A × A} (last_two p j) (λ rest. pure (x, rest.0, rest.1)) ≡
      (sign s.Comma >> (p >>= λ y. sign s.Comma >> (p >>= λ z. sign s.RightRound >> pure (x, y, z)))) j
  unfolding last_two
  second j =
      chained {B = A × A} {C = A × A × A} (sign s.Comma j) (λ _. p >>= λ y. last_of p >>= λ z. pure (y, z)) (λ rest. pure (x, rest.0, rest.1))
      ∙ (λ i. and_then (sign s.Comma j) (λ _ k. (chained {B = A × A} {C = A × A × A} (p k) (λ y. last_of p >>= λ z. pure (y, z)) (λ rest. pure (x, rest.0, rest.1))
      ∙ (λ j. and_then (p k) (λ y m. (chained {B = A × A} {C = A × A × A} (last_of p m) (λ z. pure (y, z)) (λ rest. pure (x, rest.0, rest.1)) ∙ third y m) j))) i))

pub threes_are : {A : Type 0} (p : Reader A) → one_by_one p ≡ in_threes p
threes_are p = λ k i. and_then (p i) (λ x j. sym (second p x j) k)
