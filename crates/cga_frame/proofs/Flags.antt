-- Tests that hold together.
use Rattle.std.proofs.Common.{◌≡◌, refl, Bool, true, false, ◌&&◌}
use Rattle.std.specs.Prelude.{IsTrue}
pub use Rattle.std.proofs.lemmas.Bool.{and_from as pair, and_parts as both, or_cases as either, or_left as first_of_two, or_right as second_of_two}

-- a test that comes out true holds
pub told : (b : Bool) → b ≡ true → IsTrue b
told b e = e

-- a test that holds comes out true
pub tells : (b : Bool) → IsTrue b → b ≡ true
tells b h = h

-- three tests
pub three : (a b c : Bool) → (a && (b && c)) ≡ true → (a ≡ true) × (b ≡ true) × (c ≡ true)
three a b c e = let p = both a (b && c) e in let q = both b c p.1 in (p.0, q.0, q.1)

-- three tests that are each true are true together
pub all_three : (a b c : Bool) → a ≡ true → b ≡ true → c ≡ true → (a && (b && c)) ≡ true
all_three a b c e f g = pair a (b && c) e (pair b c f g)

-- of three tests the last two may change places
pub last_first : (a b c : Bool) → (a && (c && b)) ≡ (a && (b && c))
last_first false b c = refl
last_first true true true = refl
last_first true true false = refl
last_first true false true = refl
last_first true false false = refl
