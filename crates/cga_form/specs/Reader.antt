-- The steps that each reader is made of.
use Rattle.std.specs.Prelude.{ℕ, zero, suc, ◌+◌, Bool, false, List, [], ◌∷◌, ◌++◌, length, Option, Some, None, Result, Ok, Err, if◌then◌else◌}
use Rattle.cga_syntax.specs.declared.lexeme.Lexeme.{Lexeme}
use Rattle.cga_form.specs.declared.fault.Fault.{Fault}
use Rattle.cga_form.specs.declared.fault.Fault.TheVariants.{Unexpected, TooNested}

-- the tokens that are left, and how many rands were read
pub record Input : Type 0 where
  pub left : List Lexeme
  pub count : ℕ

-- these tokens are left, after so many rands
abbrev pub at : List Lexeme → ℕ → Input
at left count = record { left = left; count = count }

-- what was read and what is left, or a fault
abbrev pub ReadResult : Type 0 → Type 0
ReadResult A = Result (A × Input) Fault

-- from what is left to what was read
abbrev pub Reader : Type 0 → Type 0
Reader A = Input → ReadResult A

-- after what was read, the next reader
abbrev pub and_then : {A B : Type 0} → ReadResult A → (A → Reader B) → ReadResult B
and_then (Ok p) f = f p.0 p.1
and_then (Err e) f = Err e

-- one reader and then another, which knows what the first read
infixl 10 ◌>>=◌
abbrev pub ◌>>=◌ : {A B : Type 0} → Reader A → (A → Reader B) → Reader B
p >>= f = λ i. and_then (p i) f

-- one reader and then another
infixl 10 ◌>>◌
abbrev pub ◌>>◌ : {A B : Type 0} → Reader A → Reader B → Reader B
p >> q = p >>= (λ _. q)

-- reads nothing
abbrev pub pure : {A : Type 0} → A → Reader A
pure a = λ i. Ok (a, i)

-- the next token is unexpected
abbrev pub refuse : {A : Type 0} → Reader A
refuse = λ i. Err (Unexpected (length i.left))

-- the next token opens one bracket too many
abbrev pub too_nested : {A : Type 0} → Reader A
too_nested = λ i. Err (TooNested (length i.left))

-- the next token
abbrev pub first : List Lexeme → Option Lexeme
first [] = None
first (k ∷ ks) = Some k

-- without the next token
abbrev pub after_first : List Lexeme → List Lexeme
after_first [] = []
after_first (k ∷ ks) = ks

-- after the next token
abbrev pub skipped : Input → Input
skipped i = at (after_first i.left) i.count

-- what a token stands for, where one comes next
abbrev pub decoded : {A : Type 0} → (Lexeme → Option A) → Option Lexeme → Option A
decoded decode None = None
decoded decode (Some l) = decode l

-- takes the next token, where it stands for something
abbrev pub taking : {A : Type 0} → Option A → Reader A
taking None = refuse
taking (Some a) = λ i. Ok (a, skipped i)

-- one token, by what it stands for
abbrev pub single : {A : Type 0} → (Lexeme → Option A) → Reader A
single decode = λ i. taking (decoded decode (first i.left)) i

-- the next token passes the test
abbrev pub begins : (Lexeme → Bool) → List Lexeme → Bool
begins test [] = false
begins test (k ∷ ks) = test k

-- one of two readers, by the next token
abbrev pub peeked : {A : Type 0} → (Lexeme → Bool) → Reader A → Reader A → Reader A
peeked test p q = λ i. if begins test i.left then p i else q i

-- takes an opening bracket, where one more may be opened
abbrev pub entering : ℕ → Option (Unit {0}) → Reader (Unit {0})
entering n None = refuse
entering zero (Some u) = too_nested
entering (suc n) (Some u) = λ i. Ok (tt, skipped i)

-- an opening bracket, where so many may be opened
abbrev pub enter : (Lexeme → Option (Unit {0})) → ℕ → Reader (Unit {0})
enter decode n = λ i. entering n (decoded decode (first i.left)) i

-- takes the word of a rand, which gets the next number
abbrev pub drawing : Option (Unit {0}) → Reader ℕ
drawing None = refuse
drawing (Some u) = λ i. Ok (i.count + 1, at (after_first i.left) (i.count + 1))

-- the word of a rand, with the number that it gets
abbrev pub drawn_word : (Lexeme → Option (Unit {0})) → Reader ℕ
drawn_word decode = λ i. drawing (decoded decode (first i.left)) i

-- each of a list, where a token that passes the test comes next, at most so many
unfoldable pub many_from : {A : Type 0} → (Lexeme → Bool) → Reader A → ℕ → List A → Reader (List A)
many_from test p zero so_far = pure so_far
many_from test p (suc n) so_far = λ i. if begins test i.left then (p >>= λ x. many_from test p n (so_far ++ x ∷ [])) i else Ok (so_far, i)

-- each of a list: each takes a token, so as many as there are tokens are enough
abbrev pub many_after : {A : Type 0} → (Lexeme → Bool) → Reader A → List A → Reader (List A)
many_after test p so_far = λ i. many_from test p (length i.left) so_far i

-- each of a list, from the first on
unfoldable pub many : {A : Type 0} → (Lexeme → Bool) → Reader A → Reader (List A)
many test p = many_after test p []
