-- The laws of a form: that its reader takes exactly what is written so, and reads it again.
use Rattle.std.specs.Prelude.{◌≡◌, ℕ, Bool, false, List, [], ◌∷◌, ◌++◌, length, Some, Ok, Err}
use Rattle.cga_syntax.specs.declared.lexeme.Lexeme.{Lexeme}
use Rattle.cga_syntax.specs.Pieces.{Pieces, Writes}
use Rattle.cga_syntax.specs.Brackets.{walk, IsOpening}
use Rattle.cga_form.specs.declared.fault.Fault.TheVariants.{Unexpected, TooNested}
use Rattle.cga_form.specs.Reader.{Input, at, ReadResult, Reader, first, begins}

-- what a reader may read: from a count on, a text as a value, up to a count
abbrev pub Language : Type 0 → Type 1
Language A = ℕ → List Lexeme → A → ℕ → Type 0

-- what a reader makes of a text: a value with the count up to which it reads, or one of two faults
pub data Verdict (A : Type 0) : Type 0 where
  found : A → ℕ → Verdict A
  unexpected : Verdict A
  nested : Verdict A

-- the outcome of a verdict, where this is left
abbrev pub told : {A : Type 0} → Verdict A → List Lexeme → ReadResult A
told (found a c) r = Ok (a, at r c)
told unexpected r = Err (Unexpected (length r))
told nested r = Err (TooNested (length r))

-- a verdict is right of what was taken and what is left
abbrev pub Means : {A : Type 0} → ℕ → ℕ → Language A → ℕ → List Lexeme → List Lexeme → Verdict A → Type 0
Means n m L c x r (found a d) = L c x a d × (walk n x ≡ Some m)
Means {A} n m L c x r unexpected = (more : List Lexeme) × (a : A) × (d : ℕ) × (left : ℕ) × L c (x ++ more) a d × (walk n x ≡ Some left)
Means {A} n m L c x r nested = (k : Lexeme) × (more : List Lexeme) × (a : A) × (d : ℕ) × L c (x ++ k ∷ more) a d × (walk n x ≡ Some 0) × (first r ≡ Some k) × IsOpening k

-- what a reader takes of a text, what it leaves, and its verdict, which is the same for all that begins as what is left
pub record Run {A : Type 0} (n m : ℕ) (L : Language A) (p : Reader A) (c : ℕ) (text : List Lexeme) : Type 0 where
  pub front : List Lexeme
  pub rest : List Lexeme
  pub verdict : Verdict A
  pub split : text ≡ front ++ rest
  pub same : (b : List Lexeme) → first b ≡ first rest → p (at (front ++ b) c) ≡ told verdict b
  pub means : Means n m L c front rest verdict

-- the reader takes what may be read, and nothing else
abbrev pub Exact : {A : Type 0} → ℕ → ℕ → Language A → Reader A → Type 0
Exact n m L p = (c : ℕ) (text : List Lexeme) → Run n m L p c text

-- some text is read
abbrev pub Some_text : {A : Type 0} → Language A → Type 0
Some_text {A} L = (c : ℕ) → (x : List Lexeme) × (a : A) × (d : ℕ) × L c x a d

-- what is still to be written of a value, after pieces that stand already
abbrev pub After : {A : Type 0} → Pieces → (A → Pieces) → Language A
After ps w c x a d = (qs : Pieces) × (w a ≡ ps ++ qs) × Writes c qs x d

-- The reader takes what is still to be written of a value after ps, and some value has it.
pub record Goes {A : Type 0} (n m : ℕ) (ps : Pieces) (w : A → Pieces) (p : Reader A) : Type 0 where
  pub runs : Exact n m (After ps w) p
  pub some : Some_text (After ps w)

-- a whole value
abbrev pub Reads : {A : Type 0} → ℕ → ℕ → (A → Pieces) → Reader A → Type 0
Reads n m w p = Goes n m [] w p

-- the outcome is this value and what is left, or that brackets nest too deep
abbrev pub Agrees : {A : Type 0} → ReadResult A → A → Input → Type 0
Agrees (Ok q) a i = (q.0 ≡ a) × (q.1 ≡ i)
Agrees (Err (Unexpected n)) a i = ⊥
Agrees (Err (TooNested n)) a i = Unit {0}

-- the pieces are read as the value, where what follows isn't one of the tokens that go on with it
pub record Leads {B : Type 0} (s : Lexeme → Bool) (ps : Pieces) (p : Reader B) (b : B) : Type 0 where
  pub leads : (c : ℕ) (x : List Lexeme) (d : ℕ) (r : List Lexeme) → Writes c ps x d → begins s r ≡ false
      → Agrees (p (at (x ++ r) c)) b (at r d)

-- each value is read as it is written
pub record Again {A : Type 0} (w : A → Pieces) (s : Lexeme → Bool) (p : Reader A) : Type 0 where
  pub all : (a : A) → Leads s (w a) p a

-- no token
abbrev pub nothing : Lexeme → Bool
nothing _ = false

-- What is written so is what the readers read, one for each number of brackets that may be opened: each takes exactly
-- that and stops at the first token with which it isn't that, and reads it again.
pub record IsForm {A : Type 0} (w : A → Pieces) (p : ℕ → Reader A) : Type 0 where
  pub follows : Lexeme → Bool
  pub exact : (n : ℕ) → Reads n n w (p n)
  pub again : (n : ℕ) → Again w follows (p n)
