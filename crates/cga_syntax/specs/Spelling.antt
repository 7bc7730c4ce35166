-- What is answered to a line.
use Rattle.std.specs.Prelude.{ℕ, List, [], ◌∷◌, ◌++◌}
use Rattle.cga_syntax.specs.declared.lexeme.Lexeme.{Lexeme}
use Rattle.cga_syntax.specs.Pieces.{Pieces, Writes}

-- the text is written as the pieces of the value
abbrev pub Spelled : {A : Type 0} → (A → Pieces) → List Lexeme → A → Type 0
Spelled w text a = (d : ℕ) × Writes 0 (w a) text d

-- some text that begins so is spelled
abbrev pub Begins : {A : Type 0} → (A → Pieces) → List Lexeme → Type 0
Begins {A} w text = (more : List Lexeme) × (a : A) × Spelled w (text ++ more) a

-- with what stands next, a token or the end of the line, nothing is spelled
abbrev pub Stops : {A : Type 0} → (A → Pieces) → List Lexeme → List Lexeme → Type 0
Stops {A} w x [] = (a : A) → Spelled w x a → ⊥
Stops w x (j ∷ r) = Begins w (x ++ j ∷ []) → ⊥
