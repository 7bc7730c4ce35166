-- What the tokens of a line tell.
use Rattle.std.specs.Prelude.{◌≡◌, ℕ, suc, List, [], ◌∷◌, ◌++◌, length, Some, Result, Ok, Err}
use Rattle.cga_syntax.specs.declared.lexeme.Lexeme.{Lexeme}
use Rattle.cga_syntax.specs.Pieces.{Pieces}
use Rattle.cga_syntax.specs.Spelling.{Spelled, Begins, Stops}
use Rattle.cga_syntax.specs.Brackets.{walk, IsOpening}
use Rattle.cga_form.specs.declared.fault.Fault.{Fault}
use Rattle.cga_form.specs.declared.fault.Fault.TheVariants.{Unexpected, TooNested}

-- Where so many brackets may be open: the value that the tokens spell; or so many tokens are left at the first
-- token with which they begin no form; or at the first bracket with which one too many is open, where they still
-- begin a form with it.
abbrev pub Tells : {A : Type 0} → (A → Pieces) → ℕ → List Lexeme → Result A Fault → Type 0
Tells w n text (Ok a) = Spelled w text a × (walk n text ≡ Some n)
Tells w n text (Err (Unexpected left)) = (x : List Lexeme) × (r : List Lexeme) × (m : ℕ) × (text ≡ x ++ r) × (length r ≡ left) × Begins w x × Stops w x r × (walk n x ≡ Some m)
Tells w n text (Err (TooNested left)) = (x : List Lexeme) × (j : Lexeme) × (r : List Lexeme) × (text ≡ x ++ j ∷ r)
    × (suc (length r) ≡ left) × Begins w (x ++ j ∷ []) × (walk n x ≡ Some 0) × IsOpening j
