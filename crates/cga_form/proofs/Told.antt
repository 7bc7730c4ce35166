-- A text that spells a member of a form, with few enough brackets, is told by it.
use Rattle.std.proofs.Common.{◌≡◌, ℕ, List, [], ◌∷◌, ◌++◌, append_assoc, Some, None, Ok, Err, refl, ap, sym, ◌∙◌, subst}
use Rattle.cga_syntax.specs.declared.lexeme.Lexeme.{Lexeme}
use Rattle.cga_syntax.specs.Brackets.{walk, walk_on, counted, IsOpening}
use Rattle.cga_syntax.specs.Pieces.{Pieces}
use Rattle.cga_syntax.specs.Spelling.{Spelled, Stops}
use Rattle.cga_syntax.proofs.Door.{walk_join}
use Rattle.cga_form.specs.declared.fault.Fault.{Fault}
use Rattle.cga_form.specs.declared.fault.Fault.TheVariants.{Unexpected, TooNested}
use Rattle.cga_form.specs.Tells.{Tells}
use Rattle.cga_form.specs.Reader.{Input, ReadResult, Reader, at}
use Rattle.cga_form.specs.Laws.{IsForm}
use Rattle.cga_form.specs.Parts.{complete}
use Rattle.cga_form.proofs.Lines.{form_unique, form_found, form_refused}
use Rattle.cga_form.proofs.Written.{nil_right}

-- after 32 open brackets no further one is opened
pub one_too_many : (j : Lexeme) (r : List Lexeme) → IsOpening j → walk 0 (j ∷ r) ≡ None
unfolding walk
one_too_many j r h = ap (λ b. walk_on (λ m. walk m r) (counted b 0)) h

not_deep : (x front r : List Lexeme) (j : Lexeme) (m : ℕ) → x ≡ front ++ j ∷ r → walk 32 front ≡ Some 0 → IsOpening j
    → walk 32 x ≡ Some m → ⊥
not_deep x front r j m e w o h =
    let q : walk 32 x ≡ None = ap (walk 32) e ∙ walk_join front (j ∷ r) 32 ∙ ap (walk_on (λ n. walk n (j ∷ r))) w ∙ one_too_many j r o in
    let z : None ≡ Some m = sym q ∙ h in
    cc

module _ {A : Type 0} (w : A → Pieces) where
  goes_on : (x front rest : List Lexeme) (a : A) → x ≡ front ++ rest → Stops w front rest → Spelled w x a → ⊥
  goes_on x front [] a e stops s = stops a (subst (λ z. Spelled w z a) (e ∙ nil_right front) s)
  goes_on x front (j ∷ t) a e stops s = stops (t, a, subst (λ z. Spelled w z a) (e ∙ sym (append_assoc front (j ∷ []) t)) s)

  not_refused : (x : List Lexeme) (a : A) (m : ℕ) → Spelled w x a → walk 32 x ≡ Some m → (f : Fault)
      → Tells w 32 x (Err f) → ⊥
  not_refused x a m s h (Unexpected left) r = goes_on x r.0 r.1 a r.3 r.6 s
  not_refused x a m s h (TooNested left) r = not_deep x r.0 r.2 r.1 m r.3 r.6 r.7 h

  -- where the form has a reader
  module _ (line : Reader A) (unique : (text : List Lexeme) (a b : A) → Spelled w text a → Spelled w text b → a ≡ b)
      (found : (text : List Lexeme) (a : A) (o : Input) → line (at text 0) ≡ Ok (a, o) → Tells w 32 text (Ok a))
      (refused : (text : List Lexeme) (f : Fault) → line (at text 0) ≡ Err f → Tells w 32 text (Err f)) where
    told_as : (x : List Lexeme) (a : A) (m : ℕ) → Spelled w x a → walk 32 x ≡ Some m → (o : ReadResult A)
        → line (at x 0) ≡ o → Tells w 32 x (Ok a)
    told_as x a m s h (Ok q) e = let r = found x q.0 q.1 e in subst (λ z. Tells w 32 x (Ok z)) (unique x q.0 a r.0 s) r
    told_as x a m s h (Err f) e = absurd (not_refused x a m s h f (refused x f e))

    pub told : (x : List Lexeme) (a : A) (m : ℕ) → Spelled w x a → walk 32 x ≡ Some m → Tells w 32 x (Ok a)
    told x a m s h = told_as x a m s h (line (at x 0)) refl

-- where tokens spell a member of a form, with never more than 32 brackets open, they tell it
pub form_told : {A : Type 0} (w : A → Pieces) (p : ℕ → Reader A) → IsForm w p → (x : List Lexeme) (a : A) (m : ℕ)
    → Spelled w x a → walk 32 x ≡ Some m → Tells w 32 x (Ok a)
form_told w p form = told w (complete (p 32)) (form_unique w p form) (form_found w p form 32) (form_refused w p form 32)
