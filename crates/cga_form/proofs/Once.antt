-- The tokens of a line tell one thing.
use Rattle.std.proofs.Common.{◌≡◌, ℕ, suc, List, [], ◌∷◌, ◌++◌, length, append_assoc, Option, Some, None, inl, inr, ◌⊎◌, Result, Ok, Err, refl, ap, sym, ◌∙◌, subst}
use Rattle.cga_syntax.specs.declared.lexeme.Lexeme.{Lexeme}
use Rattle.cga_syntax.specs.Pieces.{Pieces}
use Rattle.cga_syntax.specs.Spelling.{Spelled, Begins, Stops}
use Rattle.cga_syntax.specs.Brackets.{walk, IsOpening}
use Rattle.cga_form.specs.declared.fault.Fault.{Fault}
use Rattle.cga_form.specs.declared.fault.Fault.TheVariants.{Unexpected, TooNested}
use Rattle.cga_form.specs.Tells.{Tells}
use Rattle.cga_form.proofs.Taking.{walk_append}
use Rattle.cga_form.proofs.Written.{nil_right}
use Rattle.cga_form.proofs.Told.{one_too_many}

head_same : {X : Type 0} (a b : X) (x y : List X) → a ∷ x ≡ b ∷ y → a ≡ b
head_same a b x y e = cc

tail_same : {X : Type 0} (a b : X) (x y : List X) → a ∷ x ≡ b ∷ y → x ≡ y
tail_same a b x y e = cc

-- of two beginnings of a list, one begins the other
abbrev pub Split : {X : Type 0} → List X → List X → List X → List X → Type 0
Split {X} x y r s = (z : List X) × (y ≡ x ++ z) × (r ≡ z ++ s)

grown : {X : Type 0} (a b : X) (x y r s : List X) → a ≡ b → Split x y r s ⊎ Split y x s r
    → Split (a ∷ x) (b ∷ y) r s ⊎ Split (b ∷ y) (a ∷ x) s r
grown a b x y r s e (inl h) = inl (h.0, ap (λ z. z ∷ y) (sym e) ∙ ap (λ z. a ∷ z) h.1, h.2)
grown a b x y r s e (inr h) = inr (h.0, ap (λ z. z ∷ x) e ∙ ap (λ z. b ∷ z) h.1, h.2)

pub compared : {X : Type 0} (x y r s : List X) → x ++ r ≡ y ++ s → Split x y r s ⊎ Split y x s r
compared [] y r s e = inl (y, refl, e)
compared (a ∷ x) [] r s e = inr (a ∷ x, refl, sym e)
compared (a ∷ x) (b ∷ y) r s e = grown a b x y r s (head_same a b (x ++ r) (y ++ s) e) (compared x y r s (tail_same a b (x ++ r) (y ++ s) e))

-- after a bracket too many
blocked : (n : ℕ) (x : List Lexeme) (j : Lexeme) (r : List Lexeme) → walk n x ≡ Some 0 → IsOpening j
    → walk n (x ++ j ∷ r) ≡ None
blocked n x j r e o = walk_append n x (j ∷ r) 0 e ∙ one_too_many j r o

open_none : (o : Option ℕ) (m : ℕ) → o ≡ None → o ≡ Some m → ⊥
open_none o m e f = let q : None ≡ Some m = sym e ∙ f in cc

module _ {A : Type 0} (w : A → Pieces) (n : ℕ) (unique : (text : List Lexeme) (a b : A) → Spelled w text a → Spelled w text b → a ≡ b) where
  shorter : (x z : List Lexeme) (k : Lexeme) → Begins w (x ++ k ∷ z) → Begins w (x ++ k ∷ [])
  shorter x z k h =
      let e : (x ++ k ∷ z) ++ h.0 ≡ (x ++ k ∷ []) ++ (z ++ h.0) = simp append_assoc in
      (z ++ h.0, h.1, subst (λ t. Spelled w t h.1) e h.2)

  -- a member that is spelled, and a token with which none is
  not_stopped : (text : List Lexeme) (a : A) (x r : List Lexeme) → Spelled w text a → text ≡ x ++ r → Stops w x r → ⊥
  not_stopped text a x [] h e s = s a (subst (λ t. Spelled w t a) (e ∙ nil_right x) h)
  not_stopped text a x (k ∷ r) h e s = s (r, a, subst (λ t. Spelled w t a) (e ∙ sym (append_assoc x (k ∷ []) r)) h)

  -- two tokens with which none is spelled
  same_stop : (x y r s z : List Lexeme) → Begins w y → Stops w x r → y ≡ x ++ z → r ≡ z ++ s → length r ≡ length s
  same_stop x y r s [] b h e f = ap length f
  same_stop x y r s (k ∷ z) b h e f = absurd (subst (λ t. Stops w x t) f h (shorter x z k (subst (λ t. Begins w t) e b)))

  -- two brackets too many
  same_bracket : (x y : List Lexeme) (j i : Lexeme) (r s z : List Lexeme) → walk n x ≡ Some 0 → IsOpening j
      → walk n y ≡ Some 0 → y ≡ x ++ z → j ∷ r ≡ z ++ (i ∷ s) → length r ≡ length s
  same_bracket x y j i r s [] e o f g h = ap length (tail_same j i r s h)
  same_bracket x y j i r s (k ∷ z) e o f g h =
      absurd (open_none (walk n y) 0 (ap (λ t. walk n t) (g ∙ ap (λ t. x ++ t ∷ z) (sym (head_same j k r (z ++ (i ∷ s)) h))) ∙ blocked n x j z e o) f)

  -- a bracket too many before or at a token with which nothing is spelled
  nested_first : (x y : List Lexeme) (j : Lexeme) (r s z : List Lexeme) (m : ℕ) → Begins w (x ++ j ∷ [])
      → walk n x ≡ Some 0 → IsOpening j → Stops w y s → walk n y ≡ Some m → y ≡ x ++ z → j ∷ r ≡ z ++ s → ⊥
  nested_first x y j r s [] m b e o h f g q = subst (λ t. Stops w x t) (sym q) (subst (λ t. Stops w t s) (g ∙ nil_right x) h) b
  nested_first x y j r s (k ∷ z) m b e o h f g q =
      open_none (walk n y) m (ap (λ t. walk n t) (g ∙ ap (λ t. x ++ t ∷ z) (sym (head_same j k r (z ++ s) q))) ∙ blocked n x j z e o) f

  -- and after it
  stop_first : (x y : List Lexeme) (j : Lexeme) (r s z : List Lexeme) → Begins w (x ++ j ∷ []) → Stops w y s
      → x ≡ y ++ z → s ≡ z ++ (j ∷ r) → ⊥
  stop_first x y j r s [] b h g q = subst (λ t. Stops w y t) q h (subst (λ t. Begins w (t ++ j ∷ [])) (g ∙ nil_right y) b)
  stop_first x y j r s (k ∷ z) b h g q =
      let e : (y ++ k ∷ z) ++ j ∷ [] ≡ y ++ k ∷ (z ++ j ∷ []) = append_assoc y (k ∷ z) (j ∷ []) in
      subst (λ t. Stops w y t) q h (shorter y (z ++ j ∷ []) k (subst (λ t. Begins w t) (ap (λ t. t ++ j ∷ []) g ∙ e) b))

  found_nested : (text : List Lexeme) (l : ℕ) → walk n text ≡ Some n → Tells w n text (Err (TooNested l)) → ⊥
  found_nested text l e h = open_none (walk n text) n (ap (λ t. walk n t) h.3 ∙ blocked n h.0 h.1 h.2 h.6 h.7) e

  never_both : (text : List Lexeme) (k l : ℕ) → Tells w n text (Err (Unexpected k)) → Tells w n text (Err (TooNested l))
      → ⊥
  never_both text k l g h =
      elim (compared h.0 g.0 (h.1 ∷ h.2) g.1 (sym h.3 ∙ g.3)) [
        | inl s ↦ nested_first h.0 g.0 h.1 h.2 g.1 s.0 g.2 h.5 h.6 h.7 g.6 g.7 s.1 s.2
        | inr s ↦ stop_first h.0 g.0 h.1 h.2 g.1 s.0 h.5 g.6 s.1 s.2
      ]

  both_unexpected : (text : List Lexeme) (k l : ℕ) → Tells w n text (Err (Unexpected k))
      → Tells w n text (Err (Unexpected l)) → k ≡ l
  both_unexpected text k l g h =
      let same : length g.1 ≡ length h.1 = elim (compared g.0 h.0 g.1 h.1 (sym g.3 ∙ h.3)) [
        | inl s ↦ same_stop g.0 h.0 g.1 h.1 s.0 h.5 g.6 s.1 s.2
        | inr s ↦ sym (same_stop h.0 g.0 h.1 g.1 s.0 g.5 h.6 s.1 s.2)
      ] in
      sym g.4 ∙ same ∙ h.4

  both_nested : (text : List Lexeme) (k l : ℕ) → Tells w n text (Err (TooNested k)) → Tells w n text (Err (TooNested l))
      → k ≡ l
  both_nested text k l g h =
      let same : length g.2 ≡ length h.2 = elim (compared g.0 h.0 (g.1 ∷ g.2) (h.1 ∷ h.2) (sym g.3 ∙ h.3)) [
        | inl s ↦ same_bracket g.0 h.0 g.1 h.1 g.2 h.2 s.0 g.6 g.7 h.6 s.1 s.2
        | inr s ↦ sym (same_bracket h.0 g.0 h.1 g.1 h.2 g.2 s.0 h.6 h.7 g.6 s.1 s.2)
      ] in
      sym g.4 ∙ ap suc same ∙ h.4

  pub one_telling : (text : List Lexeme) (f g : Result A Fault) → Tells w n text f → Tells w n text g → f ≡ g
  one_telling text (Ok a) (Ok b) h k = ap Ok (unique text a b h.0 k.0)
  one_telling text (Ok a) (Err (Unexpected l)) h k = absurd (not_stopped text a k.0 k.1 h.0 k.3 k.6)
  one_telling text (Ok a) (Err (TooNested l)) h k = absurd (found_nested text l h.1 k)
  one_telling text (Err (Unexpected l)) (Ok a) h k = absurd (not_stopped text a h.0 h.1 k.0 h.3 h.6)
  one_telling text (Err (TooNested l)) (Ok a) h k = absurd (found_nested text l k.1 h)
  one_telling text (Err (Unexpected i)) (Err (Unexpected l)) h k = ap (λ z. Err (Unexpected z)) (both_unexpected text i l h k)
  one_telling text (Err (Unexpected i)) (Err (TooNested l)) h k = absurd (never_both text i l h k)
  one_telling text (Err (TooNested i)) (Err (Unexpected l)) h k = absurd (never_both text l i k h)
  one_telling text (Err (TooNested i)) (Err (TooNested l)) h k = ap (λ z. Err (TooNested z)) (both_nested text i l h k)
