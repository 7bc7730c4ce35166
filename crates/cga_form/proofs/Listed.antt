-- What is chosen of a list of tokens is written as its token.
use Rattle.std.proofs.Common.{◌≡◌, ℕ, ◌&&◌, Bool, true, false, List, [], ◌∷◌, Option, Some, None, refl, ap, sym, ◌∙◌, subst, if◌then◌else◌}
use Rattle.std.proofs.lemmas.Bool.{and_parts, eqb-true}
use Rattle.cga_fraction.specs.Rat.{Rat}
use Rattle.cga_syntax.specs.declared.lexeme.Lexeme.{Lexeme}
use Rattle.cga_syntax.specs.declared.lexeme.Lexeme.TheVariants as lexeme
use Rattle.cga_syntax.specs.declared.print.space.Space.TheVariants.{Usual}
use Rattle.cga_syntax.specs.Pieces.{plain}
use Rattle.cga_syntax.specs.Brackets.{Bracket, counted, bracket_of, opens, closes, other}
use Rattle.cga_form.specs.Tokens.{whole_of, same_whole, same, beside, chosen}
use Rattle.cga_form.proofs.Forms.{Token}
use Rattle.cga_form.proofs.Singles.{keyword_is, sign_is, whole_value, word_is}
use Rattle.cga_fraction.proofs.Door.{eq_from_pointwise}

same_number : (v w : Rat) (o p : Option ℕ) → whole_of v ≡ o → whole_of w ≡ p → same_whole o p ≡ true
    → lexeme.Number w ≡ lexeme.Number v
same_number v w None p h g e = absurd (let q : false ≡ true = e in cc)
same_number v w (Some n) None h g e = absurd (let q : false ≡ true = e in cc)
same_number v w (Some n) (Some m) h g e = ap lexeme.Number (whole_value w.num w.above n (g ∙ ap Some (eqb-true m n e)) ∙ sym (whole_value v.num v.above n h))

pub same_is : (k l : Lexeme) → same k l ≡ true → l ≡ k
same_is (lexeme.Sign x) l e = sign_is x l e
same_is (lexeme.Keyword x) l e = keyword_is x l e
same_is (lexeme.Name bytes) l e = word_is bytes l e
same_is (lexeme.Text bytes) (lexeme.Text name) e = ap lexeme.Text (eq_from_pointwise name bytes e)
same_is (lexeme.Number v) (lexeme.Number w) e = same_number v w (whole_of v) (whole_of w) refl refl e
same_is _ _ e = absurd (let q : false ≡ true = e in cc)

-- something holds of each token of a list with its value
abbrev pub Each : {A : Type 0} → (Lexeme → A → Type 0) → List (Lexeme × A) → Type 0
Each P [] = Unit {0}
Each P (w ∷ more) = P w.0 w.1 × Each P more

picked : {A : Type 0} (P : Lexeme → A → Type 0) (w : Lexeme × A) (rest : Option A) (l : Lexeme) (a : A) (t : Bool)
    → same w.0 l ≡ t → P w.0 w.1 → (rest ≡ Some a → P l a) → (if t then Some w.1 else rest) ≡ Some a → P l a
picked P w rest l a true s h f e = let r : w.1 ≡ a = cc in subst (λ z. P l z) r (subst (λ z. P z w.1) (sym (same_is w.0 l s)) h)
picked P w rest l a false s h f e = f e

-- what holds of each token of a list with its value holds of what is chosen
pub chosen_has : {A : Type 0} (P : Lexeme → A → Type 0) (list : List (Lexeme × A)) → Each P list
    → (l : Lexeme) (a : A) → chosen list l ≡ Some a → P l a
chosen_has P [] h l a e = absurd (cc)
chosen_has P (w ∷ more) h l a e = picked P w (chosen more l) l a (same w.0 l) refl h.0 (chosen_has P more h.1 l a) e

-- it neither opens nor closes
abbrev pub is_other : Bracket → Bool
is_other opens = false
is_other closes = false
is_other other = true

other_counts : (b : Bracket) (n : ℕ) → is_other b ≡ true → counted b n ≡ Some n
other_counts opens n e = absurd (let q : false ≡ true = e in cc)
other_counts closes n e = absurd (let q : false ≡ true = e in cc)
other_counts other n e = refl

-- the token of each value is the same as itself, and no bracket
abbrev pub are_plain : {A : Type 0} → (A → Lexeme) → List A → Bool
are_plain code [] = true
are_plain code (a ∷ more) = (same (code a) (code a) && is_other (bracket_of (code a))) && are_plain code more

module _ {A : Type 0} (code : A → Lexeme) where
  abbrev Fine : Lexeme → A → Type 0
  Fine l a = (l ≡ code a) × (is_other (bracket_of l) ≡ true)

  first_plain : (a : A) (more : List A) → are_plain code (a ∷ more) ≡ true
      → (same (code a) (code a) ≡ true) × (is_other (bracket_of (code a)) ≡ true)
  first_plain a more h =
      and_parts (same (code a) (code a)) (is_other (bracket_of (code a))) (and_parts (same (code a) (code a) && is_other (bracket_of (code a))) (are_plain code more) h).0

  all_fine : (all : List A) → are_plain code all ≡ true → Each Fine (beside code all)
  all_fine [] h = tt
  all_fine (a ∷ more) h = ((refl, (first_plain a more h).1), all_fine more (and_parts (same (code a) (code a) && is_other (bracket_of (code a))) (are_plain code more) h).1)

  chosen_fine : (all : List A) → are_plain code all ≡ true → (l : Lexeme) (a : A)
      → chosen (beside code all) l ≡ Some a → Fine l a
  chosen_fine all h = chosen_has Fine (beside code all) (all_fine all h)

-- what is chosen of some values beside their tokens is written as its token
pub chosen_token : {A : Type 0} {code : A → Lexeme} (a : A) (more : List A) (n : ℕ) → are_plain code (a ∷ more) ≡ true
    → Token n n (λ b. plain (code b) ∷ []) (chosen (beside code (a ∷ more)))
chosen_token {code = code} a more n h = record {
  means = λ l b e. (Usual, ap (λ z. plain z ∷ []) (sym (chosen_fine code (a ∷ more) h l b e).0));
  counts = λ l b e. other_counts (bracket_of l) n (chosen_fine code (a ∷ more) h l b e).1;
  some = (code a, a, ap (λ t. if t then Some a else chosen (beside code more) (code a)) (first_plain code a more h).0);
}
