-- Which token comes next.
use Rattle.std.proofs.Common.{◌≡◌, ◌↔◌, Bool, true, false, List, [], ◌∷◌, Some, None, refl, ap, sym, ◌∙◌, IsTrue}
use Rattle.std.proofs.lemmas.Bool.{eq-eqb}
use Rattle.cga_lexer.specs.declared.sign.Sign.{Sign}
use Rattle.cga_syntax.specs.declared.keyword.Keyword.{Keyword}
use Rattle.cga_syntax.specs.declared.lexeme.Lexeme.{Lexeme}
use Rattle.cga_syntax.specs.declared.lexeme.Lexeme.TheVariants as lexeme
use Rattle.cga_form.specs.Reader.{first, begins}
use Rattle.cga_form.specs.Tokens.{sign_number, keyword_number, is_sign, is_keyword}
use Rattle.cga_form.proofs.Singles.{sign_is, keyword_is}

module _ (test : Lexeme → Bool) (l : Lexeme) (yes' : test l ≡ true) (only : (j : Lexeme) → test j ≡ true → j ≡ l) where
  tested : (j : Lexeme) (b t : Bool) → test j ≡ t → (Some j ≡ Some l → b ≡ true) → b ≡ false → t ≡ false
  tested j b true e h f = let q : true ≡ false = sym (h (ap Some (only j e))) ∙ f in absurd (cc)
  tested j b false e h f = refl

  pub next_is : (b : Bool) (ls : List Lexeme) → IsTrue b ↔ (first ls ≡ Some l) → b ≡ begins test ls
  next_is true [] h = absurd (let q : None ≡ Some l = h.0 refl in cc)
  next_is true (j ∷ ls) h = let q : Some j ≡ Some l = h.0 refl in let p : j ≡ l = cc in sym (ap test p ∙ yes')
  next_is false [] h = refl
  next_is false (j ∷ ls) h = sym (tested j false (test j) refl h.1 refl)

pub sign_next : (x : Sign) (b : Bool) (ls : List Lexeme) → IsTrue b ↔ (first ls ≡ Some (lexeme.Sign x))
    → b ≡ begins (is_sign x) ls
sign_next x = next_is (is_sign x) (lexeme.Sign x) (eq-eqb (sign_number x) (sign_number x) refl) (λ j e. sign_is x j e)

pub keyword_next : (x : Keyword) (b : Bool) (ls : List Lexeme) → IsTrue b ↔ (first ls ≡ Some (lexeme.Keyword x))
    → b ≡ begins (is_keyword x) ls
keyword_next x = next_is (is_keyword x) (lexeme.Keyword x) (eq-eqb (keyword_number x) (keyword_number x) refl) (λ j e. keyword_is x j e)
