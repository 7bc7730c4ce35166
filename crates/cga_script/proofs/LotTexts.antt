-- The text of a lot is lexed as its tokens.
use Rattle.std.proofs.Common.{◌≡◌, ℕ, zero, suc, ◌+◌, false, List, [], ◌∷◌, ◌++◌, append_assoc, ℤ, pos, negsuc, ap, sym, ◌∙◌, refl, subst, inr, codes, decimal}
use Rattle.std.specs.Fmt.{signed_decimal}
use Rattle.cga_fraction.specs.Rat.{Rat}
use Rattle.cga_fraction.specs.Texts.{exact_text_of}
use Rattle.cga_lexer.specs.Bytes.{begins}
use Rattle.cga_lexer.specs.Line.{lex, tokens_of}
use Rattle.cga_lexer.specs.declared.sign.Sign.TheVariants as s
use Rattle.cga_syntax.specs.Lexemes.{keyword_of}
use Rattle.cga_syntax.specs.Pieces.{number}
use Rattle.cga_syntax.specs.Printing.{exactly, magnitude}
use Rattle.cga_syntax.specs.Reading.{IsToken, AreTokens, AreRead}
use Rattle.cga_syntax.specs.declared.lexeme.Lexeme.{Lexeme}
use Rattle.cga_syntax.specs.declared.lexeme.Lexeme.TheVariants as lexeme
use Rattle.cga_syntax.proofs.Door.{Ends, below, below_more, first_whole, lexemes, second, space_read, token_read, whole_text}
use Rattle.cga_shape.specs.declared.lot.Lot.{Lot}
use Rattle.cga_script.specs.Dumps.{lot_text}
use Rattle.std.proofs.Common.{append-nil as nil_right}
use Rattle.cga_syntax.proofs.Door.{whole_apart}
use Rattle.cga_lexer.proofs.Door.{lex_nil}

-- from each place the text is lexed as these tokens
abbrev Texts : List ℕ → List Lexeme → Type 0
Texts text ls = (p : ℕ) → AreRead (lex 0 p text) ls

spaced : (text : List ℕ) (ls : List Lexeme) → Texts text ls → Texts (32 ∷ text) ls
spaced text ls h p = space_read false text p ls h

whole_then : (n : ℕ) (rest : List ℕ) (ls : List Lexeme) → IsToken (number n) → Ends (number n) rest → Texts rest ls
    → Texts (decimal n ++ rest) (number n ∷ ls)
whole_then n rest ls t e more p = subst (λ z. AreRead (lex 0 p (z ++ rest)) (number n ∷ ls)) (whole_text n) (token_read (number n) rest p ls t e more)

-- ---- a value and a space after it

module _ (rest : List ℕ) (ls : List Lexeme) (more : Texts (32 ∷ rest) ls) where
  magnitude_then : (n above : ℕ) → AreTokens (lexemes (magnitude n above))
      → Texts ((decimal n ++ below above) ++ 32 ∷ rest) (lexemes (magnitude n above) ++ ls)
  magnitude_then n zero t p =
      subst (λ z. AreRead (lex 0 p (z ++ 32 ∷ rest)) (number n ∷ ls)) (sym (nil_right (decimal n))) (whole_then n (32 ∷ rest) ls t.0 (refl, refl) more p)
  magnitude_then n (suc above) t p =
      let d : ℕ = suc above + 1 in
      let joined : (decimal n ++ below (suc above)) ++ 32 ∷ rest ≡ decimal n ++ 47 ∷ (decimal d ++ 32 ∷ rest) =
      ap (λ z. (decimal n ++ z) ++ 32 ∷ rest) (below_more above) ∙ append_assoc (decimal n) (47 ∷ decimal d) (32 ∷ rest) in
      subst (λ z. AreRead (lex 0 p z) (lexemes (magnitude n (suc above)) ++ ls)) (sym joined)
      (whole_then n (47 ∷ (decimal d ++ 32 ∷ rest)) (lexeme.Sign s.Slash ∷ number d ∷ ls) t.0 (refl, refl)
      (λ q. token_read (lexeme.Sign s.Slash) (decimal d ++ 32 ∷ rest) q (number d ∷ ls) tt (inr (whole_apart d (32 ∷ rest) t.1.1.0)) (whole_then d (32 ∷ rest) ls t.1.1.0 (refl, refl) more)) p)

  signed_then : (z : ℤ) (above : ℕ) → AreTokens (lexemes (exactly z above))
      → Texts ((signed_decimal z ++ below above) ++ 32 ∷ rest) (lexemes (exactly z above) ++ ls)
  signed_then (pos n) above t p = magnitude_then n above t p
  signed_then (negsuc n) above t p =
      token_read (lexeme.Sign s.Minus) ((decimal (suc n) ++ below above) ++ 32 ∷ rest) p (lexemes (magnitude (suc n) above) ++ ls) tt
      (inr (ap (begins second) (append_assoc (decimal (suc n)) (below above) (32 ∷ rest)) ∙ whole_apart (suc n) (below above ++ 32 ∷ rest) (first_whole (suc n) above t.1)))
      (magnitude_then (suc n) above t.1)

  value_then : (v : Rat) → AreTokens (lexemes (exactly v.num v.above))
      → Texts (exact_text_of v ++ 32 ∷ rest) (lexemes (exactly v.num v.above) ++ ls)
  unfolding exact_text_of
  value_then v t p = signed_then v.num v.above t p

-- ---- a lot

abbrev value_tokens : Rat → List Lexeme
value_tokens v = lexemes (exactly v.num v.above)

abbrev pub last_tokens : Lot → List Lexeme
last_tokens l = value_tokens l.x ++ (value_tokens l.z ++ (value_tokens l.width ++ (value_tokens l.depth ++ (lexeme.Name l.symbol ∷ []))))

abbrev pub lot_tokens : Lot → List Lexeme
lot_tokens l = lexeme.Name (codes "lot") ∷ lexeme.Name l.name ∷ number l.seed ∷ last_tokens l

-- the text, one piece behind the other
abbrev pub flat_text : Lot → List ℕ
flat_text l =
    codes "lot" ++ 32 ∷ (l.name ++ 32 ∷ (decimal l.seed ++ 32 ∷ (exact_text_of l.x ++ 32 ∷ (exact_text_of l.z ++ 32 ∷ (exact_text_of l.width ++ 32 ∷ (exact_text_of l.depth ++ 32 ∷ l.symbol))))))

ground_flat : (x z w d y : List ℕ)
    → (32 ∷ (x ++ 32 ∷ (z ++ 32 ∷ (w ++ 32 ∷ d)))) ++ 32 ∷ y ≡ 32 ∷ (x ++ 32 ∷ (z ++ 32 ∷ (w ++ 32 ∷ (d ++ 32 ∷ y))))
ground_flat x z w d y =
    ap (λ q. 32 ∷ q) (append_assoc x (32 ∷ (z ++ 32 ∷ (w ++ 32 ∷ d))) (32 ∷ y)
    ∙ ap (λ q. x ++ 32 ∷ q) (append_assoc z (32 ∷ (w ++ 32 ∷ d)) (32 ∷ y) ∙ ap (λ q. z ++ 32 ∷ q) (append_assoc w (32 ∷ d) (32 ∷ y))))

pub lot_flat : (l : Lot) → lot_text l ≡ flat_text l
lot_flat l =
    ap (λ q. codes "lot " ++ q) (append_assoc l.name (32 ∷ decimal l.seed) _
    ∙ ap (λ q. l.name ++ 32 ∷ (decimal l.seed ++ q)) (ground_flat (exact_text_of l.x) (exact_text_of l.z) (exact_text_of l.width) (exact_text_of l.depth) l.symbol))

-- its tokens are tokens of some line
pub record HasTokens (l : Lot) : Type 0 where
  pub name : IsToken (lexeme.Name l.name)
  pub seed : IsToken (number l.seed)
  pub x : AreTokens (value_tokens l.x)
  pub z : AreTokens (value_tokens l.z)
  pub width : AreTokens (value_tokens l.width)
  pub depth : AreTokens (value_tokens l.depth)
  pub symbol : IsToken (lexeme.Name l.symbol)

lot_word : IsToken (lexeme.Name (codes "lot"))
unfolding keyword_of
lot_word = (refl, refl)

nothing_read : Texts [] []
nothing_read p = subst (λ o. AreRead o []) (sym (lex_nil p)) refl

symbol_last : (l : Lot) → HasTokens l → Texts l.symbol (lexeme.Name l.symbol ∷ [])
symbol_last l t p = subst (λ z. AreRead (lex 0 p z) (lexeme.Name l.symbol ∷ [])) (nil_right l.symbol) (token_read (lexeme.Name l.symbol) [] p [] t.symbol refl nothing_read)

last_read : (l : Lot) → HasTokens l
    → Texts (exact_text_of l.x ++ 32 ∷
    (exact_text_of l.z ++ 32 ∷ (exact_text_of l.width ++ 32 ∷ (exact_text_of l.depth ++ 32 ∷ l.symbol))))
    (last_tokens l)
last_read l t =
    value_then _ _ (spaced _ _ (value_then _ _ (spaced _ _ (value_then _ _ (spaced _ _ (value_then _ _ (spaced _ _ (symbol_last l t)) l.depth t.depth)) l.width t.width)) l.z t.z)) l.x t.x

flat_read : (l : Lot) → HasTokens l → AreRead (tokens_of (flat_text l)) (lot_tokens l)
flat_read l t =
    let last : List ℕ = exact_text_of l.x ++ 32 ∷ (exact_text_of l.z ++ 32 ∷ (exact_text_of l.width ++ 32 ∷ (exact_text_of l.depth ++ 32 ∷ l.symbol))) in
    token_read (lexeme.Name (codes "lot")) (32 ∷ (l.name ++ 32 ∷ (decimal l.seed ++ 32 ∷ last))) 1 (lexeme.Name l.name ∷ number l.seed ∷ last_tokens l) lot_word refl
    (spaced _ _ (λ p. token_read (lexeme.Name l.name) (32 ∷ (decimal l.seed ++ 32 ∷ last)) p (number l.seed ∷ last_tokens l) t.name refl
    (spaced _ _ (whole_then l.seed (32 ∷ last) (last_tokens l) t.seed (refl, refl) (spaced _ _ (last_read l t))))))

pub lot_read : (l : Lot) → HasTokens l → AreRead (tokens_of (lot_text l)) (lot_tokens l)
lot_read l t = subst (λ z. AreRead (tokens_of z) (lot_tokens l)) (sym (lot_flat l)) (flat_read l t)
