-- The lines of attributes and priorities are lexed as their tokens.
use Rattle.std.proofs.Common.{◌≡◌, ℕ, zero, suc, ◌+◌, ◌*◌, ◌/◌, ◌<◌, ◌≤◌, ◌^◌, ◌==◌, false, List, [], ◌∷◌, ◌++◌}
use Rattle.std.proofs.Common.{length, length-append, ℤ, pos, negsuc, arith, ap, sym, ◌∙◌, refl, subst, inr, codes}
use Rattle.std.proofs.Common.{decimal, if◌then◌else◌}
use Rattle.std.specs.Fmt.{signed_decimal}
use Rattle.std.proofs.lemmas.Bool.Decides.{nat_tests}
use Rattle.std.proofs.lemmas.Fmt.{length-decimal-le}
use Rattle.cga_fraction.specs.Rat.{Rat, of_int}
use Rattle.cga_fraction.specs.Texts.{literal_text_of, places_from, pointed, exact_text_of}
use Rattle.cga_lexer.specs.Bytes.{begins}
use Rattle.cga_lexer.specs.Line.{lex, tokens_of}
use Rattle.cga_lexer.specs.declared.sign.Sign.TheVariants as s
use Rattle.cga_syntax.specs.Lexemes.{keyword_of}
use Rattle.cga_syntax.specs.Pieces.{number}
use Rattle.cga_syntax.specs.Printing.{exactly, magnitude}
use Rattle.cga_syntax.specs.Reading.{IsToken, AreTokens, AreRead}
use Rattle.cga_rule.specs.declared.grammar.Attribute.{Attribute}
use Rattle.cga_syntax.specs.declared.lexeme.Lexeme.{Lexeme}
use Rattle.cga_syntax.specs.declared.lexeme.Lexeme.TheVariants as lexeme
use Rattle.cga_syntax.proofs.Again.{lexemes}
use Rattle.cga_syntax.proofs.Apart.{primary_apart}
use Rattle.cga_syntax.proofs.Back.{token_read, space_read}
use Rattle.cga_syntax.proofs.Exact.{whole_literal, whole_small}
use Rattle.cga_syntax.proofs.Fronts.{named_of}
use Rattle.cga_syntax.proofs.Signs.{second, Ends}
use Rattle.std.proofs.Common.{append-nil as nil_right}
use Rattle.cga_lexer.proofs.Door.{lex_nil}

-- ---- whole numbers

-- the literal text of a natural number is its decimal text
pub whole_text : (n : ℕ) → literal_text_of (of_int (pos n)) ≡ decimal n
unfolding literal_text_of places_from pointed
whole_text n =
    let e : n * 10 ^ 0 / 1 / 10 ^ 0 ≡ n = omega arith in
    nil_right (decimal (n * 10 ^ 0 / 1 / 10 ^ 0)) ∙ ap decimal e

nothing_read : (place : ℕ) → AreRead (lex 0 place []) []
nothing_read place = subst (λ o. AreRead o []) (sym (lex_nil place)) refl

whole_read : (n : ℕ) (rest : List ℕ) (place : ℕ) (ls : List Lexeme) → IsToken (number n) → Ends (number n) rest
    → ((p : ℕ) → AreRead (lex 0 p rest) ls) → AreRead (lex 0 place (decimal n ++ rest)) (number n ∷ ls)
whole_read n rest place ls t e more = subst (λ z. AreRead (lex 0 place (z ++ rest)) (number n ∷ ls)) (whole_text n) (token_read (number n) rest place ls t e more)

whole_last : (n place : ℕ) → IsToken (number n) → AreRead (lex 0 place (decimal n)) (number n ∷ [])
whole_last n place t = subst (λ z. AreRead (lex 0 place z) (number n ∷ [])) (nil_right (decimal n)) (whole_read n [] place [] t (refl, refl) nothing_read)

-- behind a whole number no token goes on
pub whole_apart : (n : ℕ) (rest : List ℕ) → IsToken (number n) → begins second (decimal n ++ rest) ≡ false
whole_apart n rest t = ap (λ z. begins second (z ++ rest)) (sym (whole_text n)) ∙ primary_apart (number n) rest t refl

-- ---- values

-- a slash and the denominator, where it isn't 1
abbrev pub below : ℕ → List ℕ
below above = if above == 0 then [] else (47 ∷ decimal (above + 1))

-- a denominator above 1 is written behind a slash
pub below_more : (above : ℕ) → below (suc above) ≡ 47 ∷ decimal (suc above + 1)
below_more above =
    let e : (suc above == 0) ≡ false = grind (arith, nat_tests) in
    ap (λ t. if t then [] else (47 ∷ decimal (suc above + 1))) e

magnitude_read : (n above place : ℕ) → AreTokens (lexemes (magnitude n above))
    → AreRead (lex 0 place (decimal n ++ below above)) (lexemes (magnitude n above))
magnitude_read n zero place t = whole_read n [] place [] t.0 (refl, refl) nothing_read
magnitude_read n (suc above) place t =
    let apart : begins second (decimal (suc above + 1)) ≡ false = ap (begins second) (sym (nil_right (decimal (suc above + 1)))) ∙ whole_apart (suc above + 1) [] t.1.1.0 in
    subst (λ z. AreRead (lex 0 place (decimal n ++ z)) (lexemes (magnitude n (suc above)))) (sym (below_more above))
    (whole_read n (47 ∷ decimal (suc above + 1)) place (lexeme.Sign s.Slash ∷ number (suc above + 1) ∷ []) t.0 (refl, refl)
    (λ p. token_read (lexeme.Sign s.Slash) (decimal (suc above + 1)) p (number (suc above + 1) ∷ []) tt (inr apart) (λ q. whole_last (suc above + 1) q t.1.1.0)))

-- where the tokens of a magnitude are such as a line has, its first number is such a token
pub first_whole : (n above : ℕ) → AreTokens (lexemes (magnitude n above)) → IsToken (number n)
first_whole n zero t = t.0
first_whole n (suc above) t = t.0

signed_read : (z : ℤ) (above place : ℕ) → AreTokens (lexemes (exactly z above))
    → AreRead (lex 0 place (signed_decimal z ++ below above)) (lexemes (exactly z above))
signed_read (pos n) above place t = magnitude_read n above place t
signed_read (negsuc n) above place t =
    token_read (lexeme.Sign s.Minus) (decimal (suc n) ++ below above) place (lexemes (magnitude (suc n) above)) tt (inr (whole_apart (suc n) (below above) (first_whole (suc n) above t.1)))
    (λ p. magnitude_read (suc n) above p t.1)

exact_read : (v : Rat) (place : ℕ) → AreTokens (lexemes (exactly v.num v.above))
    → AreRead (lex 0 place (exact_text_of v)) (lexemes (exactly v.num v.above))
unfolding exact_text_of
exact_read v place t = signed_read v.num v.above place t

-- ---- lines

space_first : (text : List ℕ) (place : ℕ) (ls : List Lexeme) → ((p : ℕ) → AreRead (lex 0 p text) ls)
    → AreRead (lex 0 place (32 ∷ text)) ls
space_first text place ls h = space_read false text place ls h

attr_token : IsToken (lexeme.Name (codes "attr"))
unfolding keyword_of
attr_token = (refl, refl)

priority_token : IsToken (lexeme.Name (codes "PRIORITY"))
unfolding keyword_of
priority_token = (refl, refl)

-- the tokens of an attribute
abbrev pub attribute_tokens : Attribute → List Lexeme
attribute_tokens a = lexeme.Name (codes "attr") ∷ lexeme.Name a.name ∷ lexeme.Sign s.Assign ∷ lexemes (exactly a.value.num a.value.above)

-- where the tokens of an attribute are such as a line has, its line is read as them
pub attribute_read : (a : Attribute) → AreTokens (attribute_tokens a)
    → AreRead (tokens_of (codes "attr " ++ (a.name ++ (codes " = " ++ exact_text_of a.value)))) (attribute_tokens a)
attribute_read a t =
    let value : List Lexeme = lexemes (exactly a.value.num a.value.above) in
    let text : List ℕ = exact_text_of a.value in
    token_read (lexeme.Name (codes "attr")) (32 ∷ (a.name ++ (codes " = " ++ text))) 1 (lexeme.Name a.name ∷ lexeme.Sign s.Assign ∷ value) attr_token refl
    (λ p. space_first (a.name ++ (codes " = " ++ text)) p (lexeme.Name a.name ∷ lexeme.Sign s.Assign ∷ value)
    (λ p. token_read (lexeme.Name a.name) (codes " = " ++ text) p (lexeme.Sign s.Assign ∷ value) t.1.0 refl
    (λ p. space_first (codes "= " ++ text) p (lexeme.Sign s.Assign ∷ value)
    (λ p. token_read (lexeme.Sign s.Assign) (32 ∷ text) p value tt (inr refl)
    (λ p. space_first text p value
    (λ p. exact_read a.value p t.1.1.1))))))

-- the tokens of a priority
abbrev pub priority_tokens : ℕ → List Lexeme
priority_tokens n = lexeme.Name (codes "PRIORITY") ∷ number n ∷ lexeme.Sign s.Colon ∷ []

-- the line of a priority below 2 to the 16 is read as its tokens
pub priority_read : (n : ℕ) → n < 2 ^ 16
    → AreRead (tokens_of (codes "PRIORITY " ++ (decimal n ++ codes ":"))) (priority_tokens n)
priority_read n h =
    token_read (lexeme.Name (codes "PRIORITY")) (32 ∷ (decimal n ++ codes ":")) 1 (number n ∷ lexeme.Sign s.Colon ∷ []) priority_token refl
    (λ p. space_first (decimal n ++ codes ":") p (number n ∷ lexeme.Sign s.Colon ∷ [])
    (λ p. whole_read n (codes ":") p (lexeme.Sign s.Colon ∷ []) (whole_literal n (omega arith)) (refl, refl)
    (λ p. token_read (lexeme.Sign s.Colon) [] p [] tt (inr refl) nothing_read)))

-- the word that ends a block
pub end_read : AreRead (tokens_of (codes "end")) (lexeme.Name (codes "end") ∷ [])
unfolding keyword_of
end_read = token_read (lexeme.Name (codes "end")) [] 1 [] (refl, refl) refl nothing_read

-- ---- their lengths

-- a whole number has at most 18 digits
pub whole_short : (n : ℕ) → IsToken (number n) → length (decimal n) ≤ 18
whole_short n t = let b = whole_small n t in length-decimal-le 18 n (omega arith) b (omega arith)

-- a magnitude has at most 37 bytes
magnitude_short : (n above : ℕ) → AreTokens (lexemes (magnitude n above)) → length (decimal n ++ below above) ≤ 37
magnitude_short n zero t = omega (arith, whole_short n t.0, ap length (nil_right (decimal n)))
magnitude_short n (suc above) t =
    omega (arith, whole_short n t.0, whole_short (suc above + 1) t.1.1.0, length-append (decimal n) (below (suc above)), ap length (below_more above))

-- a number has at most 38 bytes
pub signed_short : (z : ℤ) (above : ℕ) → AreTokens (lexemes (exactly z above))
    → length (signed_decimal z ++ below above) ≤ 38
signed_short (pos n) above t = omega (arith, magnitude_short n above t)
signed_short (negsuc n) above t = omega (arith, magnitude_short (suc n) above t.1)

exact_short : (v : Rat) → AreTokens (lexemes (exactly v.num v.above)) → length (exact_text_of v) ≤ 38
unfolding exact_text_of
exact_short v t = signed_short v.num v.above t

-- where the tokens of an attribute are such as a line has, its line has at most 4,096 bytes
pub attribute_short : (a : Attribute) → AreTokens (attribute_tokens a)
    → length (codes "attr " ++ (a.name ++ (codes " = " ++ exact_text_of a.value))) ≤ 4096
attribute_short a t =
    let n = (named_of a.name t.1.0.0).few in
    omega (arith, n, exact_short a.value t.1.1.1, length-append a.name (codes " = " ++ exact_text_of a.value))

-- the line of a priority below 2 to the 16 has at most 4,096 bytes
pub priority_short : (n : ℕ) → n < 2 ^ 16 → length (codes "PRIORITY " ++ (decimal n ++ codes ":")) ≤ 4096
priority_short n h = omega (arith, whole_short n (whole_literal n (omega arith)), length-append (decimal n) (codes ":"))
