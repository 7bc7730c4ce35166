-- What is printed is written as the same pieces as the tokens of some line.
use Rattle.std.proofs.Common.{◌≡◌, ℕ, ◌&&◌, ◌==◌, Bool, true, false, List, [], ◌∷◌, ◌++◌, map, Option, Some, None, ℤ, pos, negsuc, arith, ap, sym, ◌∙◌, refl, subst, inl, inr, if◌then◌else◌}
use Rattle.std.proofs.lemmas.Bool.Decides.{nat_tests}
use Rattle.std.proofs.lemmas.List.Elements.{All-nil, All-cons}
use Rattle.cga_word.specs.declared.turn.Turn.{Turn}
use Rattle.cga_word.specs.declared.turn.Turn.TheVariants as turn
use Rattle.cga_fraction.specs.Rat.{Rat, of_int}
use Rattle.cga_lexer.specs.declared.sign.Sign.TheVariants as s
use Rattle.cga_syntax.specs.Brackets.{walk, walk_on, counted, bracket_of}
use Rattle.cga_syntax.specs.Pieces.{Piece, Pieces, token, drawn, turned, probability, valued, never, number, IsTurn, IsProbability, IsMagnitude, IsValue, IsWritten, Writes}
use Rattle.cga_syntax.specs.Printing.{printed_piece, printed, degrees, is_one, is_whole_one, exactly, HasText, HaveTexts, usually}
use Rattle.cga_syntax.specs.Reading.{IsToken, AreTokens}
use Rattle.cga_syntax.specs.declared.lexeme.Lexeme.{Lexeme}
use Rattle.cga_syntax.specs.declared.lexeme.Lexeme.TheVariants as lexeme
use Rattle.cga_syntax.specs.declared.print.mark.Mark.{Mark}
use Rattle.cga_syntax.proofs.Exact.{whole_literal, exact}
use Rattle.std.proofs.lemmas.Bool.{and_parts as both}

-- the tokens, without their spaces
abbrev pub lexemes : List Mark → List Lexeme
lexemes ms = map (λ m. m.lexeme) ms

-- ---- brackets

walk_all : (f g : ℕ → Option ℕ) (o : Option ℕ) → ((n : ℕ) → f n ≡ g n) → walk_on f o ≡ walk_on g o
walk_all f g None h = refl
walk_all f g (Some n) h = h n

walk_twice : (f g : ℕ → Option ℕ) (o : Option ℕ) → walk_on g (walk_on f o) ≡ walk_on (λ n. walk_on g (f n)) o
walk_twice f g None = refl
walk_twice f g (Some n) = refl

-- the brackets left after joined texts are those left by the second after what the first leaves
pub walk_join : (x y : List Lexeme) (n : ℕ) → walk n (x ++ y) ≡ walk_on (λ m. walk m y) (walk n x)
unfolding walk
walk_join [] y n = refl
walk_join (l ∷ x) y n =
    walk_all (λ m. walk m (x ++ y)) (λ m. walk_on (λ i. walk i y) (walk m x)) (counted (bracket_of l) n) (λ m. walk_join x y m)
    ∙ sym (walk_twice (λ m. walk m x) (λ m. walk m y) (counted (bracket_of l) n))

-- ---- one piece

-- the printed tokens of a piece that is written as tokens of a line
pub record Alike (n : ℕ) (p : Piece) (x : List Lexeme) (m : ℕ) : Type 0 where
  pub tokens : AreTokens (lexemes (printed_piece p))
  pub written : IsWritten n p (lexemes (printed_piece p)) m
  pub brackets : (i : ℕ) → walk i (lexemes (printed_piece p)) ≡ walk i x

walk_text : (x y : List Lexeme) (i : ℕ) → y ≡ x → walk i y ≡ walk i x
walk_text x y i e = ap (walk i) e

-- what has no brackets
plain_number : (a : Rat) (i : ℕ) → walk i (lexeme.Number a ∷ []) ≡ Some i
unfolding walk
plain_number a i = refl

minus_first : (x : List Lexeme) (i : ℕ) → walk i (lexeme.Sign s.Minus ∷ x) ≡ walk i x
unfolding walk
minus_first x i = refl

quotient_plain : (a b : Rat) (i : ℕ) → walk i (lexeme.Number a ∷ lexeme.Sign s.Slash ∷ lexeme.Number b ∷ []) ≡ Some i
unfolding walk
quotient_plain a b i = refl

colon_plain : (a : Rat) (i : ℕ) → walk i (lexeme.Sign s.Colon ∷ lexeme.Number a ∷ []) ≡ Some i
unfolding walk
colon_plain a i = refl

nothing_plain : (i : ℕ) → walk i [] ≡ Some i
unfolding walk
nothing_plain i = refl

turn_plain : (t : Turn) (x : List Lexeme) (i : ℕ) → IsTurn t x → walk i x ≡ Some i
turn_plain turn.By0 x i e = ap (walk i) e ∙ plain_number (of_int (pos 0)) i
turn_plain turn.By90 x i e = ap (walk i) e ∙ plain_number (of_int (pos 90)) i
turn_plain turn.By180 x i e = ap (walk i) e ∙ plain_number (of_int (pos 180)) i
turn_plain turn.By270 x i (inl e) = ap (walk i) e ∙ plain_number (of_int (pos 270)) i
turn_plain turn.By270 x i (inr e) = ap (walk i) e ∙ minus_first (number 90 ∷ []) i ∙ plain_number (of_int (pos 90)) i

turn_written : (t : Turn) → IsTurn t (number (degrees t) ∷ [])
turn_written turn.By0 = refl
turn_written turn.By90 = refl
turn_written turn.By180 = refl
turn_written turn.By270 = inl refl

turn_literal : (t : Turn) → IsToken (number (degrees t))
turn_literal turn.By0 = whole_literal 0 (omega arith)
turn_literal turn.By90 = whole_literal 90 (omega arith)
turn_literal turn.By180 = whole_literal 180 (omega arith)
turn_literal turn.By270 = whole_literal 270 (omega arith)

probability_plain : (p : Rat) (x : List Lexeme) (i : ℕ) → IsProbability p x → walk i x ≡ Some i
probability_plain p x i (inl e) = ap (walk i) e ∙ colon_plain p i
probability_plain p x i (inr e) = ap (walk i) e.1 ∙ nothing_plain i

one_num : (z : ℤ) → is_whole_one z ≡ true → z ≡ pos 1
one_num (pos n) h = ap pos (let e : n ≡ 1 = grind (arith, nat_tests) in e)
one_num (negsuc n) h = absurd (let q : false ≡ true = h in cc)

one_is : (p : Rat) → is_one p ≡ true → p ≡ of_int (pos 1)
one_is p h =
    let b = both (is_whole_one p.num) (p.above == 0) h in
    let e : p.above ≡ 0 = let g = b.1 in grind (arith, nat_tests) in
    ap (λ z. record { num = z; above = p.above }) (one_num p.num b.0) ∙ ap (λ z. record { num = pos 1; above = z }) e

not_one : (p : Rat) → is_one p ≡ false → p ≡ of_int (pos 1) → ⊥
not_one p h e = let g : true ≡ false = ap is_one (sym e) ∙ h in cc

abbrev given : Rat → Bool → List Mark
given p one = if one then [] else usually (lexeme.Sign s.Colon) ∷ usually (lexeme.Number p) ∷ []

given_tokens : (p : Rat) (one : Bool) → is_one p ≡ one → (x : List Lexeme) → AreTokens x → IsProbability p x
    → AreTokens (lexemes (given p one))
given_tokens p true h x t w = tt
given_tokens p false h x t (inl e) = let u = subst AreTokens e t in (tt, (u.1.0, tt))
given_tokens p false h x t (inr e) = absurd (not_one p h e.0)

given_written : (p : Rat) (one : Bool) → is_one p ≡ one → IsProbability p (lexemes (given p one))
given_written p true h = inr (one_is p h, refl)
given_written p false h = inl refl

given_plain : (p : Rat) (one : Bool) (i : ℕ) → walk i (lexemes (given p one)) ≡ Some i
given_plain p true i = nothing_plain i
given_plain p false i = colon_plain p i

magnitude_plain : (m : Rat) (x : List Lexeme) (i : ℕ) → IsMagnitude m x → walk i x ≡ Some i
magnitude_plain m x i (inl e) = ap (walk i) e ∙ plain_number m i
magnitude_plain m x i (inr h) = ap (walk i) h.2 ∙ quotient_plain (of_int (pos h.0)) (of_int (pos h.1)) i

value_plain : (v : Rat) (x : List Lexeme) (i : ℕ) → IsValue v x → walk i x ≡ Some i
value_plain v x i (inl h) = magnitude_plain v x i h
value_plain v x i (inr h) = ap (walk i) h.2 ∙ minus_first h.1 i ∙ magnitude_plain h.0 h.1 i h.3

alike : (n : ℕ) (p : Piece) (x : List Lexeme) (m : ℕ) → AreTokens x → IsWritten n p x m → Alike n p x m
alike n (token space l) x m t w = record { tokens = subst AreTokens w.0 t; written = (refl, w.1); brackets = λ i. ap (walk i) (sym w.0) }
alike n (drawn j) x m t w = record { tokens = subst AreTokens w.0 t; written = (refl, w.1, w.2); brackets = λ i. ap (walk i) (sym w.0) }
alike n (turned a) x m t w = record {
  tokens = (turn_literal a, tt);
  written = (turn_written a, w.1);
  brackets = λ i. turn_plain a (number (degrees a) ∷ []) i (turn_written a) ∙ sym (turn_plain a x i w.0);
}
alike n (probability p) x m t w = record {
  tokens = given_tokens p (is_one p) refl x t w.0;
  written = (given_written p (is_one p) refl, w.1);
  brackets = λ i. given_plain p (is_one p) i ∙ sym (probability_plain p x i w.0);
}
alike n (valued v) x m t w =
    let e = exact v x t w.0 in
    record { tokens = e.tokens; written = (e.written, w.1); brackets = λ i. value_plain v (lexemes (exactly v.num v.above)) i e.written ∙ sym (value_plain v x i w.0) }
alike n never x m t w = absurd w

-- ---- all pieces

tokens_join : (x y : List Lexeme) → AreTokens x → AreTokens y → AreTokens (x ++ y)
tokens_join [] y a b = b
tokens_join (l ∷ x) y a b = (a.0, tokens_join x y a.1 b)

-- the first of tokens are tokens
pub tokens_front : (x y : List Lexeme) → AreTokens (x ++ y) → AreTokens x
tokens_front [] y a = tt
tokens_front (l ∷ x) y a = (a.0, tokens_front x y a.1)

-- the last of tokens are tokens
pub tokens_rest : (x y : List Lexeme) → AreTokens (x ++ y) → AreTokens y
tokens_rest [] y a = a
tokens_rest (l ∷ x) y a = tokens_rest x y a.1

lexemes_join : (xs ys : List Mark) → lexemes (xs ++ ys) ≡ lexemes xs ++ lexemes ys
lexemes_join [] ys = refl
lexemes_join (m ∷ xs) ys = ap (λ z. m.lexeme ∷ z) (lexemes_join xs ys)

-- the printed tokens of pieces that are written as tokens of a line
pub record Again (n : ℕ) (ps : Pieces) (x : List Lexeme) (m : ℕ) : Type 0 where
  pub tokens : AreTokens (lexemes (printed ps))
  pub written : Writes n ps (lexemes (printed ps)) m
  pub brackets : (i : ℕ) → walk i (lexemes (printed ps)) ≡ walk i x

again_step : (n c m : ℕ) (p : Piece) (ps : Pieces) (x here rest : List Lexeme) → x ≡ here ++ rest → Alike n p here c
    → Again c ps rest m → Again n (p ∷ ps) x m
unfolding Writes
again_step n c m p ps x here rest e a g =
    let y : List Lexeme = lexemes (printed_piece p) in
    let z : List Lexeme = lexemes (printed ps) in
    let j : lexemes (printed (p ∷ ps)) ≡ lexemes (printed_piece p) ++ lexemes (printed ps) = lexemes_join (printed_piece p) (printed ps) in
    record {
      tokens = subst AreTokens (sym j) (tokens_join (lexemes (printed_piece p)) (lexemes (printed ps)) a.tokens g.tokens);
      written = (lexemes (printed_piece p), lexemes (printed ps), c, j, a.written, g.written);
      brackets = λ i.
          ap (walk i) j ∙ walk_join (lexemes (printed_piece p)) (lexemes (printed ps)) i
          ∙ walk_all (λ k. walk k (lexemes (printed ps))) (λ k. walk k rest) (walk i (lexemes (printed_piece p))) g.brackets
          ∙ ap (walk_on (λ k. walk k rest)) (a.brackets i) ∙ sym (walk_join here rest i) ∙ ap (walk i) (sym e);
    }

-- where pieces are written as tokens such as a line has, so are they as they are printed, with the same brackets
pub again : (n : ℕ) (ps : Pieces) (x : List Lexeme) (m : ℕ) → AreTokens x → Writes n ps x m → Again n ps x m
unfolding Writes
again n [] x m t w = record { tokens = tt; written = (refl, w.1); brackets = λ i. ap (walk i) (sym w.0) }
again n (p ∷ ps) x m t w =
    let u : AreTokens (w.0 ++ w.1) = subst AreTokens w.3 t in
    again_step n w.2 m p ps x w.0 w.1 w.3 (alike n p w.0 w.2 (tokens_front w.0 w.1 u) w.4) (again w.2 ps w.1 m (tokens_rest w.0 w.1 u) w.5)

-- ---- numbers have a text

has_text : (l : Lexeme) → IsToken l → HasText l
has_text (lexeme.Number value) t = t
has_text (lexeme.Relative value) t = t
has_text (lexeme.Keyword word) t = tt
has_text (lexeme.Name name) t = tt
has_text (lexeme.Text name) t = tt
has_text (lexeme.Sign sign) t = tt

-- where tokens are such as a line has, each has a text
pub have_texts : (ms : List Mark) → AreTokens (lexemes ms) → HaveTexts ms
have_texts [] t = All-nil (λ (m : Mark). HasText m.lexeme)
have_texts (m ∷ ms) t = All-cons (λ (m : Mark). HasText m.lexeme) m ms (has_text m.lexeme t.0) (have_texts ms t.1)
