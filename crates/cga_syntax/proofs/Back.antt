-- The text of printed tokens is lexed as these tokens.
use Rattle.std.proofs.Common.{◌≡◌, ℕ, ◌+◌, ◌-◌, ◌<◌, ◌&&◌, ◌||◌, Bool, true, false, List, [], ◌∷◌, ◌++◌, length}
use Rattle.std.proofs.Common.{length-append, map, Option, Some, None, Ok, Err, arith, ap, sym, ◌∙◌, refl, subst}
use Rattle.std.proofs.Common.{if◌then◌else◌}
use Rattle.cga_fraction.specs.Rat.{Rat}
use Rattle.cga_fraction.specs.Decimals.{IsLiteral}
use Rattle.cga_fraction.specs.Texts.{literal_text_of}
use Rattle.cga_fraction.proofs.Door.{literal_is_shortest}
use Rattle.cga_lexer.proofs.Door.{lex_head, lex_nil, lex_skip}
use Rattle.cga_lexer.specs.Front.{front}
use Rattle.cga_lexer.specs.Line.{Lexed, lex, from_front, behind, tokens_of}
use Rattle.cga_lexer.specs.declared.sign.Sign.{Sign}
use Rattle.cga_lexer.specs.declared.sign.Sign.TheVariants as s
use Rattle.cga_lexer.specs.declared.token.Token.{Token}
use Rattle.cga_lexer.specs.declared.token.TokenKind.{TokenKind}
use Rattle.cga_lexer.specs.declared.front.Front.TheVariants.{Token as Found}
use Rattle.cga_syntax.specs.Lexemes.{lexeme_of, keyword_bytes}
use Rattle.cga_syntax.specs.Printing.{sign_bytes, lexeme_bytes, is_left, is_right, is_word}
use Rattle.cga_syntax.specs.Printing.{is_prefix, is_minus, is_colon, is_label, begins_primary, is_none_after}
use Rattle.cga_syntax.specs.Printing.{is_none_before, closes_up, space_before, text_after, text_of}
use Rattle.cga_syntax.specs.Reading.{IsToken, AreTokens, AreRead, seen_of}
use Rattle.cga_syntax.specs.declared.keyword.Keyword.{Keyword}
use Rattle.cga_syntax.specs.declared.keyword.Keyword.TheVariants as k
use Rattle.cga_syntax.specs.declared.lexeme.Lexeme.{Lexeme}
use Rattle.cga_syntax.specs.declared.lexeme.Lexeme.TheVariants as lexeme
use Rattle.cga_syntax.specs.declared.print.mark.Mark.{Mark}
use Rattle.cga_syntax.proofs.Fronts.{shape, dotted, drop_over, named_of}
use Rattle.cga_syntax.proofs.Signs.{Ends, token_front}
use Rattle.std.proofs.lemmas.Bool.{and_parts as both}
use Rattle.cga_syntax.proofs.Apart.{closed_ends, left_ends, right_closes, colon_closes, left_first, word_ends, primary_apart, minus_ends}

-- ---- neighbours

module _ (a b : Mark) (rest : List ℕ) (t : IsToken b.lexeme) where
  abbrev over : List ℕ
  over = lexeme_bytes b.lexeme ++ rest

  by_word : (is_word a.lexeme && is_left b.lexeme) ≡ true → Ends a.lexeme over
  by_word h = let p = both (is_word a.lexeme) (is_left b.lexeme) h in word_ends a.lexeme over p.0 (left_first b.lexeme rest p.1)

  by_prefix : (is_prefix a && begins_primary b.lexeme) ≡ true → Ends a.lexeme over
  by_prefix h =
      let p = both (is_prefix a) (begins_primary b.lexeme) h in
      let m = both (is_minus a.lexeme) (is_none_after a.space) p.0 in
      minus_ends a.lexeme over m.0 (primary_apart b.lexeme rest t p.1)

  by_label : is_label b ≡ true → Ends a.lexeme over
  by_label h = closed_ends a.lexeme over (colon_closes b.lexeme rest (both (is_colon b.lexeme) (is_none_before b.space) h).0)

  by_right : is_right b.lexeme ≡ true → Ends a.lexeme over
  by_right h = closed_ends a.lexeme over (right_closes b.lexeme rest h)

  one_of : (p q u v w : Bool) → (p ≡ true → Ends a.lexeme over) → (q ≡ true → Ends a.lexeme over)
      → (u ≡ true → Ends a.lexeme over) → (v ≡ true → Ends a.lexeme over) → (w ≡ true → Ends a.lexeme over)
      → ((((p || q) || u) || v) || w) ≡ true → Ends a.lexeme over
  one_of true q u v w f g i j l h = f refl
  one_of false true u v w f g i j l h = g refl
  one_of false false true v w f g i j l h = i refl
  one_of false false false true w f g i j l h = j refl
  one_of false false false false w f g i j l h = l h

  joined : closes_up a b ≡ true → Ends a.lexeme over
  joined h = one_of (is_left a.lexeme) (is_right b.lexeme) (is_word a.lexeme && is_left b.lexeme)
      (is_prefix a && begins_primary b.lexeme) (is_label b) (left_ends a.lexeme over) by_right by_word by_prefix by_label h

  spaced : (c : Bool) → closes_up a b ≡ c → Ends a.lexeme ((if c then [] else 32 ∷ []) ++ over)
  spaced true h = joined h
  spaced false h = closed_ends a.lexeme (32 ∷ over) (record { word = refl; point = refl; sign = refl })

-- what is printed behind a token doesn't go on with it
followed_by : (m : Mark) (ms : List Mark) → AreTokens (map (λ n. n.lexeme) ms) → Ends m.lexeme (text_after (Some m) ms)
followed_by m [] t = closed_ends m.lexeme [] (record { word = refl; point = refl; sign = refl })
followed_by m (n ∷ ns) t = spaced m n (text_after (Some n) ns) t.0 (closes_up m n) refl

-- ---- the text is lexed

some_bytes : (bytes rest : List ℕ) (place : ℕ) (kind : TokenKind) → front (bytes ++ rest) ≡ Found kind (length bytes)
    → 0 < length bytes →
    lex 0 place (bytes ++ rest) ≡ behind (record { kind = kind; from = place; to = place + length bytes }) (lex 0 (place + length bytes) rest)
some_bytes [] rest place kind e h = absurd (omega arith)
some_bytes (b ∷ bs) rest place kind e h =
    let t : Token = record { kind = kind; from = place; to = place + length (b ∷ bs) } in
    let n : length (b ∷ bs) - 1 ≡ length bs = omega arith in
    let p : place + 1 + length bs ≡ place + length (b ∷ bs) = omega arith in
    lex_head place b (bs ++ rest)
    ∙ ap (λ f. from_front f place (λ n. lex n (place + 1) (bs ++ rest))) e
    ∙ ap (λ n. behind t (lex n (place + 1) (bs ++ rest))) n
    ∙ ap (behind t) (lex_skip (length bs) (place + 1) (bs ++ rest) (omega (arith, length-append bs rest)) ∙ ap (λ z. lex 0 (place + 1 + length bs) z) (drop_over bs rest) ∙ ap (λ n. lex 0 n rest) p)

-- a token takes a byte
taken : (bytes rest : List ℕ) (kind : TokenKind) → 0 < length bytes → Unit {0}
taken bytes rest kind h = tt

front_first : (t : Token) (o : Lexed) (l : Lexeme) (ls : List Lexeme) → lexeme_of t.kind ≡ l → AreRead o ls
    → AreRead (behind t o) (l ∷ ls)
front_first t (Ok ts) l ls e h = ap (λ z. z ∷ seen_of ts) e ∙ ap (λ z. l ∷ z) h
front_first t (Err f) l ls e h = absurd h

literal_some : (value : Rat) → IsLiteral value → 0 < length (literal_text_of value)
literal_some value h =
    let p = shape (literal_text_of value) value (literal_is_shortest value h).reads in
    let q = p.some in omega (arith, ap length p.split, length-append p.whole (dotted p.places))

keyword_some : (word : Keyword) → 0 < length (keyword_bytes word)
keyword_some k.T = omega arith
keyword_some k.S = omega arith
keyword_some k.Rx = omega arith
keyword_some k.Ry = omega arith
keyword_some k.Rz = omega arith
keyword_some k.I = omega arith
keyword_some k.Subdiv = omega arith
keyword_some k.Repeat = omega arith
keyword_some k.Comp = omega arith
keyword_some k.Nil = omega arith
keyword_some k.Scope = omega arith
keyword_some k.Rand = omega arith
keyword_some k.Floor = omega arith
keyword_some k.Ceil = omega arith
keyword_some k.And = omega arith
keyword_some k.Or = omega arith
keyword_some k.Not = omega arith

sign_some : (sign : Sign) → 0 < length (sign_bytes sign)
sign_some s.LeftRound = omega arith
sign_some s.RightRound = omega arith
sign_some s.LeftSquare = omega arith
sign_some s.RightSquare = omega arith
sign_some s.LeftCurly = omega arith
sign_some s.RightCurly = omega arith
sign_some s.Comma = omega arith
sign_some s.Colon = omega arith
sign_some s.Bar = omega arith
sign_some s.Plus = omega arith
sign_some s.Minus = omega arith
sign_some s.Star = omega arith
sign_some s.Slash = omega arith
sign_some s.Dot = omega arith
sign_some s.Assign = omega arith
sign_some s.Arrow = omega arith
sign_some s.Equal = omega arith
sign_some s.Unequal = omega arith
sign_some s.Less = omega arith
sign_some s.AtMost = omega arith
sign_some s.Greater = omega arith
sign_some s.AtLeast = omega arith

bytes_some : (l : Lexeme) → IsToken l → 0 < length (lexeme_bytes l)
bytes_some (lexeme.Number value) t = literal_some value t
bytes_some (lexeme.Relative value) t = omega (arith, length-append (literal_text_of value) (114 ∷ []))
bytes_some (lexeme.Keyword word) t = keyword_some word
bytes_some (lexeme.Name name) t = (named_of name t.0).some
bytes_some (lexeme.Text name) t = omega arith
bytes_some (lexeme.Sign sign) t = sign_some sign

lex_blank : (place : ℕ) (rest : List ℕ) → lex 0 place (32 ∷ rest) ≡ lex 0 (place + 1) rest
unfolding lex front
lex_blank place rest = refl

-- a token's bytes and what is printed behind it
pub token_read : (l : Lexeme) (rest : List ℕ) (place : ℕ) (ls : List Lexeme) → IsToken l → Ends l rest
    → ((p : ℕ) → AreRead (lex 0 p rest) ls) → AreRead (lex 0 place (lexeme_bytes l ++ rest)) (l ∷ ls)
token_read l rest place ls t e h =
    let f = token_front l rest t e in
    let at : Token = record { kind = f.kind; from = place; to = place + length (lexeme_bytes l) } in
    subst (λ o. AreRead o (l ∷ ls)) (sym (some_bytes (lexeme_bytes l) rest place f.kind f.there (bytes_some l t)))
    (front_first at (lex 0 (place + length (lexeme_bytes l)) rest) l ls f.is (h (place + length (lexeme_bytes l))))

-- where a text is read as tokens at every place, it is with a space before it too, or with none
pub space_read : (c : Bool) (text : List ℕ) (place : ℕ) (ls : List Lexeme) → ((p : ℕ) → AreRead (lex 0 p text) ls)
    → AreRead (lex 0 place ((if c then [] else 32 ∷ []) ++ text)) ls
space_read true text place ls h = h place
space_read false text place ls h = subst (λ o. AreRead o ls) (sym (lex_blank place text)) (h (place + 1))

before_read : (last : Option Mark) (m : Mark) (text : List ℕ) (place : ℕ) (ls : List Lexeme)
    → ((p : ℕ) → AreRead (lex 0 p text) ls) → AreRead (lex 0 place (space_before last m ++ text)) ls
before_read None m text place ls h = h place
before_read (Some b) m text place ls h = space_read (closes_up b m) text place ls h

marks_read : (last : Option Mark) (ms : List Mark) (place : ℕ) → AreTokens (map (λ m. m.lexeme) ms)
    → AreRead (lex 0 place (text_after last ms)) (map (λ m. m.lexeme) ms)
marks_read last [] place t = subst (λ o. AreRead o []) (sym (lex_nil place)) refl
marks_read last (m ∷ ms) place t =
    before_read last m (lexeme_bytes m.lexeme ++ text_after (Some m) ms) place (m.lexeme ∷ map (λ n. n.lexeme) ms)
    (λ p. token_read m.lexeme (text_after (Some m) ms) p (map (λ n. n.lexeme) ms) t.0 (followed_by m ms t.1) (λ q. marks_read (Some m) ms q t.1))

-- where tokens are such as a line has, their text is read as them
pub text_read : (ms : List Mark) → AreTokens (map (λ m. m.lexeme) ms)
    → AreRead (tokens_of (text_of ms)) (map (λ m. m.lexeme) ms)
text_read ms t = marks_read None ms 1 t
