-- A turn of the lexer's loop.
use Rattle.std.proofs.Common.{◌≡◌, ℕ, zero, suc, ◌+◌, ◌-◌, ◌<◌, ◌≤◌, List, [], ◌∷◌, ◌++◌, length, length-drop, drop, get_or, append_assoc, arith, ap, sym, ◌∙◌, refl, Result, Ok, Err}
use Rattle.std.proofs.lemmas.List.{at_drop_more, at_drop_all, drop-drop}
use Rattle.cga_lexer.specs.declared.token.Token.{Token}
use Rattle.cga_lexer.specs.declared.fault.LexFault.{LexFault}
use Rattle.cga_lexer.specs.declared.front.Front.{Front}
use Rattle.cga_lexer.specs.declared.token.TokenKind.{TokenKind}
use Rattle.cga_lexer.specs.declared.front.Front.TheVariants.{Token as Found}
use Rattle.cga_lexer.specs.Line.{lex, from_front, behind, with_found, Rise}
use Rattle.cga_lexer.specs.Front.{front}

-- where a token goes on for so many bytes that are left, the tokens are those from the place behind them on
pub lex_skip : (n place : ℕ) (bs : List ℕ) → n ≤ length bs → lex n place bs ≡ lex 0 (place + n) (drop n bs)
unfolding lex
lex_skip zero place bs h = let e : place ≡ place + 0 = omega arith in ap (λ p. lex 0 p bs) e
lex_skip (suc n) place [] h = absurd (omega arith)
lex_skip (suc n) place (b ∷ bs) h = let e : place + 1 + n ≡ place + suc n = omega arith in lex_skip n (place + 1) bs (omega arith) ∙ ap (λ p. lex 0 p (drop n bs)) e

-- where a byte is left and no token goes on, the tokens are what the front there makes of the rest
pub lex_head : (place b : ℕ) (bs : List ℕ)
    → lex 0 place (b ∷ bs) ≡ from_front (front (b ∷ bs)) place (λ n. lex n (place + 1) bs)
unfolding lex
lex_head place b bs = refl

-- at a place within a line the tokens from there on are what the front there makes of the rest
pub lex_turn : (line : List ℕ) (at : ℕ) → at < length line
    → lex 0 (at + 1) (drop at line) ≡ from_front (front (drop at line)) (at + 1)
    (λ n. lex n (at + 1 + 1) (drop (at + 1) line))
lex_turn line at h =
    let a : lex 0 (at + 1) (drop at line) ≡ lex 0 (at + 1) (get_or line at 0 ∷ drop (at + 1) line) = at_drop_more (λ r. lex 0 (at + 1) r) line at 0 h in
    let b : front (drop at line) ≡ front (get_or line at 0 ∷ drop (at + 1) line) = at_drop_more (λ r. front r) line at 0 h in
    a ∙ lex_head (at + 1) (get_or line at 0) (drop (at + 1) line) ∙ ap (λ f. from_front f (at + 1) (λ n. lex n (at + 1 + 1) (drop (at + 1) line))) (sym b)

nil_right : (xs : List Token) → xs ++ [] ≡ xs
nil_right [] = refl
nil_right (x ∷ xs) = ap (λ z. x ∷ z) (nil_right xs)

with_behind : (xs : List Token) (t : Token) (o : Result (List Token) LexFault)
    → with_found xs (behind t o) ≡ with_found (xs ++ t ∷ []) o
with_behind xs t (Ok ts) = ap Ok (sym (append_assoc xs (t ∷ []) ts))
with_behind xs t (Err f) = refl

module _ (line : List ℕ) (at : ℕ) (h : at < length line) (xs : List Token) (r : Result (List Token) LexFault) (read : r ≡ with_found xs (lex 0 (at + 1) (drop at line))) where
  pub seen : (f : Front) → front (drop at line) ≡ f
      → r ≡ with_found xs (from_front f (at + 1) (λ n. lex n (at + 1 + 1) (drop (at + 1) line)))
  seen f e = read ∙ ap (with_found xs) (lex_turn line at h ∙ ap (λ g. from_front g (at + 1) (λ n. lex n (at + 1 + 1) (drop (at + 1) line))) e)

  pub token_seen : (k : TokenKind) (len : ℕ) → front (drop at line) ≡ Found k len → 0 < len → at + len ≤ length line →
      r ≡ with_found (xs ++ record { kind = k; from = at + 1; to = at + 1 + len } ∷ []) (lex 0 (at + len + 1) (drop (at + len) line))
  token_seen k len e some fits =
      let place : at + 1 + 1 + (len - 1) ≡ at + len + 1 = omega arith in
      let rest : at + 1 + (len - 1) ≡ at + len = omega arith in
      seen (Found k len) e ∙ with_behind xs (record { kind = k; from = at + 1; to = at + 1 + len }) (lex (len - 1) (at + 1 + 1) (drop (at + 1) line))
      ∙ ap (with_found (xs ++ record { kind = k; from = at + 1; to = at + 1 + len } ∷ [])) (lex_skip (len - 1) (at + 1 + 1) (drop (at + 1) line) (omega (arith, length-drop (at + 1) line))
      ∙ ap (λ z. lex 0 (at + 1 + 1 + (len - 1)) z) (drop-drop (len - 1) (at + 1) line ∙ ap (λ n. drop n line) rest) ∙ ap (λ n. lex 0 n (drop (at + len) line)) place)

pub all_found : (xs : List Token) → with_found xs (Ok []) ≡ Ok xs
all_found xs = ap Ok (nil_right xs)

-- no bytes have no tokens
pub lex_nil : (place : ℕ) → lex 0 place [] ≡ Ok []
unfolding lex
lex_nil place = refl

-- past the end of a line the tokens are those that were found
pub ended : (line : List ℕ) (at : ℕ) → length line ≤ at → (xs : List Token)
    → with_found xs (lex 0 (at + 1) (drop at line)) ≡ Ok xs
ended line at h xs =
    let a : lex 0 (at + 1) (drop at line) ≡ lex 0 (at + 1) [] = at_drop_all (λ r. lex 0 (at + 1) r) line at h in
    ap (with_found xs) (a ∙ lex_nil (at + 1)) ∙ all_found xs

pub rise_further : (place : ℕ) (ts : List Token) (last more : ℕ) → Rise place ts last → last ≤ more → Rise place ts more
rise_further place [] last more h le = omega arith
rise_further place (t ∷ ts) last more h le = (h.0, h.1, rise_further t.to ts last more h.2 le)

pub rise_behind : (place : ℕ) (ts : List Token) (last : ℕ) (t : Token) → Rise place ts last → last ≤ t.from
    → t.from < t.to → Rise place (ts ++ t ∷ []) t.to
rise_behind place [] last t h le lt = (omega arith, lt, omega arith)
rise_behind place (s ∷ ts) last t h le lt = (h.0, h.1, rise_behind s.to ts last t h.2 le lt)
