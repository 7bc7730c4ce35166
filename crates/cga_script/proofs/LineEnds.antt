-- How the end of a block is looked for.
use Rattle.std.proofs.Common.{◌≡◌, ℕ, ◌+◌, ◌-◌, ◌<◌, ◌≤◌, ◌&&◌, ◌↔◌, Bool, true, false, not, IsTrue, List, [], ◌∷◌, length, length-drop, drop, arith, ap, sym, ◌∙◌, refl, Ok, Err, codes}
use Rattle.std.proofs.lemmas.List.{drop-drop}
use Rattle.cga_lexer.specs.declared.token.Token.{Token}
use Rattle.cga_lexer.specs.declared.token.TokenKind.{TokenKind}
use Rattle.cga_lexer.specs.declared.fault.LexFault.{LexFault}
use Rattle.cga_lexer.specs.declared.front.Front.{Front}
use Rattle.cga_lexer.specs.declared.front.Front.TheVariants.{Token as Found}
use Rattle.cga_lexer.specs.Front.{front}
use Rattle.cga_lexer.specs.Line.{Lexed, lex, from_front, behind, with_found, tokens_of}
use Rattle.cga_form.proofs.Door.{word_is}
use Rattle.cga_lexer.proofs.Door.{ended, lex_skip, lex_turn}
use Rattle.cga_syntax.specs.Lexemes.{lexeme_of}
use Rattle.cga_syntax.specs.declared.lexeme.Lexeme.TheVariants as lexeme
use Rattle.cga_form.specs.Cursor.{seen}
use Rattle.cga_form.specs.Lines.{Line, is_long}
use Rattle.cga_form.specs.Tokens.{is_word}
use Rattle.cga_parser.specs.BlockTells.{EndsBlock}
use Rattle.cga_script.specs.Ends.{are_end, ends_after, is_end_line}
use Rattle.cga_fraction.proofs.Door.{not-and_parts}

-- ---- a turn of the loop

pub nothing_more : (found : Bool) → ends_after found (Ok []) ≡ found
nothing_more true = refl
nothing_more false = refl

pub no_end : (found : Bool) (f : LexFault) → ends_after found (Err f) ≡ false
no_end true f = refl
no_end false f = refl

one_too_many : (t : Token) (o : Lexed) → ends_after true (behind t o) ≡ false
one_too_many t (Ok ts) = refl
one_too_many t (Err f) = refl

other_word : (t : Token) (o : Lexed) → is_word (codes "end") (seen t) ≡ false → ends_after false (behind t o) ≡ false
other_word t (Ok []) e = e
other_word t (Ok (u ∷ us)) e = refl
other_word t (Err f) e = refl

end_word : (t : Token) (o : Lexed) → is_word (codes "end") (seen t) ≡ true
    → ends_after false (behind t o) ≡ ends_after true o
end_word t (Ok []) e = e
end_word t (Ok (u ∷ us)) e = refl
end_word t (Err f) e = refl

found_none : (o : Lexed) → with_found [] o ≡ Ok [] → o ≡ Ok []
found_none (Ok ts) e = e
found_none (Err f) e = e

module _ (line : List ℕ) (at : ℕ) (found r : Bool) (read : r ≡ ends_after found (lex 0 (at + 1) (drop at line))) where
  pub at_end : length line ≤ at → r ≡ found
  at_end h = read ∙ ap (ends_after found) (found_none (lex 0 (at + 1) (drop at line)) (ended line at h [])) ∙ nothing_more found

  module _ (h : at < length line) where
    pub turn : (f : Front) → front (drop at line) ≡ f
        → r ≡ ends_after found (from_front f (at + 1) (λ n. lex n (at + 1 + 1) (drop (at + 1) line)))
    turn f e = read ∙ ap (ends_after found) (lex_turn line at h ∙ ap (λ g. from_front g (at + 1) (λ n. lex n (at + 1 + 1) (drop (at + 1) line))) e)

behind_token : (line : List ℕ) (at len : ℕ) → 0 < len → at + len ≤ length line
    → lex (len - 1) (at + 1 + 1) (drop (at + 1) line) ≡ lex 0 (at + len + 1) (drop (at + len) line)
behind_token line at len some fits =
    let place : at + 1 + 1 + (len - 1) ≡ at + len + 1 = omega arith in
    let rest : at + 1 + (len - 1) ≡ at + len = omega arith in
    lex_skip (len - 1) (at + 1 + 1) (drop (at + 1) line) (omega (arith, length-drop (at + 1) line))
    ∙ ap (λ z. lex 0 (at + 1 + 1 + (len - 1)) z) (drop-drop (len - 1) (at + 1) line ∙ ap (λ n. drop n line) rest) ∙ ap (λ n. lex 0 n (drop (at + len) line)) place

module _ (line : List ℕ) (at : ℕ) (found r : Bool) (read : r ≡ ends_after found (lex 0 (at + 1) (drop at line)))
    (h : at < length line) (k : TokenKind) (len : ℕ) (e : front (drop at line) ≡ Found k len) where
  abbrev here : Token
  here = record { kind = k; from = at + 1; to = at + 1 + len }

  abbrev rest : Lexed
  rest = lex (len - 1) (at + 1 + 1) (drop (at + 1) line)

  after_token : (b : Bool) → found ≡ b → r ≡ ends_after b (behind here rest)
  after_token b q = turn line at found r read h (Found k len) e ∙ ap (λ z. ends_after z (behind here rest)) q

  -- a token after the word
  pub twice : found ≡ true → r ≡ false
  twice q = after_token true q ∙ one_too_many here rest

  -- another token
  pub other : found ≡ false → is_word (codes "end") (lexeme_of k) ≡ false → r ≡ false
  other q w = after_token false q ∙ other_word here rest w

  -- the word
  pub word : found ≡ false → is_word (codes "end") (lexeme_of k) ≡ true → 0 < len → at + len ≤ length line
      → r ≡ ends_after true (lex 0 (at + len + 1) (drop (at + len) line))
  word q w some fits = after_token false q ∙ end_word here rest w ∙ ap (ends_after true) (behind_token line at len some fits)

-- ---- what the end is

just_end : (o : Lexed) → are_end o ≡ true → (t : Token) × (o ≡ Ok (t ∷ [])) × (seen t ≡ lexeme.Name (codes "end"))
just_end (Ok []) e = absurd (let q : false ≡ true = e in cc)
just_end (Ok (t ∷ [])) e = (t, refl, word_is (codes "end") (seen t) e)
just_end (Ok (t ∷ u ∷ us)) e = absurd (let q : false ≡ true = e in cc)
just_end (Err f) e = absurd (let q : false ≡ true = e in cc)

end_again : (l : Line) → EndsBlock l → is_end_line l ≡ true
end_again l h =
    ap (λ b. not b && are_end (tokens_of l.bytes)) h.1 ∙ ap are_end h.2 ∙ ap (is_word (codes "end")) h.3

end_only : (l : Line) → is_end_line l ≡ true → EndsBlock l
end_only l e =
    let p = not-and_parts (is_long l) (are_end (tokens_of l.bytes)) e in
    let q = just_end (tokens_of l.bytes) p.1 in
    (q.0, p.0, q.1, q.2)

pub end_exactly : (l : Line) (b : Bool) → b ≡ is_end_line l → IsTrue b ↔ EndsBlock l
end_exactly l b e = (λ h. end_only l (sym e ∙ h), λ h. e ∙ end_again l h)
