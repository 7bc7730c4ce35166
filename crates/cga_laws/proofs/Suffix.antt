-- The bytes of a line behind its first token.
use Rattle.std.proofs.Common.{◌≡◌, ℕ, zero, suc, ◌+◌, ◌-◌, ◌≤◌, List, [], ◌∷◌, length, map, Ok, Err, arith, refl, ap, sym, ◌∙◌}
use Rattle.cga_lexer.specs.Front.{front}
use Rattle.cga_lexer.specs.Line.{Lexed, lex, tokens_of, from_front, behind}
use Rattle.cga_lexer.specs.declared.front.Front.{Front}
use Rattle.cga_lexer.specs.declared.front.Front.TheVariants.{End, Blank, Token as Found, BadByte, BadNumber, LongName, OpenText}
use Rattle.cga_lexer.specs.declared.token.Token.{Token}
use Rattle.cga_lexer.specs.declared.token.TokenKind.{TokenKind}

abbrev pub kinds : List Token → List TokenKind
kinds ts = map (λ (t : Token). t.kind) ts

-- what is lexed has these tokens
record AreKinds (o : Lexed) (ts : List Token) : Type 0 where
  us : List Token
  made : o ≡ Ok us
  same : kinds us ≡ kinds ts

module _ (t : Token) (us : List Token) where
  rest_of : (o : Lexed) → behind t o ≡ Ok us → (ts : List Token) × (o ≡ Ok ts) × (us ≡ t ∷ ts)
  rest_of (Ok ts) e = (ts, refl, let q : t ∷ ts ≡ us = cc in sym q)
  rest_of (Err f) e = absurd (cc)

behind_same : (t u : Token) (ts : List Token) (o : Lexed) → t.kind ≡ u.kind → AreKinds o ts
    → AreKinds (behind t o) (u ∷ ts)
behind_same t u ts o e h = record {
  us = t ∷ h.us;
  made = ap (behind t) h.made;
  same = ap (λ k. k ∷ kinds h.us) e ∙ ap (λ ks. u.kind ∷ ks) h.same;
}

-- places don't matter
module _ (place other : ℕ) (on on_other : ℕ → Lexed) (later : (n : ℕ) (ts : List Token) → on n ≡ Ok ts → AreKinds (on_other n) ts) where
  front_same : (f : Front) (ts : List Token) → from_front f place on ≡ Ok ts → AreKinds (from_front f other on_other) ts
  front_same End ts e = record { us = []; made = refl; same = ap kinds (let q : [] ≡ ts = cc in q) }
  front_same Blank ts e = later 0 ts e
  front_same (Found kind len) ts e =
      let r = rest_of (record { kind = kind; from = place; to = place + len }) ts (on (len - 1)) e in
      let k = behind_same (record { kind = kind; from = other; to = other + len }) (record { kind = kind; from = place; to = place + len }) r.0 (on_other (len - 1)) refl (later (len - 1) r.0 r.1) in
      record { us = k.us; made = k.made; same = k.same ∙ ap kinds (sym r.2) }
  front_same (BadByte n) ts e = absurd (cc)
  front_same BadNumber ts e = absurd (cc)
  front_same (LongName n) ts e = absurd (cc)
  front_same OpenText ts e = absurd (cc)

moved : (n place other : ℕ) (bytes : List ℕ) (ts : List Token) → lex n place bytes ≡ Ok ts
    → AreKinds (lex n other bytes) ts
unfolding lex
moved n place other [] ts e = record { us = []; made = refl; same = ap kinds (let q : [] ≡ ts = cc in q) }
moved zero place other (b ∷ bs) ts e =
    front_same place other (λ n. lex n (place + 1) bs) (λ n. lex n (other + 1) bs) (λ n us k. moved n (place + 1) (other + 1) bs us k) (front (b ∷ bs)) ts e
moved (suc n) place other (b ∷ bs) ts e = moved n (place + 1) (other + 1) bs ts e

-- no more bytes, which have these tokens
pub record Shorter (bytes : List ℕ) (ts : List Token) : Type 0 where
  pub rest : List ℕ
  pub few : length rest ≤ length bytes
  pub us : List Token
  pub made : tokens_of rest ≡ Ok us
  pub same : kinds us ≡ kinds ts

longer : (b : ℕ) (bs : List ℕ) (ts : List Token) → Shorter bs ts → Shorter (b ∷ bs) ts
longer b bs ts h = record { rest = h.rest; few = let f = h.few in omega arith; us = h.us; made = h.made; same = h.same }

-- without the bytes that belong to a token that was read
begun : (n place : ℕ) (bytes : List ℕ) (ts : List Token) → lex n place bytes ≡ Ok ts → Shorter bytes ts
unfolding lex
begun n place [] ts e = record { rest = []; few = omega arith; us = []; made = refl; same = ap kinds (let q : [] ≡ ts = cc in q) }
begun zero place (b ∷ bs) ts e =
    let k = moved 0 place 1 (b ∷ bs) ts e in
    record { rest = b ∷ bs; few = omega arith; us = k.us; made = k.made; same = k.same }
begun (suc n) place (b ∷ bs) ts e = longer b bs ts (begun n (place + 1) bs ts e)

-- without the first token
module _ (place b : ℕ) (bs : List ℕ) (t : Token) (ts : List Token) (on : ℕ → Lexed)
    (later : (n : ℕ) (us : List Token) → on n ≡ Ok us → Shorter bs us) (first : on 0 ≡ Ok (t ∷ ts) → Shorter bs ts) where
  front_less : (f : Front) → from_front f place on ≡ Ok (t ∷ ts) → Shorter bs ts
  front_less End e = absurd (let q : [] ≡ t ∷ ts = cc in cc)
  front_less Blank e = first e
  front_less (Found kind len) e =
      let r = rest_of (record { kind = kind; from = place; to = place + len }) (t ∷ ts) (on (len - 1)) e in
      let q : ts ≡ r.0 = let p : t ∷ ts ≡ record { kind = kind; from = place; to = place + len } ∷ r.0 = r.2 in cc in
      later (len - 1) ts (r.1 ∙ ap Ok (sym q))
  front_less (BadByte n) e = absurd (cc)
  front_less BadNumber e = absurd (cc)
  front_less (LongName n) e = absurd (cc)
  front_less OpenText e = absurd (cc)

less : (n place : ℕ) (bytes : List ℕ) (t : Token) (ts : List Token) → lex n place bytes ≡ Ok (t ∷ ts) → Shorter bytes ts
unfolding lex
less n place [] t ts e = absurd (let q : [] ≡ t ∷ ts = cc in cc)
less zero place (b ∷ bs) t ts e =
    longer b bs ts (front_less place b bs t ts (λ n. lex n (place + 1) bs) (λ n us k. begun n (place + 1) bs us k) (λ k. less 0 (place + 1) bs t ts k) (front (b ∷ bs)) e)
less (suc n) place (b ∷ bs) t ts e = longer b bs ts (less n (place + 1) bs t ts e)

pub without_first : (bytes : List ℕ) (t : Token) (ts : List Token) → tokens_of bytes ≡ Ok (t ∷ ts) → Shorter bytes ts
without_first bytes t ts e = less 0 1 bytes t ts e
