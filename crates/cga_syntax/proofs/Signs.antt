-- What stands at the front of a text that begins with the bytes of a token.
use Rattle.std.proofs.Common.{◌≡◌, ℕ, suc, ◌+◌, ◌==◌, ◌||◌, Bool, true, false, List, [], ◌∷◌, ◌++◌, length}
use Rattle.std.proofs.Common.{length-append, append_assoc, Option, Some, None, Ok, arith, ap, sym, ◌∙◌, refl}
use Rattle.std.proofs.Common.{if◌then◌else◌}
use Rattle.std.specs.Prelude.{◌⊎◌, is_some}
use Rattle.std.proofs.Common.{inl, inr}
use Rattle.std.proofs.lemmas.Bool.Decides.{nat_tests}
use Rattle.cga_word.specs.Name.{continues_name, is_name}
use Rattle.cga_fraction.specs.Rat.{Rat}
use Rattle.cga_fraction.specs.Decimals.{decimal_of, is_point, IsLiteral}
use Rattle.cga_fraction.specs.Texts.{literal_text_of}
use Rattle.cga_fraction.proofs.Door.{literal_is_shortest}
use Rattle.cga_lexer.specs.Bytes.{begins}
use Rattle.cga_lexer.specs.Front.{front, sign_of, single, pair, short, long_or}
use Rattle.cga_lexer.specs.declared.sign.Sign.{Sign}
use Rattle.cga_lexer.specs.declared.sign.Sign.TheVariants as s
use Rattle.cga_lexer.specs.declared.token.TokenKind.{TokenKind}
use Rattle.cga_lexer.specs.declared.token.TokenKind.TheVariants as kind
use Rattle.cga_lexer.specs.declared.front.Front.TheVariants.{Token}
use Rattle.cga_syntax.specs.Lexemes.{lexeme_of, keyword_of, keyword_bytes, word_lexeme}
use Rattle.cga_syntax.specs.Printing.{sign_bytes, lexeme_bytes, opens_up}
use Rattle.cga_syntax.specs.Reading.{IsToken}
use Rattle.cga_syntax.specs.declared.keyword.Keyword.{Keyword}
use Rattle.cga_syntax.specs.declared.keyword.Keyword.TheVariants as k
use Rattle.cga_syntax.specs.declared.lexeme.Lexeme.{Lexeme}
use Rattle.cga_syntax.specs.declared.lexeme.Lexeme.TheVariants as lexeme
use Rattle.cga_syntax.proofs.Fronts.{number_front, relative_front, word_front, text_front}

-- the second byte of a sign of two
abbrev pub second : ℕ → Bool
second c = c == 62 || c == 61

-- what follows doesn't go on with the sign
abbrev pub Alone : Sign → List ℕ → Type 0
Alone sign rest = (opens_up sign ≡ true) ⊎ (begins second rest ≡ false)

-- what follows doesn't go on with the token
abbrev pub Ends : Lexeme → List ℕ → Type 0
Ends (lexeme.Number value) rest = (begins continues_name rest ≡ false) × (begins is_point rest ≡ false)
Ends (lexeme.Relative value) rest = begins continues_name rest ≡ false
Ends (lexeme.Keyword word) rest = begins continues_name rest ≡ false
Ends (lexeme.Name name) rest = begins continues_name rest ≡ false
Ends (lexeme.Text name) rest = Unit {0}
Ends (lexeme.Sign sign) rest = Alone sign rest

-- ---- signs

lone : (b : ℕ) (rest : List ℕ) → ((c : ℕ) → pair b c ≡ None) → sign_of b rest ≡ short (single b)
unfolding sign_of
lone b [] h = refl
lone b (c ∷ cs) h = ap (λ p. long_or p (short (single b))) (h c)

apart : (b : ℕ) (rest : List ℕ) → begins second rest ≡ false → ((c : ℕ) → second c ≡ false → pair b c ≡ None)
    → sign_of b rest ≡ short (single b)
unfolding sign_of
apart b [] e h = refl
apart b (c ∷ cs) e h = ap (λ p. long_or p (short (single b))) (h c e)

not_greater : (c : ℕ) → second c ≡ false → (c == 62) ≡ false
not_greater c e = grind (arith, nat_tests)

not_equal : (c : ℕ) → second c ≡ false → (c == 61) ≡ false
not_equal c e = grind (arith, nat_tests)

after_it : (sign : Sign) (rest : List ℕ) → opens_up sign ≡ false → Alone sign rest → begins second rest ≡ false
after_it sign rest e (inl h) = absurd (let q : true ≡ false = sym h ∙ e in cc)
after_it sign rest e (inr h) = h

sign_front : (sign : Sign) (rest : List ℕ) → Alone sign rest
    → front (sign_bytes sign ++ rest) ≡ Token (kind.Sign sign) (length (sign_bytes sign))
unfolding front sign_of
sign_front s.LeftRound rest h = lone 40 rest (λ c. refl)
sign_front s.RightRound rest h = lone 41 rest (λ c. refl)
sign_front s.LeftSquare rest h = lone 91 rest (λ c. refl)
sign_front s.RightSquare rest h = lone 93 rest (λ c. refl)
sign_front s.LeftCurly rest h = lone 123 rest (λ c. refl)
sign_front s.RightCurly rest h = lone 125 rest (λ c. refl)
sign_front s.Comma rest h = lone 44 rest (λ c. refl)
sign_front s.Colon rest h = lone 58 rest (λ c. refl)
sign_front s.Bar rest h = lone 124 rest (λ c. refl)
sign_front s.Plus rest h = lone 43 rest (λ c. refl)
sign_front s.Minus rest h = apart 45 rest (after_it s.Minus rest refl h) (λ c e. ap (λ t. if t then Some s.Arrow else None) (not_greater c e))
sign_front s.Star rest h = lone 42 rest (λ c. refl)
sign_front s.Slash rest h = lone 47 rest (λ c. refl)
sign_front s.Dot rest h = lone 46 rest (λ c. refl)
sign_front s.Assign rest h = apart 61 rest (after_it s.Assign rest refl h) (λ c e. ap (λ t. if t then Some s.Equal else None) (not_equal c e))
sign_front s.Arrow rest h = refl
sign_front s.Equal rest h = refl
sign_front s.Unequal rest h = refl
sign_front s.Less rest h = apart 60 rest (after_it s.Less rest refl h) (λ c e. ap (λ t. if t then Some s.AtMost else None) (not_equal c e))
sign_front s.AtMost rest h = refl
sign_front s.Greater rest h = apart 62 rest (after_it s.Greater rest refl h) (λ c e. ap (λ t. if t then Some s.AtLeast else None) (not_equal c e))
sign_front s.AtLeast rest h = refl

-- ---- words

pub keyword_is_name : (word : Keyword) → is_name (keyword_bytes word) ≡ true
keyword_is_name k.T = refl
keyword_is_name k.S = refl
keyword_is_name k.Rx = refl
keyword_is_name k.Ry = refl
keyword_is_name k.Rz = refl
keyword_is_name k.I = refl
keyword_is_name k.Subdiv = refl
keyword_is_name k.Repeat = refl
keyword_is_name k.Comp = refl
keyword_is_name k.Nil = refl
keyword_is_name k.Scope = refl
keyword_is_name k.Rand = refl
keyword_is_name k.Floor = refl
keyword_is_name k.Ceil = refl
keyword_is_name k.And = refl
keyword_is_name k.Or = refl
keyword_is_name k.Not = refl

keyword_is_known : (word : Keyword) → keyword_of (keyword_bytes word) ≡ Some word
unfolding keyword_of
keyword_is_known k.T = refl
keyword_is_known k.S = refl
keyword_is_known k.Rx = refl
keyword_is_known k.Ry = refl
keyword_is_known k.Rz = refl
keyword_is_known k.I = refl
keyword_is_known k.Subdiv = refl
keyword_is_known k.Repeat = refl
keyword_is_known k.Comp = refl
keyword_is_known k.Nil = refl
keyword_is_known k.Scope = refl
keyword_is_known k.Rand = refl
keyword_is_known k.Floor = refl
keyword_is_known k.Ceil = refl
keyword_is_known k.And = refl
keyword_is_known k.Or = refl
keyword_is_known k.Not = refl

none_of : (o : Option Keyword) → is_some o ≡ false → o ≡ None
none_of None h = refl
none_of (Some word) h = absurd (let q : true ≡ false = h in cc)

-- ---- any token

pub record Seen (l : Lexeme) (bytes rest : List ℕ) : Type 0 where
  pub kind : TokenKind
  pub there : front (bytes ++ rest) ≡ Token kind (length bytes)
  pub is : lexeme_of kind ≡ l

literal_reads : (value : Rat) → IsLiteral value → decimal_of (literal_text_of value) ≡ Ok value
literal_reads value h = (literal_is_shortest value h).reads

pub token_front : (l : Lexeme) (rest : List ℕ) → IsToken l → Ends l rest → Seen l (lexeme_bytes l) rest
token_front (lexeme.Number value) rest t e = record { kind = kind.Number value; there = number_front (literal_text_of value) rest value (literal_reads value t) e.0 e.1; is = refl }
token_front (lexeme.Relative value) rest t e =
    let text : List ℕ = literal_text_of value in
    record {
      kind = kind.Relative value;
      there = ap front (append_assoc text (114 ∷ []) rest) ∙ relative_front text rest value (literal_reads value t) e ∙ ap (Token (kind.Relative value)) (sym (length-append text (114 ∷ [])));
      is = refl;
    }
token_front (lexeme.Keyword word) rest t e = record {
  kind = kind.Word (keyword_bytes word);
  there = word_front
      (keyword_bytes word) rest (keyword_is_name word) e;
  is = ap (word_lexeme (keyword_bytes word)) (keyword_is_known word);
}
token_front (lexeme.Name name) rest t e = record { kind = kind.Word name; there = word_front name rest t.0 e; is = ap (word_lexeme name) (none_of (keyword_of name) t.1) }
token_front (lexeme.Text name) rest t e =
    let len : length name + 2 ≡ suc (length (name ++ 34 ∷ [])) = omega (arith, length-append name (34 ∷ [])) in
    record {
      kind = kind.Text name;
      there = ap (λ z. front (34 ∷ z)) (append_assoc name (34 ∷ []) rest) ∙ text_front name rest t ∙ ap (Token (kind.Text name)) len;
      is = refl;
    }
token_front (lexeme.Sign sign) rest t e = record { kind = kind.Sign sign; there = sign_front sign rest e; is = refl }
