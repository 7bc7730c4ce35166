-- What single tokens stand for, and how they are written.
use Rattle.std.proofs.Common.{◌≡◌, ℕ, zero, suc, ◌==◌, ◌&&◌, nat_le, Bool, true, false, List, [], ◌∷◌, Option, Some, None, refl, ap, sym, ◌∙◌, if◌then◌else◌, ℤ, pos, negsuc}
use Rattle.std.proofs.lemmas.Bool.{eqb-true}
use Rattle.cga_fraction.specs.Rat.{Rat, of_int}
use Rattle.cga_lexer.specs.declared.sign.Sign.{Sign}
use Rattle.cga_lexer.specs.declared.sign.Sign.TheVariants as s
use Rattle.cga_syntax.specs.Lexemes.{is, is_reserved, keyword_of}
use Rattle.cga_syntax.specs.declared.keyword.Keyword.{Keyword}
use Rattle.cga_syntax.specs.declared.keyword.Keyword.TheVariants as k
use Rattle.cga_syntax.specs.declared.lexeme.Lexeme.{Lexeme}
use Rattle.cga_syntax.specs.declared.lexeme.Lexeme.TheVariants as lexeme
use Rattle.cga_syntax.specs.declared.print.space.Space.{Space}
use Rattle.cga_syntax.specs.declared.print.space.Space.TheVariants.{Usual}
use Rattle.cga_syntax.specs.Pieces.{token, never, plain, Pieces, named, word, whole, number}
use Rattle.cga_syntax.specs.Brackets.{counted, bracket_of, bracket_of_sign, opens}
use Rattle.cga_form.specs.Tokens.{sign_number, keyword_number, is_sign, is_keyword, passing, a_sign, a_keyword, unless, when, a_name, whole_of, whole_parts, bounded, a_whole, a_number, is_word}
use Rattle.cga_form.specs.Parts.{a_word}
use Rattle.cga_form.proofs.Forms.{Token, Opening}
use Rattle.cga_fraction.proofs.Door.{eq_from_pointwise}

sign_at : ℕ → Sign
sign_at n =
    if n == 0 then s.LeftRound
    else if n == 1 then s.RightRound
    else if n == 2 then s.LeftSquare
    else if n == 3 then s.RightSquare
    else if n == 4 then s.LeftCurly
    else if n == 5 then s.RightCurly
    else if n == 6 then s.Comma
    else if n == 7 then s.Colon
    else if n == 8 then s.Bar
    else if n == 9 then s.Plus
    else if n == 10 then s.Minus
    else if n == 11 then s.Star
    else if n == 12 then s.Slash
    else if n == 13 then s.Dot
    else if n == 14 then s.Assign
    else if n == 15 then s.Arrow
    else if n == 16 then s.Equal
    else if n == 17 then s.Unequal
    else if n == 18 then s.Less
    else if n == 19 then s.AtMost
    else if n == 20 then s.Greater
    else s.AtLeast

sign_again : (x : Sign) → sign_at (sign_number x) ≡ x
unfolding sign_at
sign_again s.LeftRound = refl
sign_again s.RightRound = refl
sign_again s.LeftSquare = refl
sign_again s.RightSquare = refl
sign_again s.LeftCurly = refl
sign_again s.RightCurly = refl
sign_again s.Comma = refl
sign_again s.Colon = refl
sign_again s.Bar = refl
sign_again s.Plus = refl
sign_again s.Minus = refl
sign_again s.Star = refl
sign_again s.Slash = refl
sign_again s.Dot = refl
sign_again s.Assign = refl
sign_again s.Arrow = refl
sign_again s.Equal = refl
sign_again s.Unequal = refl
sign_again s.Less = refl
sign_again s.AtMost = refl
sign_again s.Greater = refl
sign_again s.AtLeast = refl

same_sign : (x y : Sign) → (sign_number x == sign_number y) ≡ true → y ≡ x
same_sign x y e = sym (sign_again y) ∙ ap sign_at (sym (eqb-true (sign_number x) (sign_number y) e)) ∙ sign_again x

pub sign_is : (x : Sign) (l : Lexeme) → is_sign x l ≡ true → l ≡ lexeme.Sign x
sign_is x (lexeme.Sign y) e = ap lexeme.Sign (same_sign x y e)
sign_is x _ e = absurd (let q : false ≡ true = e in cc)

keyword_at : ℕ → Keyword
keyword_at n =
    if n == 0 then k.T
    else if n == 1 then k.S
    else if n == 2 then k.Rx
    else if n == 3 then k.Ry
    else if n == 4 then k.Rz
    else if n == 5 then k.I
    else if n == 6 then k.Subdiv
    else if n == 7 then k.Repeat
    else if n == 8 then k.Comp
    else if n == 9 then k.Nil
    else if n == 10 then k.Scope
    else if n == 11 then k.Rand
    else if n == 12 then k.Floor
    else if n == 13 then k.Ceil
    else if n == 14 then k.And
    else if n == 15 then k.Or
    else k.Not

keyword_again : (x : Keyword) → keyword_at (keyword_number x) ≡ x
unfolding keyword_at
keyword_again k.T = refl
keyword_again k.S = refl
keyword_again k.Rx = refl
keyword_again k.Ry = refl
keyword_again k.Rz = refl
keyword_again k.I = refl
keyword_again k.Subdiv = refl
keyword_again k.Repeat = refl
keyword_again k.Comp = refl
keyword_again k.Nil = refl
keyword_again k.Scope = refl
keyword_again k.Rand = refl
keyword_again k.Floor = refl
keyword_again k.Ceil = refl
keyword_again k.And = refl
keyword_again k.Or = refl
keyword_again k.Not = refl

same_keyword : (x y : Keyword) → (keyword_number x == keyword_number y) ≡ true → y ≡ x
same_keyword x y e = sym (keyword_again y) ∙ ap keyword_at (sym (eqb-true (keyword_number x) (keyword_number y) e)) ∙ keyword_again x

pub keyword_is : (x : Keyword) (l : Lexeme) → is_keyword x l ≡ true → l ≡ lexeme.Keyword x
keyword_is x (lexeme.Keyword y) e = ap lexeme.Keyword (same_keyword x y e)
keyword_is x _ e = absurd (let q : false ≡ true = e in cc)

passed : (b : Bool) (a : Unit {0}) → passing b ≡ Some a → b ≡ true
passed true a e = refl
passed false a e = absurd (cc)

-- ---- the tokens of signs and keywords

-- a token that is taken as a sign is that sign
pub a_sign_is : (x : Sign) (l : Lexeme) (a : Unit {0}) → a_sign x l ≡ Some a → l ≡ lexeme.Sign x
a_sign_is x l a e = sign_is x l (passed (is_sign x l) a e)

-- a token that is taken as a reserved word is that word
pub a_keyword_is : (x : Keyword) (l : Lexeme) (a : Unit {0}) → a_keyword x l ≡ Some a → l ≡ lexeme.Keyword x
a_keyword_is x l a e = keyword_is x l (passed (is_keyword x l) a e)

-- the one piece of a token with its space
abbrev pub as_token : Space → Lexeme → Unit {0} → Pieces
as_token sp l _ = token sp l ∷ []

-- where a sign is taken as itself and counts brackets so, what is taken as it is written as its token
pub sign_token : (sp : Space) (x : Sign) (n m : ℕ) → a_sign x (lexeme.Sign x) ≡ Some tt
    → counted (bracket_of_sign x) n ≡ Some m → Token n m (as_token sp (lexeme.Sign x)) (a_sign x)
sign_token sp x n m r h = record {
  means = λ l a e. (sp, ap (λ z. token sp z ∷ []) (sym (a_sign_is x l a e)));
  counts = λ l a e. ap (λ z. counted (bracket_of z) n) (a_sign_is x l a e) ∙ h;
  some = (lexeme.Sign x, tt, r);
}

-- where a reserved word is taken as itself, what is taken as it is written as its token
pub keyword_token : (x : Keyword) (n : ℕ) → a_keyword x (lexeme.Keyword x) ≡ Some tt
    → Token n n (as_token Usual (lexeme.Keyword x)) (a_keyword x)
keyword_token x n r = record {
  means = λ l a e. (Usual, ap (λ z. token Usual z ∷ []) (sym (a_keyword_is x l a e)));
  counts = λ l a e. ap (λ z. counted (bracket_of z) n) (a_keyword_is x l a e);
  some = (lexeme.Keyword x, tt, r);
}

-- where a sign is taken as itself and opens, it is an opening bracket
pub opening : (x : Sign) → a_sign x (lexeme.Sign x) ≡ Some tt → bracket_of_sign x ≡ opens
    → Opening (as_token Usual (lexeme.Sign x)) (a_sign x)
opening x r h = record {
  means = λ l e. (Usual, ap (λ z. token Usual z ∷ []) (sym (a_sign_is x l tt e)));
  is = λ l e. ap bracket_of (a_sign_is x l tt e) ∙ h;
  some = (lexeme.Sign x, r);
}

-- ---- names and numbers

-- a token that a value determines
pub by_token : {A : Type 0} (sp : Space) (enc : A → Lexeme) (decode : Lexeme → Option A) (n : ℕ)
    → ((l : Lexeme) (a : A) → decode l ≡ Some a → l ≡ enc a) → ((a : A) → counted (bracket_of (enc a)) n ≡ Some n)
    → (a : A) → decode (enc a) ≡ Some a →
    Token n n (λ a. token sp (enc a) ∷ []) decode
by_token sp enc decode n sound count a r = record {
  means = λ l b e. (sp, ap (λ z. token sp z ∷ []) (sym (sound l b e)));
  counts = λ l b e. ap (λ z. counted (bracket_of z) n) (sound l b e) ∙ count b;
  some = (enc a, a, r);
}

unless_is : {A : Type 0} (b : Bool) (x a : A) → unless b x ≡ Some a → (b ≡ false) × (x ≡ a)
unless_is true x a e = absurd (cc)
unless_is false x a e = (refl, cc)

when_is : {A : Type 0} (b : Bool) (x a : A) → when b x ≡ Some a → (b ≡ true) × (x ≡ a)
when_is true x a e = (refl, cc)
when_is false x a e = absurd (cc)

-- the pieces of a name that isn't reserved
pub named_is : (name : List ℕ) → is_reserved name ≡ false → named name ≡ word name
named_is name e = ap (λ b. if b then never else word name) e

name_means : (l : Lexeme) (a : List ℕ) → a_name l ≡ Some a → (s : Space) × (named a ∷ [] ≡ token s l ∷ [])
name_means (lexeme.Name name) a e =
    let t = unless_is (is_reserved name) name a e in
    (Usual, ap (λ z. named z ∷ []) (sym t.1) ∙ ap (λ z. z ∷ []) (named_is name t.0))
name_means _ a e = absurd (cc)

name_counts : (n : ℕ) (l : Lexeme) (a : List ℕ) → a_name l ≡ Some a → counted (bracket_of l) n ≡ Some n
name_counts n (lexeme.Name name) a e = refl
name_counts n _ a e = absurd (cc)

-- a name by itself
abbrev pub name_pieces : List ℕ → Pieces
name_pieces a = named a ∷ []

-- what is taken as a name is written as its token
pub name_token : (n : ℕ) → Token n n name_pieces a_name
unfolding keyword_of
name_token n = record { means = name_means; counts = name_counts n; some = (lexeme.Name (97 ∷ []), 97 ∷ [], refl) }

-- a whole number as its token
pub whole_value : (z : ℤ) (d a : ℕ) → whole_parts z d ≡ Some a
    → ◌≡◌ {A = Rat} (record { num = z; above = d }) (of_int (pos a))
whole_value (pos n) zero a e = let q : n ≡ a = cc in ap (λ m. of_int (pos m)) q
whole_value (pos n) (suc d) a e = absurd (cc)
whole_value (negsuc n) d a e = absurd (cc)

bounded_is : (low high a : ℕ) (o : Option ℕ) → bounded low high o ≡ Some a
    → ((nat_le low a && nat_le a high) ≡ true) × (o ≡ Some a)
bounded_is low high a None e = absurd (cc)
bounded_is low high a (Some n) e =
    let t = when_is (nat_le low n && nat_le n high) n a e in
    (ap (λ m. nat_le low m && nat_le m high) (sym t.1) ∙ t.0, ap Some t.1)

pub whole_is : (low high a : ℕ) → (nat_le low a && nat_le a high) ≡ true → whole low high a ≡ plain (number a)
whole_is low high a e = ap (λ b. if b then plain (number a) else never) e

whole_means : (low high : ℕ) (l : Lexeme) (a : ℕ) → a_whole low high l ≡ Some a
    → (s : Space) × (whole low high a ∷ [] ≡ token s l ∷ [])
whole_means low high (lexeme.Number value) a e =
    let t = bounded_is low high a (whole_of value) e in
    (Usual, ap (λ z. z ∷ []) (whole_is low high a t.0) ∙ ap (λ z. plain (lexeme.Number z) ∷ []) (sym (whole_value value.num value.above a t.1)))
whole_means low high _ a e = absurd (cc)

whole_counts : (low high n : ℕ) (l : Lexeme) (a : ℕ) → a_whole low high l ≡ Some a → counted (bracket_of l) n ≡ Some n
whole_counts low high n (lexeme.Number value) a e = refl
whole_counts low high n _ a e = absurd (cc)

abbrev pub whole_pieces : ℕ → ℕ → ℕ → Pieces
whole_pieces low high a = whole low high a ∷ []

-- where the lower bound is taken as itself, what is taken as a whole number in bounds is written as its token
pub whole_token : (low high n : ℕ) → a_whole low high (number low) ≡ Some low
    → Token n n (whole_pieces low high) (a_whole low high)
whole_token low high n r = record { means = whole_means low high; counts = whole_counts low high n; some = (number low, low, r) }

-- any number
number_is : (l : Lexeme) (a : Rat) → a_number l ≡ Some a → l ≡ lexeme.Number a
number_is (lexeme.Number value) a e = let q : value ≡ a = cc in ap lexeme.Number q
number_is _ a e = absurd (cc)

-- what is taken as a number is written as its token
pub number_token : (n : ℕ) → Token n n (λ a. plain (lexeme.Number a) ∷ []) a_number
number_token n = by_token Usual lexeme.Number a_number n number_is (λ a. refl) (of_int (pos 1)) refl

-- ---- words that forms name

-- the first of several words
pub pick : {A : Type 0} (enc : A → List ℕ) (name : List ℕ) (x : A) (t : Bool) (rest : Option A) (a : A)
    → is name (enc x) ≡ t → (rest ≡ Some a → name ≡ enc a) → (if t then Some x else rest) ≡ Some a → name ≡ enc a
pick enc name x true rest a e h q = let p : x ≡ a = cc in eq_from_pointwise name (enc x) e ∙ ap enc p
pick enc name x false rest a e h q = h q

-- where no word is left to pick, whatever is picked has the name's bytes
pub no_more : {A : Type 0} (enc : A → List ℕ) (name : List ℕ) (a : A) → ◌≡◌ {A = Option A} None (Some a) → name ≡ enc a
no_more enc name a e = absurd (cc)

-- a token that passes the test for a word is the name of its bytes
pub word_is : (bytes : List ℕ) (l : Lexeme) → is_word bytes l ≡ true → l ≡ lexeme.Name bytes
word_is bytes (lexeme.Name name) e = ap lexeme.Name (eq_from_pointwise name bytes e)
word_is bytes _ e = absurd (let q : false ≡ true = e in cc)

a_word_is : (bytes : List ℕ) (l : Lexeme) (a : Unit {0}) → a_word bytes l ≡ Some a → l ≡ lexeme.Name bytes
a_word_is bytes l a e = word_is bytes l (passed (is_word bytes l) a e)

abbrev pub word_pieces : List ℕ → Unit {0} → Pieces
word_pieces bytes _ = word bytes ∷ []

-- a word that a form names
pub word_token : (bytes : List ℕ) (n : ℕ) → a_word bytes (lexeme.Name bytes) ≡ Some tt
    → Token n n (word_pieces bytes) (a_word bytes)
word_token bytes n r = record {
  means = λ l a e. (Usual, ap (λ z. token Usual z ∷ []) (sym (a_word_is bytes l a e)));
  counts = λ l a e. ap (λ z. counted (bracket_of z) n) (a_word_is bytes l a e);
  some = (lexeme.Name bytes, tt, r);
}

-- where a name isn't reserved, its token is taken as it
pub name_read : (name : List ℕ) → is_reserved name ≡ false → a_name (lexeme.Name name) ≡ Some name
name_read name e = ap (λ t. unless t name) e
