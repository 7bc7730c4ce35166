-- The tokens of a line: its numbers are read from a text, and its words are names.
use Rattle.std.proofs.Common.{◌≡◌, ℕ, zero, suc, ◌+◌, ◌-◌, ◌<◌, ◌==◌, ◌&&◌, ◌||◌, Bool, true, false, nat_lt, List, []}
use Rattle.std.proofs.Common.{◌∷◌, length, length-take, take, drop, Option, Some, None, Result, Ok, Err, arith, ap}
use Rattle.std.proofs.Common.{◌∙◌, refl, subst, if◌then◌else◌}
use Rattle.std.specs.Prelude.{is_some}
use Rattle.std.specs.List.{list_all}
use Rattle.std.specs.Char.{is_ascii_digit}
use Rattle.std.proofs.lemmas.Bool.Decides.{nat_tests}
use Rattle.cga_word.specs.Name.{begins_name, continues_name, is_name}
use Rattle.cga_fraction.specs.Rat.{Rat}
use Rattle.cga_fraction.specs.Decimals.{decimal_of}
use Rattle.cga_fraction.specs.declared.fraction.decimal.DecimalFault.{DecimalFault}
use Rattle.cga_lexer.specs.Bytes.{run, begins}
use Rattle.cga_lexer.specs.Front.{front, number, word, quoted, closed, enclosed, valued, number_len, digit_count, is_mark, sign_of, short, long_or, pair, single}
use Rattle.cga_lexer.specs.Line.{Lexed, lex, from_front, behind, tokens_of}
use Rattle.cga_lexer.specs.declared.sign.Sign.{Sign}
use Rattle.cga_lexer.specs.declared.token.Token.{Token as Read}
use Rattle.cga_lexer.specs.declared.token.TokenKind.{TokenKind}
use Rattle.cga_lexer.specs.declared.token.TokenKind.TheVariants as kind
use Rattle.cga_lexer.specs.declared.front.Front.{Front}
use Rattle.cga_lexer.specs.declared.front.Front.TheVariants.{End, Blank, Token, BadByte, BadNumber, LongName, OpenText}
use Rattle.cga_lexer.proofs.Door.{all_run, begun, run_within, word_begun}
use Rattle.cga_syntax.specs.Lexemes.{lexeme_of, keyword_of, word_lexeme}
use Rattle.cga_syntax.specs.Reading.{IsToken, AreTokens, seen_of}
use Rattle.cga_syntax.specs.declared.keyword.Keyword.{Keyword}
use Rattle.std.proofs.lemmas.Bool.{and_parts as both}

abbrev IsRead : TokenKind → Type 0
IsRead k = IsToken (lexeme_of k)

-- ---- numbers

same_kind : (j k : TokenKind) (m n : ℕ) → ◌≡◌ {A = Front} (Token j m) (Token k n) → j ≡ k
same_kind j k m n h = cc

followed_is : (v : Rat) (text : List ℕ) → decimal_of text ≡ Ok v → (len n : ℕ) (k : TokenKind) (mark name : Bool) →
    ◌≡◌ {A = Front} (if mark then Token (kind.Relative v) (len + 1) else if name then BadNumber else Token (kind.Number v) len) (Token k n) → IsRead k
followed_is v text e len n k true name h = subst IsRead (same_kind (kind.Relative v) k (len + 1) n h) (text, e)
followed_is v text e len n k false true h = absurd (cc)
followed_is v text e len n k false false h = subst IsRead (same_kind (kind.Number v) k len n h) (text, e)

valued_is : (r : Result Rat DecimalFault) (text rest : List ℕ) → decimal_of text ≡ r
    → (len n : ℕ) (k : TokenKind) (many : Bool)
    → ◌≡◌ {A = Front} (if many then BadNumber else valued r len rest) (Token k n) → IsRead k
valued_is r text rest e len n k true h = absurd (cc)
valued_is (Ok v) text rest e len n k false h = followed_is v text e len n k (is_mark rest) (begins begins_name rest) h
valued_is (Err f) text rest e len n k false h = absurd (cc)

number_is : (text : List ℕ) (k : TokenKind) (n : ℕ) → number text ≡ Token k n → IsRead k
unfolding number
number_is text k n h = valued_is (decimal_of (take (number_len text) text)) (take (number_len text) text) (drop (number_len text) text) refl (number_len text) n k (nat_lt 18 (digit_count text)) h

-- ---- names

name_is : (name : List ℕ) → begins begins_name name ≡ true → list_all continues_name name ≡ true
    → nat_lt 32 (length name) ≡ false → is_name name ≡ true
name_is [] b a l = absurd (let q : false ≡ true = b in cc)
name_is (x ∷ xs) b a l =
    let s : nat_lt (length xs) 32 ≡ true = grind (arith, nat_tests) in
    rw (b, s, (both (continues_name x) (list_all continues_name xs) a).1) refl

run_len : (text : List ℕ) → length (take (run continues_name text) text) ≡ run continues_name text
run_len text = omega (arith, length-take (run continues_name text) text, run_within continues_name text)

word_token : (name : List ℕ) (o : Option Keyword) → keyword_of name ≡ o → is_name name ≡ true
    → IsToken (word_lexeme name o)
word_token name None e h = (h, ap is_some e)
word_token name (Some word) e h = tt

word_by : (text : List ℕ) (k : TokenKind) (n : ℕ) (long : Bool) → nat_lt 32 (run continues_name text) ≡ long
    → begins begins_name text ≡ true →
    ◌≡◌ {A = Front} (if long then LongName 0 else Token (kind.Word (take (run continues_name text) text)) (run continues_name text)) (Token k n) → IsRead k
word_by text k n true l b h = absurd (cc)
word_by text k n false l b h =
    let name : List ℕ = take (run continues_name text) text in
    subst IsRead (same_kind (kind.Word name) k (run continues_name text) n h)
    (word_token name (keyword_of name) refl (name_is name (word_begun text b) (all_run continues_name text) (ap (nat_lt 32) (run_len text) ∙ l)))

word_is : (text : List ℕ) (k : TokenKind) (n : ℕ) → begins begins_name text ≡ true → word text ≡ Token k n → IsRead k
unfolding word
word_is text k n b h = word_by text k n (nat_lt 32 (run continues_name text)) refl b h

closed_is : (name : List ℕ) (k : TokenKind) (n : ℕ) (long : Bool) → nat_lt 32 (length name) ≡ long
    → begins begins_name name ≡ true → list_all continues_name name ≡ true →
    ◌≡◌ {A = Front} (if long then LongName 1 else Token (kind.Text name) (length name + 2)) (Token k n) → IsRead k
closed_is name k n true l b a h = absurd (cc)
closed_is name k n false l b a h = subst IsRead (same_kind (kind.Text name) k (length name + 2) n h) (name_is name b a l)

some_bytes : (n : ℕ) → nat_lt 0 n ≡ true → 0 < n
some_bytes n h = grind (arith, nat_tests)

enclosed_by : (text name : List ℕ) (k : TokenKind) (n : ℕ) (quote some : Bool) → nat_lt 0 (length name) ≡ some
    → name ≡ take (run continues_name text) text → begins is_ascii_digit text ≡ false →
    ◌≡◌ {A = Front} (if quote && some then closed name else BadByte (length name + 1)) (Token k n) → IsRead k
enclosed_by text name k n true true s e d h =
    closed_is name k n (nat_lt 32 (length name)) refl
    (ap (begins begins_name) e ∙ begun text (subst (λ z. 0 < length z) e (some_bytes (length name) s)) d)
    (ap (list_all continues_name) e ∙ all_run continues_name text) h
enclosed_by text name k n true false s e d h = absurd (cc)
enclosed_by text name k n false some s e d h = absurd (cc)

enclosed_is : (text name rest : List ℕ) (k : TokenKind) (n : ℕ) → name ≡ take (run continues_name text) text
    → begins is_ascii_digit text ≡ false → enclosed name rest ≡ Token k n → IsRead k
enclosed_is text name [] k n e d h = absurd (cc)
enclosed_is text name (b ∷ bs) k n e d h = enclosed_by text name k n (b == 34) (nat_lt 0 (length name)) refl e d h

quoted_by : (text : List ℕ) (k : TokenKind) (n : ℕ) (digit : Bool) → begins is_ascii_digit text ≡ digit →
    ◌≡◌ {A = Front} (if digit then BadByte 1 else enclosed (take (run continues_name text) text) (drop (run continues_name text) text)) (Token k n) → IsRead k
quoted_by text k n true d h = absurd (cc)
quoted_by text k n false d h = enclosed_is text (take (run continues_name text) text) (drop (run continues_name text) text) k n refl d h

quoted_is : (text : List ℕ) (k : TokenKind) (n : ℕ) → quoted text ≡ Token k n → IsRead k
unfolding quoted
quoted_is text k n h = quoted_by text k n (begins is_ascii_digit text) refl h

-- ---- signs

short_is : (o : Option Sign) (k : TokenKind) (n : ℕ) → short o ≡ Token k n → IsRead k
short_is None k n h = absurd (cc)
short_is (Some sign) k n h = subst IsRead (same_kind (kind.Sign sign) k 1 n h) tt

long_is : (o p : Option Sign) (k : TokenKind) (n : ℕ) → long_or o (short p) ≡ Token k n → IsRead k
long_is None p k n h = short_is p k n h
long_is (Some sign) p k n h = subst IsRead (same_kind (kind.Sign sign) k 2 n h) tt

sign_is : (b : ℕ) (rest : List ℕ) (k : TokenKind) (n : ℕ) → sign_of b rest ≡ Token k n → IsRead k
unfolding sign_of
sign_is b [] k n h = short_is (single b) k n h
sign_is b (c ∷ cs) k n h = long_is (pair b c) (single b) k n h

-- ---- the front

front_by : (b : ℕ) (bs : List ℕ) (k : TokenKind) (n : ℕ) (comment blank quote digit name : Bool) → begins_name b ≡ name
    →
    ◌≡◌ {A = Front} (if comment then End else if blank then Blank else if quote then quoted
    bs else if digit then number (b ∷ bs) else if name then word (b ∷ bs) else sign_of b bs) (Token k n) → IsRead k
front_by b bs k n true blank quote digit name e h = absurd (cc)
front_by b bs k n false true quote digit name e h = absurd (cc)
front_by b bs k n false false true digit name e h = quoted_is bs k n h
front_by b bs k n false false false true name e h = number_is (b ∷ bs) k n h
front_by b bs k n false false false false true e h = word_is (b ∷ bs) k n e h
front_by b bs k n false false false false false e h = sign_is b bs k n h

front_is : (b : ℕ) (bs : List ℕ) (k : TokenKind) (n : ℕ) → front (b ∷ bs) ≡ Token k n → IsRead k
unfolding front
front_is b bs k n h = front_by b bs k n (b == 35) (b == 32 || b == 9) (b == 34) (is_ascii_digit b) (begins_name b) refl h

-- ---- the line

same_list : (us ts : List Read) → ◌≡◌ {A = Lexed} (Ok us) (Ok ts) → us ≡ ts
same_list us ts h = cc

behind_is : (t : Read) (o : Lexed) (ts : List Read) → behind t o ≡ Ok ts → IsToken (lexeme_of t.kind)
    → ((us : List Read) → o ≡ Ok us → AreTokens (seen_of us)) → AreTokens (seen_of ts)
behind_is t (Ok us) ts h i more = subst (λ z. AreTokens (seen_of z)) (same_list (t ∷ us) ts h) (i, more us refl)
behind_is t (Err f) ts h i more = absurd (cc)

from_front_is : (f : Front) (place : ℕ) (on : ℕ → Lexed) (ts : List Read) → from_front f place on ≡ Ok ts
    → ((k : TokenKind) (n : ℕ) → f ≡ Token k n → IsRead k) →
    ((m : ℕ) (us : List Read) → on m ≡ Ok us → AreTokens (seen_of us)) → AreTokens (seen_of ts)
from_front_is End place on ts h i more = subst (λ z. AreTokens (seen_of z)) (same_list [] ts h) tt
from_front_is Blank place on ts h i more = more 0 ts h
from_front_is (Token k len) place on ts h i more = behind_is (record { kind = k; from = place; to = place + len }) (on (len - 1)) ts h (i k len refl) (more (len - 1))
from_front_is (BadByte n) place on ts h i more = absurd (cc)
from_front_is BadNumber place on ts h i more = absurd (cc)
from_front_is (LongName n) place on ts h i more = absurd (cc)
from_front_is OpenText place on ts h i more = absurd (cc)

lex_is : (n place : ℕ) (text : List ℕ) (ts : List Read) → lex n place text ≡ Ok ts → AreTokens (seen_of ts)
unfolding lex
lex_is n place [] ts h = subst (λ z. AreTokens (seen_of z)) (same_list [] ts h) tt
lex_is zero place (b ∷ bs) ts h = from_front_is (front (b ∷ bs)) place (λ n. lex n (place + 1) bs) ts h (front_is b bs) (λ m us e. lex_is m (place + 1) bs us e)
lex_is (suc n) place (b ∷ bs) ts h = lex_is n (place + 1) bs ts h

-- where a line is read as tokens, each number is one that some text is read as, each name and quoted name is a name
pub line_tokens : (line : List ℕ) (ts : List Read) → tokens_of line ≡ Ok ts → AreTokens (seen_of ts)
line_tokens line ts h = lex_is 0 1 line ts h
