-- How a blank line is told.
use Rattle.std.proofs.Common.{◌≡◌, ℕ, ◌+◌, ◌-◌, ◌<◌, ◌≤◌, arith, length, get_or, ◌≢◌, Bool, true, false, not, ◌&&◌, List, [], ◌∷◌, take, drop, ap, sym, ◌∙◌, refl, Option, Some, None, Result, Ok, Err}
use Rattle.std.specs.Prelude.{◌||◌, ◌==◌, nat_lt, if◌then◌else◌}
use Rattle.std.proofs.lemmas.Bool.Decides.{nat_tests}
use Rattle.std.proofs.lemmas.List.{at_drop_more, at_drop_all}
use Rattle.std.specs.Char.{is_ascii_digit}
use Rattle.cga_fraction.specs.Decimals.{decimal_of}
use Rattle.cga_fraction.specs.Rat.{Rat}
use Rattle.cga_fraction.specs.declared.fraction.decimal.DecimalFault.{DecimalFault}
use Rattle.cga_word.specs.Name.{begins_name, continues_name}
use Rattle.cga_lexer.specs.Bytes.{begins, run}
use Rattle.cga_lexer.specs.Front.{front, quoted, enclosed, closed, number, number_len, digit_count, valued, is_mark, word, sign_of, short, long_or, single, pair}
use Rattle.cga_lexer.specs.Line.{Lexed, lex, from_front, behind, tokens_of}
use Rattle.cga_lexer.specs.declared.front.Front.{Front}
use Rattle.cga_lexer.specs.declared.front.Front.TheVariants.{End, Blank, Token, BadByte, BadNumber, LongName, OpenText}
use Rattle.cga_lexer.specs.declared.sign.Sign.{Sign}
use Rattle.cga_lexer.specs.declared.token.Token as token
use Rattle.cga_lexer.specs.declared.token.TokenKind.TheVariants as kind
use Rattle.cga_lexer.proofs.Door.{lex_head}
use Rattle.cga_script.specs.Ends.{are_none, is_blank_line}
use Rattle.cga_script.specs.Lines.{clipped}
use Rattle.cga_script.proofs.Cuts.{take_all}

-- none are left where a comment begins, those behind a blank where one comes, and some at any other byte
abbrev by : Bool → Bool → Bool → Bool
by comment blank more = if comment then true else if blank then more else false

-- the bytes are blanks, or blanks and a comment
abbrev pub no_token : List ℕ → Bool
no_token [] = true
no_token (b ∷ bs) = by (b == 35) (b == 32 || b == 9) (no_token bs)

-- ---- a byte that is no blank and begins no comment

abbrev IsFound : Front → Type 0
IsFound End = ⊥
IsFound Blank = ⊥
IsFound _ = Unit {0}

either : (x : Bool) (f g : Front) → IsFound f → IsFound g → IsFound (if x then f else g)
either true f g a b = a
either false f g a b = b

closed_found : (name : List ℕ) → IsFound (closed name)
closed_found name = either (nat_lt 32 (length name)) (LongName 1) (Token (kind.Text name) (length name + 2)) tt tt

enclosed_found : (name rest : List ℕ) → IsFound (enclosed name rest)
enclosed_found name [] = tt
enclosed_found name (b ∷ bs) = either (b == 34 && nat_lt 0 (length name)) (closed name) (BadByte (length name + 1)) (closed_found name) tt

quoted_found : (rest : List ℕ) → IsFound (quoted rest)
unfolding quoted
quoted_found rest =
    let name = take (run continues_name rest) rest in let more = drop (run continues_name rest) rest in
    either (begins is_ascii_digit rest) (BadByte 1) (enclosed name more) tt (enclosed_found name more)

valued_found : (value : Result Rat DecimalFault) (len : ℕ) (rest : List ℕ) → IsFound (valued value len rest)
valued_found (Ok value) len rest =
    let number = Token (kind.Number value) len in
    either (is_mark rest) (Token (kind.Relative value) (len + 1)) (if begins begins_name rest then BadNumber else number) tt
    (either (begins begins_name rest) BadNumber number tt tt)
valued_found (Err fault) len rest = tt

number_found : (text : List ℕ) → IsFound (number text)
unfolding number
number_found text =
    let value = decimal_of (take (number_len text) text) in let rest = drop (number_len text) text in
    either (nat_lt 18 (digit_count text)) BadNumber (valued value (number_len text) rest) tt (valued_found value (number_len text) rest)

word_found : (text : List ℕ) → IsFound (word text)
unfolding word
word_found text =
    let len = run continues_name text in
    either (nat_lt 32 len) (LongName 0) (Token (kind.Word (take len text)) len) tt tt

short_found : (s : Option Sign) → IsFound (short s)
short_found None = tt
short_found (Some s) = tt

long_found : (s : Option Sign) (other : Front) → IsFound other → IsFound (long_or s other)
long_found None other h = h
long_found (Some s) other h = tt

sign_found : (b : ℕ) (bs : List ℕ) → IsFound (sign_of b bs)
unfolding sign_of
sign_found b [] = short_found (single b)
sign_found b (c ∷ bs) = long_found (pair b c) (short (single b)) (short_found (single b))

-- ---- the front

behind_some : (t : token.Token) (o : Lexed) → are_none (behind t o) ≡ false
behind_some t (Ok ts) = refl
behind_some t (Err f) = refl

found_some : (f : Front) (place : ℕ) (on : ℕ → Lexed) → IsFound f → are_none (from_front f place on) ≡ false
found_some End place on h = absurd h
found_some Blank place on h = absurd h
found_some (Token kind len) place on h = behind_some (record { kind = kind; from = place; to = place + len }) (on (len - 1))
found_some (BadByte n) place on h = refl
found_some BadNumber place on h = refl
found_some (LongName n) place on h = refl
found_some OpenText place on h = refl

abbrev named_front : ℕ → List ℕ → Front
named_front b bs = if begins_name b then word (b ∷ bs) else sign_of b bs

abbrev numbered_front : ℕ → List ℕ → Front
numbered_front b bs = if is_ascii_digit b then number (b ∷ bs) else named_front b bs

abbrev other_front : ℕ → List ℕ → Front
other_front b bs = if b == 34 then quoted bs else numbered_front b bs

other_found : (b : ℕ) (bs : List ℕ) → IsFound (other_front b bs)
other_found b bs =
    let named = either (begins_name b) (word (b ∷ bs)) (sign_of b bs) (word_found (b ∷ bs)) (sign_found b bs) in
    let numbered = either (is_ascii_digit b) (number (b ∷ bs)) (named_front b bs) (number_found (b ∷ bs)) named in
    either (b == 34) (quoted bs) (numbered_front b bs) (quoted_found bs) numbered

by_tests : (x y : Bool) (f : Front) (place : ℕ) (on : ℕ → Lexed) → IsFound f
    → are_none (from_front (if x then End else if y then Blank else f) place on) ≡ by x y (are_none (on 0))
by_tests true y f place on h = refl
by_tests false true f place on h = refl
by_tests false false f place on h = found_some f place on h

by_front : (b : ℕ) (bs : List ℕ) (place : ℕ) (on : ℕ → Lexed)
    → are_none (from_front (front (b ∷ bs)) place on) ≡ by (b == 35) (b == 32 || b == 9) (are_none (on 0))
unfolding front
by_front b bs place on = by_tests (b == 35) (b == 32 || b == 9) (other_front b bs) place on (other_found b bs)

no_more : (place : ℕ) → are_none (lex 0 place []) ≡ true
unfolding lex
no_more place = refl

none_from : (place : ℕ) (bs : List ℕ) → are_none (lex 0 place bs) ≡ no_token bs
none_from place [] = no_more place
none_from place (b ∷ bs) =
    ap are_none (lex_head place b bs) ∙ by_front b bs place (λ n. lex n (place + 1) bs)
    ∙ ap (by (b == 35) (b == 32 || b == 9)) (none_from (place + 1) bs)

-- what is told of the whole line
pub blank_is : (line : List ℕ) (told : Bool) → told ≡ no_token line → told ≡ are_none (tokens_of line)
blank_is line told e = e ∙ sym (none_from 1 line)

-- at a place of it, up to which there were blanks
module _ (line : List ℕ) (at : ℕ) (read : no_token (drop at line) ≡ no_token line) where
  from_byte : (b : ℕ) → at < length line → get_or line at 0 ≡ b → no_token line ≡ no_token (b ∷ drop (at + 1) line)
  from_byte b h e = sym read ∙ at_drop_more no_token line at 0 h ∙ ap (λ (x : ℕ). no_token (x ∷ drop (at + 1) line)) e

  pub at_comment : at < length line → get_or line at 0 ≡ 35 → true ≡ are_none (tokens_of line)
  at_comment h e = blank_is line true (sym (from_byte 35 h e))

  pub at_other : (space : Bool) → at < length line → get_or line at 0 ≢ 35
      → space ≡ (get_or line at 0 == 32 || get_or line at 0 == 9) → space ≡ false → false ≡ are_none (tokens_of line)
  at_other space h other is isnt =
      let b = get_or line at 0 in let more = no_token (drop (at + 1) line) in
      let p : (b == 35) ≡ false = grind (arith, nat_tests) in
      blank_is line false (sym (from_byte b h refl ∙ ap (λ (t : Bool). by t (b == 32 || b == 9) more) p ∙ ap (λ (t : Bool). by false t more) (sym is ∙ isnt)))

  pub at_end : length line ≤ at → true ≡ are_none (tokens_of line)
  at_end h = blank_is line true (sym (sym read ∙ at_drop_all no_token line at h))

-- ---- a whole line

abbrev told_by : Bool → List ℕ → Bool
told_by long bytes = not (long || nat_lt 4096 (length bytes)) && are_none (tokens_of bytes)

pub short_is : (line : List ℕ) (told : Bool) → length line ≤ 4096 → told ≡ are_none (tokens_of line)
    → told ≡ is_blank_line (clipped line)
short_is line told short e =
    let isnt : nat_lt 4096 (length line) ≡ false = grind (arith, nat_tests) in
    e ∙ sym (ap (told_by (nat_lt 4096 (length line))) (take_all 4096 line short) ∙ ap (λ (b : Bool). not (b || b) && are_none (tokens_of line)) isnt)

pub long_isnt : (line : List ℕ) → 4096 < length line → false ≡ is_blank_line (clipped line)
long_isnt line long =
    let is : nat_lt 4096 (length line) ≡ true = grind (arith, nat_tests) in
    sym (ap (λ (b : Bool). told_by b (take 4096 line)) is)
