-- What stands at the front of a text that begins with the bytes of a number, a word or a quoted name.
use Rattle.std.proofs.Common.{◌≡◌, ℕ, suc, ◌+◌, ◌<◌, ◌≤◌, ◌==◌, ◌&&◌, Bool, true, false, not, nat_lt, nat_le, List}
use Rattle.std.proofs.Common.{[], ◌∷◌, ◌++◌, length, take, drop, get_or, length-append, append_assoc, Option, Some}
use Rattle.std.proofs.Common.{None, Ok, arith, ap, sym, ◌∙◌, refl, subst, if◌then◌else◌}
use Rattle.std.specs.Prelude.{position}
use Rattle.std.specs.List.{list_all}
use Rattle.std.specs.Char.{is_ascii_digit}
use Rattle.std.proofs.lemmas.Bool.Decides.{nat_tests, leb_tells}
use Rattle.std.proofs.lemmas.List.{take-append-drop, drop_more}
use Rattle.std.proofs.lemmas.List.Quantifiers.{position-Some}
use Rattle.std.proofs.Math.Seq.{take-append_seam}
use Rattle.cga_word.specs.Name.{begins_name, continues_name, is_name}
use Rattle.cga_fraction.specs.Rat.{Rat}
use Rattle.cga_fraction.specs.Decimals.{decimal_of, is_point, is_numeral, read_of, read_at, limited, value_of}
use Rattle.cga_fraction.specs.declared.fraction.decimal.DecimalFault.TheVariants.{NotNumber, TooManyDigits}
use Rattle.cga_lexer.specs.Bytes.{run, begins}
use Rattle.cga_lexer.specs.Front.{front, number, word, quoted, closed, enclosed, followed, valued, decimals, with_point, number_len, digit_count}
use Rattle.cga_lexer.specs.declared.token.TokenKind.TheVariants as kind
use Rattle.cga_lexer.specs.declared.front.Front.TheVariants.{Token, BadNumber, LongName, BadByte}
use Rattle.std.proofs.lemmas.Bool.{and_parts as both}
use Rattle.std.proofs.Common.{append-nil as nil_right}
use Rattle.cga_lexer.proofs.Door.{begins-continues}
use Rattle.cga_fraction.proofs.Door.{if_err-ok, numeral_parts}

-- ---- runs

run_stops : (test : ℕ → Bool) (rest : List ℕ) → begins test rest ≡ false → run test rest ≡ 0
unfolding run
run_stops test [] e = refl
run_stops test (b ∷ bs) e = ap (λ t. if t then suc (run test bs) else 0) e

pub run_over : (test : ℕ → Bool) (xs rest : List ℕ) → list_all test xs ≡ true → begins test rest ≡ false
    → run test (xs ++ rest) ≡ length xs
unfolding run
run_over test [] rest a e = run_stops test rest e
run_over test (x ∷ xs) rest a e =
    let b = both (test x) (list_all test xs) a in
    ap (λ t. if t then suc (run test (xs ++ rest)) else 0) b.0 ∙ ap suc (run_over test xs rest b.1 e)

pub drop_over : (xs rest : List ℕ) → drop (length xs) (xs ++ rest) ≡ rest
drop_over [] rest = refl
drop_over (x ∷ xs) rest = drop_over xs rest

-- ---- the form of a text that is read as a number

-- a point and the digits after it, where there are some
abbrev pub dotted : List ℕ → List ℕ
dotted [] = []
dotted (p ∷ ps) = 46 ∷ p ∷ ps

pub record Shape (text : List ℕ) : Type 0 where
  pub whole : List ℕ
  pub places : List ℕ
  pub some : 0 < length whole
  pub digits : list_all is_ascii_digit whole ≡ true
  pub more : list_all is_ascii_digit places ≡ true
  pub few : length whole + length places ≤ 18
  pub split : text ≡ whole ++ dotted places

shaped : (text whole places : List ℕ) (a : Rat) → list_all is_ascii_digit places ≡ true → text ≡ whole ++ dotted places
    → read_of whole places ≡ Ok a → Shape text
shaped text whole places a m e h =
    let s = if_err-ok (is_numeral whole) (limited whole places) NotNumber a h in
    let n = numeral_parts whole s.0 in
    let t = if_err-ok (nat_le (length whole + length places) 18) (Ok (value_of whole places)) TooManyDigits a s.1 in
    record { whole = whole; places = places; some = n.0; digits = n.1; more = m; few = grind (arith, leb_tells (length whole + length places) 18); split = e }

is_point_46 : (c : ℕ) → is_point c ≡ true → c ≡ 46
is_point_46 c h = grind (arith, nat_tests)

dotted_some : (ps : List ℕ) → 0 < length ps → dotted ps ≡ 46 ∷ ps
dotted_some [] h = absurd (omega arith)
dotted_some (p ∷ ps) h = refl

shape_at : (text : List ℕ) (o : Option ℕ) (a : Rat) → position is_point text ≡ o → read_at text o ≡ Ok a → Shape text
shape_at text None a p h = shaped text text [] a refl (sym (nil_right text)) h
shape_at text (Some i) a p h =
    let s = if_err-ok (is_numeral (drop (i + 1) text)) (read_of (take i text) (drop (i + 1) text)) NotNumber a h in
    let n = numeral_parts (drop (i + 1) text) s.0 in
    let q = position-Some is_point text i 0 p in
    let cut : drop i text ≡ 46 ∷ drop (i + 1) text = drop_more text i 0 q.0 ∙ ap (λ c. c ∷ drop (i + 1) text) (is_point_46 (get_or text i 0) q.1) in
    shaped text (take i text) (drop (i + 1) text) a n.1
    (sym (take-append-drop i text) ∙ ap (λ z. take i text ++ z) (cut ∙ sym (dotted_some (drop (i + 1) text) n.0))) s.1

pub shape : (text : List ℕ) (a : Rat) → decimal_of text ≡ Ok a → Shape text
unfolding decimal_of
shape text a h = shape_at text (position is_point text) a refl h

-- ---- numbers

ends_digits : (places rest : List ℕ) → begins is_ascii_digit rest ≡ false
    → begins is_ascii_digit (dotted places ++ rest) ≡ false
ends_digits [] rest e = e
ends_digits (p ∷ ps) rest e = refl

no_decimals : (rest : List ℕ) → begins is_point rest ≡ false → decimals rest ≡ 0
no_decimals [] e = refl
no_decimals (b ∷ bs) e = ap (λ t. if t then run is_ascii_digit bs else 0) e

decimals_over : (places rest : List ℕ) → list_all is_ascii_digit places ≡ true → begins is_ascii_digit rest ≡ false
    → begins is_point rest ≡ false → decimals (dotted places ++ rest) ≡ length places
decimals_over [] rest m d e = no_decimals rest e
decimals_over (p ∷ ps) rest m d e = run_over is_ascii_digit (p ∷ ps) rest m d

pointed_len : (places : List ℕ) → with_point (length places) ≡ length (dotted places)
pointed_len [] = refl
pointed_len (p ∷ ps) = refl

module _ (text rest : List ℕ) (a : Rat) (h : decimal_of text ≡ Ok a) (d : begins is_ascii_digit rest ≡ false) (e : begins is_point rest ≡ false) where
  parts : Shape text
  parts = shape text a h

  whole_text : text ++ rest ≡ parts.whole ++ (dotted parts.places ++ rest)
  whole_text = ap (λ z. z ++ rest) parts.split ∙ append_assoc parts.whole (dotted parts.places) rest

  digits_are : run is_ascii_digit (text ++ rest) ≡ length parts.whole
  digits_are = ap (run is_ascii_digit) whole_text ∙ run_over is_ascii_digit parts.whole (dotted parts.places ++ rest) parts.digits (ends_digits parts.places rest d)

  decimals_are : decimals (drop (run is_ascii_digit (text ++ rest)) (text ++ rest)) ≡ length parts.places
  decimals_are =
      ap (λ n. decimals (drop n (text ++ rest))) digits_are ∙ ap (λ z. decimals (drop (length parts.whole) z)) whole_text
      ∙ ap decimals (drop_over parts.whole (dotted parts.places ++ rest)) ∙ decimals_over parts.places rest parts.more d e

  len_is : number_len (text ++ rest) ≡ length text
  len_is =
      ap (λ n. n + with_point (decimals (drop (run is_ascii_digit (text ++ rest)) (text ++ rest)))) digits_are
      ∙ ap (λ n. length parts.whole + with_point n) decimals_are ∙ ap (λ n. length parts.whole + n) (pointed_len parts.places)
      ∙ sym (length-append parts.whole (dotted parts.places)) ∙ sym (ap length parts.split)

  count_is : nat_lt 18 (digit_count (text ++ rest)) ≡ false
  count_is =
      let c : digit_count (text ++ rest) ≡ length parts.whole + length
      parts.places = ap (λ n. n + decimals (drop (run is_ascii_digit (text ++ rest)) (text ++ rest)))
      digits_are ∙ ap (λ n. length parts.whole + n) decimals_are in
      let f = parts.few in grind (arith, nat_tests)

  pub number_over : number (text ++ rest) ≡ followed a (length text) rest
  unfolding number
  number_over =
      ap (λ t. if t then BadNumber else valued (decimal_of (take (number_len (text ++ rest)) (text ++ rest))) (number_len (text ++ rest)) (drop (number_len (text ++ rest)) (text ++ rest))) count_is
      ∙ ap (λ n. valued (decimal_of (take n (text ++ rest))) n (drop n (text ++ rest))) len_is
      ∙ ap (λ z. valued (decimal_of z) (length text) (drop (length text) (text ++ rest))) (take-append_seam text rest)
      ∙ ap (λ z. valued (decimal_of text) (length text) z) (drop_over text rest)
      ∙ ap (λ r. valued r (length text) rest) h

-- what doesn't go on with a name
digit_no : (b : ℕ) → continues_name b ≡ false → is_ascii_digit b ≡ false
digit_no b h = grind (arith, nat_tests)

mark_no : (b : ℕ) → continues_name b ≡ false → (b == 114) ≡ false
mark_no b h = grind (arith, nat_tests)

name_no : (b : ℕ) → continues_name b ≡ false → begins_name b ≡ false
name_no b h = grind (arith, nat_tests)

begins_digit_no : (rest : List ℕ) → begins continues_name rest ≡ false → begins is_ascii_digit rest ≡ false
begins_digit_no [] h = refl
begins_digit_no (b ∷ bs) h = digit_no b h

number_ends : (a : Rat) (len : ℕ) (rest : List ℕ) → begins continues_name rest ≡ false
    → followed a len rest ≡ Token (kind.Number a) len
number_ends a len [] h = refl
number_ends a len (b ∷ bs) h =
    ap (λ t. if t && not (begins continues_name bs) then Token (kind.Relative a) (len + 1) else if begins_name b then BadNumber else Token (kind.Number a) len) (mark_no b h)
    ∙ ap (λ t. if t then BadNumber else Token (kind.Number a) len) (name_no b h)

front_digit : (b : ℕ) (bs : List ℕ) → is_ascii_digit b ≡ true → front (b ∷ bs) ≡ number (b ∷ bs)
unfolding front
front_digit b bs h =
    let c : (b == 35) ≡ false = grind (arith, nat_tests) in
    let s : (b == 32) ≡ false = grind (arith, nat_tests) in
    let t : (b == 9) ≡ false = grind (arith, nat_tests) in
    let q : (b == 34) ≡ false = grind (arith, nat_tests) in
    rw (c, s, t, q, h) refl

front_whole : (text whole more rest : List ℕ) → 0 < length whole → list_all is_ascii_digit whole ≡ true
    → text ≡ whole ++ more → front (text ++ rest) ≡ number (text ++ rest)
front_whole text [] more rest s d e = absurd (omega arith)
front_whole text (b ∷ bs) more rest s d e =
    subst (λ z. front (z ++ rest) ≡ number (z ++ rest)) (sym e) (front_digit b ((bs ++ more) ++ rest) (both (is_ascii_digit b) (list_all is_ascii_digit bs) d).0)

front_shaped : (text rest : List ℕ) → Shape text → front (text ++ rest) ≡ number (text ++ rest)
front_shaped text rest s = front_whole text s.whole (dotted s.places) rest s.some s.digits s.split

-- a number's text, and what follows it
pub number_front : (text rest : List ℕ) (a : Rat) → decimal_of text ≡ Ok a → begins continues_name rest ≡ false
    → begins is_point rest ≡ false → front (text ++ rest) ≡ Token (kind.Number a) (length text)
number_front text rest a h n p =
    front_shaped text rest (shape text a h) ∙ number_over text rest a h (begins_digit_no rest n) p ∙ number_ends a (length text) rest n

pub relative_front : (text rest : List ℕ) (a : Rat) → decimal_of text ≡ Ok a → begins continues_name rest ≡ false
    → front (text ++ 114 ∷ rest) ≡ Token (kind.Relative a) (length text + 1)
relative_front text rest a h n =
    front_shaped text (114 ∷ rest) (shape text a h) ∙ number_over text (114 ∷ rest) a h refl refl
    ∙ ap (λ t. if not t then Token (kind.Relative a) (length text + 1) else BadNumber) n

-- ---- words

front_name : (b : ℕ) (bs : List ℕ) → begins_name b ≡ true → front (b ∷ bs) ≡ word (b ∷ bs)
unfolding front
front_name b bs h =
    let c : (b == 35) ≡ false = grind (arith, nat_tests) in
    let s : (b == 32) ≡ false = grind (arith, nat_tests) in
    let t : (b == 9) ≡ false = grind (arith, nat_tests) in
    let q : (b == 34) ≡ false = grind (arith, nat_tests) in
    let d : is_ascii_digit b ≡ false = grind (arith, nat_tests) in
    rw (c, s, t, q, d, h) refl

-- the parts of a name
pub record Named (name : List ℕ) : Type 0 where
  pub begun : begins begins_name name ≡ true
  pub going : list_all continues_name name ≡ true
  pub few : length name ≤ 32
  pub some : 0 < length name

-- where bytes are a name, they begin and go on as one, and are at most 32 and at least one
pub named_of : (name : List ℕ) → is_name name ≡ true → Named name
named_of [] h = absurd (let q : false ≡ true = h in cc)
named_of (b ∷ bs) h =
    let p = both (begins_name b && nat_lt (length bs) 32) (list_all continues_name bs) h in
    let q = both (begins_name b) (nat_lt (length bs) 32) p.0 in
    record { begun = q.0; going = rw (begins-continues b q.0, p.1) refl; few = grind (arith, nat_tests); some = omega arith }

name_front_by : (name rest : List ℕ) → Named name → front (name ++ rest) ≡ word (name ++ rest)
name_front_by [] rest n = absurd (let q : false ≡ true = n.begun in cc)
name_front_by (b ∷ bs) rest n = front_name b (bs ++ rest) n.begun

word_over : (name rest : List ℕ) → Named name → begins continues_name rest ≡ false
    → word (name ++ rest) ≡ Token (kind.Word name) (length name)
unfolding word
word_over name rest n e =
    let r = run_over continues_name name rest n.going e in
    let f = n.few in
    let s : nat_lt 32 (length name) ≡ false = grind (arith, nat_tests) in
    ap (λ k. if nat_lt 32 k then LongName 0 else Token (kind.Word (take k (name ++ rest))) k) r
    ∙ ap (λ t. if t then LongName 0 else Token (kind.Word (take (length name) (name ++ rest))) (length name)) s
    ∙ ap (λ z. Token (kind.Word z) (length name)) (take-append_seam name rest)

pub word_front : (name rest : List ℕ) → is_name name ≡ true → begins continues_name rest ≡ false
    → front (name ++ rest) ≡ Token (kind.Word name) (length name)
word_front name rest h e = name_front_by name rest (named_of name h) ∙ word_over name rest (named_of name h) e

-- ---- quoted names

begins_none : (name rest : List ℕ) → Named name → begins is_ascii_digit (name ++ rest) ≡ false
begins_none [] rest n = absurd (let q : false ≡ true = n.begun in cc)
begins_none (b ∷ bs) rest n = let h = n.begun in grind (arith, nat_tests)

quoted_over : (name rest : List ℕ) → Named name → quoted (name ++ 34 ∷ rest) ≡ Token (kind.Text name) (length name + 2)
unfolding quoted
quoted_over name rest n =
    let r = run_over continues_name name (34 ∷ rest) n.going refl in
    let f = n.few in
    let g = n.some in
    let s : nat_lt 32 (length name) ≡ false = grind (arith, nat_tests) in
    let u : nat_lt 0 (length name) ≡ true = grind (arith, nat_tests) in
    ap (λ t. if t then BadByte 1 else enclosed (take (run continues_name (name ++ 34 ∷ rest)) (name ++ 34 ∷ rest))
    (drop (run continues_name (name ++ 34 ∷ rest)) (name ++ 34 ∷ rest))) (begins_none name (34 ∷ rest) n)
    ∙ ap (λ k. enclosed (take k (name ++ 34 ∷ rest)) (drop k (name ++ 34 ∷ rest))) r
    ∙ ap (λ z. enclosed z (drop (length name) (name ++ 34 ∷ rest))) (take-append_seam name (34 ∷ rest))
    ∙ ap (enclosed name) (drop_over name (34 ∷ rest))
    ∙ ap (λ t. if t then closed name else BadByte (length name + 1)) u
    ∙ ap (λ t. if t then LongName 1 else Token (kind.Text name) (length name + 2)) s

pub text_front : (name rest : List ℕ) → is_name name ≡ true
    → front (34 ∷ (name ++ 34 ∷ rest)) ≡ Token (kind.Text name) (length name + 2)
unfolding front
text_front name rest h = quoted_over name rest (named_of name h)
