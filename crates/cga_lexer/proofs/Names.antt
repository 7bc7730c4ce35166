-- The bytes of a word are a name, where they are few enough.
use Rattle.std.proofs.Common.{◌≡◌, ℕ, suc, ◌<◌, ◌&&◌, ◌||◌, Bool, true, false, nat_lt, nat_eq, List, [], ◌∷◌, length, take, drop, Some, None, arith, ap, sym, ◌∙◌, refl, if◌then◌else◌, length-take}
use Rattle.std.specs.List.{list_all}
use Rattle.std.specs.Char.{is_ascii_digit}
use Rattle.std.specs.Int.{is_in_range}
use Rattle.cga_word.specs.Name.{begins_name, continues_name, is_name, name_of}
use Rattle.cga_lexer.specs.Bytes.{run, begins}
use Rattle.cga_lexer.specs.Front.{word}
use Rattle.cga_lexer.specs.declared.token.TokenKind.TheVariants as kind
use Rattle.cga_lexer.specs.declared.front.Front.TheVariants.{Token, LongName}
use Rattle.std.proofs.lemmas.Bool.Decides.{nat_tests}
use Rattle.cga_lexer.proofs.Running.{run_within}
use Rattle.std.proofs.lemmas.Bool.{and_parts as both}

-- each byte of a run passes the test
all_run_step : (test : ℕ → Bool) (b : ℕ) (bs : List ℕ) (t : Bool) → test b ≡ t
    → list_all test (take (run test bs) bs) ≡ true
    → list_all test (take (if t then suc (run test bs) else 0) (b ∷ bs)) ≡ true
all_run_step test b bs true e h = ap (λ t. t && list_all test (take (run test bs) bs)) e ∙ h
all_run_step test b bs false e h = refl

-- each byte of the run at the front passes the test
pub all_run : (test : ℕ → Bool) (text : List ℕ) → list_all test (take (run test text) text) ≡ true
unfolding run
all_run test [] = refl
all_run test (b ∷ bs) = all_run_step test b bs (test b) refl (all_run test bs)

-- what follows a run doesn't pass the test
after_run_step : (test : ℕ → Bool) (b : ℕ) (bs : List ℕ) (t : Bool) → test b ≡ t
    → begins test (drop (run test bs) bs) ≡ false
    → begins test (drop (if t then suc (run test bs) else 0) (b ∷ bs)) ≡ false
after_run_step test b bs true e h = h
after_run_step test b bs false e h = e

pub after_run : (test : ℕ → Bool) (text : List ℕ) → begins test (drop (run test text) text) ≡ false
unfolding run
after_run test [] = refl
after_run test (b ∷ bs) = after_run_step test b bs (test b) refl (after_run test bs)

-- a byte that begins a name goes on a name
going_on : (digit upper lower line : Bool) → ((upper || lower) || line) ≡ true
    → (((digit || upper) || lower) || line) ≡ true
going_on true upper lower line h = refl
going_on false upper lower line h = h

-- a byte that begins a name continues one
pub begins-continues : (b : ℕ) → begins_name b ≡ true → continues_name b ≡ true
begins-continues b h = going_on (is_in_range 48 57 b) (is_in_range 65 90 b) (is_in_range 97 122 b) (nat_eq b 95) h

-- and one that goes on a name and is no digit begins it
beginning : (digit upper lower line : Bool) → digit ≡ false → (((digit || upper) || lower) || line) ≡ true
    → ((upper || lower) || line) ≡ true
beginning true upper lower line d h = absurd (let q : true ≡ false = d in cc)
beginning false upper lower line d h = h

pub continues-begins : (b : ℕ) → is_ascii_digit b ≡ false → continues_name b ≡ true → begins_name b ≡ true
continues-begins b d h = beginning (is_in_range 48 57 b) (is_in_range 65 90 b) (is_in_range 97 122 b) (nat_eq b 95) d h

-- bytes that go on a name, behind one that begins it, are a name unless they are more than 32
long_step : (x : ℕ) (xs : List ℕ) → begins_name x ≡ true → list_all continues_name xs ≡ true → name_of (x ∷ xs) ≡ None
    → (t : Bool) → nat_lt (length xs) 32 ≡ t → nat_lt 32 (length (x ∷ xs)) ≡ true
long_step x xs b a e true h = absurd (let n : is_name (x ∷ xs) ≡ true = rw (b, h, a) refl in let q : Some (x ∷ xs) ≡ None = ap (λ z. if z then Some (x ∷ xs) else None) (sym n) ∙ e in cc)
long_step x xs b a e false h = grind (arith, nat_tests)

pub long_name : (name : List ℕ) → begins begins_name name ≡ true → list_all continues_name name ≡ true
    → name_of name ≡ None → nat_lt 32 (length name) ≡ true
long_name [] b a e = absurd (let q : false ≡ true = b in cc)
long_name (x ∷ xs) b a e = long_step x xs b (both (continues_name x) (list_all continues_name xs) a).1 e (nat_lt (length xs) 32) refl

-- a run of name bytes begins a name where it doesn't begin with a digit
begun_step : (b : ℕ) (bs : List ℕ) → is_ascii_digit b ≡ false → (t : Bool) → continues_name b ≡ t
    → 0 < length (take (if t then suc (run continues_name bs) else 0) (b ∷ bs)) →
    begins begins_name (take (if t then suc (run continues_name bs) else 0) (b ∷ bs)) ≡ true
begun_step b bs d true e h = continues-begins b d e
begun_step b bs d false e h = absurd (omega arith)

-- where a text begins with bytes of names and with no digit, the run of them begins as a name
pub begun : (text : List ℕ) → 0 < length (take (run continues_name text) text) → begins is_ascii_digit text ≡ false
    → begins begins_name (take (run continues_name text) text) ≡ true
unfolding run
begun [] h d = absurd (omega arith)
begun (b ∷ bs) h d = begun_step b bs d (continues_name b) refl h

-- where a text begins as a name, the run of bytes of names at its front does
pub word_begun : (text : List ℕ) → begins begins_name text ≡ true
    → begins begins_name (take (run continues_name text) text) ≡ true
unfolding run
word_begun [] h = h
word_begun (b ∷ bs) h = ap (λ t. begins begins_name (take (if t then suc (run continues_name bs) else 0) (b ∷ bs))) (begins-continues b h) ∙ h

pub word_long : (text : List ℕ) → begins begins_name text ≡ true → name_of (take (run continues_name text) text) ≡ None
    → LongName 0 ≡ word text
unfolding word
word_long text h e =
    let n : length (take (run continues_name text) text) ≡ run continues_name text = omega (arith, length-take (run continues_name text) text, run_within continues_name text) in
    let l = long_name (take (run continues_name text) text) (word_begun text h) (all_run continues_name text) e in
    ap (λ z. if z then LongName 0 else Token (kind.Word (take (run continues_name text) text)) (run continues_name text)) (sym l ∙ ap (λ k. nat_lt 32 k) n)
