-- No byte of a printed line is a control byte.
use Rattle.std.proofs.Common.{◌≡◌, ℕ, zero, suc, ◌+◌, ◌<◌, ◌≤◌, ◌^◌, ◌&&◌, nat_le, Bool, true, false, List, [], ◌∷◌}
use Rattle.std.proofs.Common.{◌++◌, Option, Some, None, ℤ, pos, negsuc, arith, ap, sym, ◌∙◌, refl, subst, codes}
use Rattle.std.proofs.Common.{decimal, if◌then◌else◌}
use Rattle.std.specs.Char.{is_ascii_digit}
use Rattle.std.specs.Fmt.{signed_decimal}
use Rattle.std.specs.List.{All, list_all}
use Rattle.std.proofs.lemmas.Bool.Decides.{nat_tests}
use Rattle.std.proofs.lemmas.List.Elements.{All-nil, All-cons}
use Rattle.std.proofs.lemmas.List.Folds.{list_all-append}
use Rattle.cga_word.specs.Name.{continues_name, is_name}
use Rattle.cga_fraction.specs.Rat.{Rat}
use Rattle.cga_fraction.specs.Decimals.{IsLiteral}
use Rattle.cga_fraction.specs.Texts.{literal_text_of, exact_text_of}
use Rattle.cga_fraction.proofs.Door.{literal_is_shortest}
use Rattle.cga_lexer.specs.declared.sign.Sign.{Sign}
use Rattle.cga_lexer.specs.declared.sign.Sign.TheVariants as s
use Rattle.cga_syntax.specs.Lexemes.{keyword_bytes}
use Rattle.cga_syntax.specs.Pieces.{number}
use Rattle.cga_syntax.specs.Printing.{sign_bytes, lexeme_bytes, closes_up, space_before, text_after, text_of, exactly, magnitude}
use Rattle.cga_syntax.specs.Reading.{IsToken, AreTokens}
use Rattle.cga_rule.specs.declared.grammar.Attribute.{Attribute}
use Rattle.cga_syntax.specs.declared.lexeme.Lexeme.{Lexeme}
use Rattle.cga_syntax.specs.declared.lexeme.Lexeme.TheVariants as lexeme
use Rattle.cga_syntax.specs.declared.print.mark.Mark.{Mark}
use Rattle.cga_syntax.proofs.Again.{lexemes}
use Rattle.cga_syntax.proofs.Exact.{whole_literal}
use Rattle.cga_syntax.proofs.Fronts.{shape, dotted, named_of}
use Rattle.cga_syntax.proofs.LineTexts.{whole_text, below, below_more, first_whole, attribute_tokens}
use Rattle.cga_syntax.proofs.Signs.{keyword_is_name}
use Rattle.std.proofs.lemmas.Bool.{and_parts as both}

abbrev visible : ℕ → Bool
visible c = nat_le 32 c

abbrev IsVisible : List ℕ → Type 0
IsVisible text = list_all visible text ≡ true

join : (xs ys : List ℕ) → IsVisible xs → IsVisible ys → IsVisible (xs ++ ys)
join xs ys h k = rw (list_all-append visible xs ys, h, k) refl

passing : (p : ℕ → Bool) → ((c : ℕ) → p c ≡ true → visible c ≡ true) → (xs : List ℕ) → list_all p xs ≡ true
    → IsVisible xs
passing p h [] k = refl
passing p h (c ∷ xs) k =
    let b = both (p c) (list_all p xs) k in
    ap (λ t. t && list_all visible xs) (h c b.0) ∙ passing p h xs b.1

digit_visible : (c : ℕ) → is_ascii_digit c ≡ true → visible c ≡ true
digit_visible c h = grind (arith, nat_tests)

letter_visible : (c : ℕ) → continues_name c ≡ true → visible c ≡ true
letter_visible c h = grind (arith, nat_tests)

-- ---- tokens

name_visible : (name : List ℕ) → is_name name ≡ true → IsVisible name
name_visible name h = passing continues_name letter_visible name (named_of name h).going

dotted_visible : (places : List ℕ) → list_all is_ascii_digit places ≡ true → IsVisible (dotted places)
dotted_visible [] h = refl
dotted_visible (c ∷ places) h = passing is_ascii_digit digit_visible (c ∷ places) h

literal_visible : (value : Rat) → IsLiteral value → IsVisible (literal_text_of value)
literal_visible value h =
    let p = shape (literal_text_of value) value (literal_is_shortest value h).reads in
    subst IsVisible (sym p.split) (join p.whole (dotted p.places) (passing is_ascii_digit digit_visible p.whole p.digits) (dotted_visible p.places p.more))

sign_visible : (sign : Sign) → IsVisible (sign_bytes sign)
sign_visible s.LeftRound = refl
sign_visible s.RightRound = refl
sign_visible s.LeftSquare = refl
sign_visible s.RightSquare = refl
sign_visible s.LeftCurly = refl
sign_visible s.RightCurly = refl
sign_visible s.Comma = refl
sign_visible s.Colon = refl
sign_visible s.Bar = refl
sign_visible s.Plus = refl
sign_visible s.Minus = refl
sign_visible s.Star = refl
sign_visible s.Slash = refl
sign_visible s.Dot = refl
sign_visible s.Assign = refl
sign_visible s.Arrow = refl
sign_visible s.Equal = refl
sign_visible s.Unequal = refl
sign_visible s.Less = refl
sign_visible s.AtMost = refl
sign_visible s.Greater = refl
sign_visible s.AtLeast = refl

token_visible : (l : Lexeme) → IsToken l → IsVisible (lexeme_bytes l)
token_visible (lexeme.Number value) t = literal_visible value t
token_visible (lexeme.Relative value) t = join (literal_text_of value) (codes "r") (literal_visible value t) refl
token_visible (lexeme.Keyword word) t = name_visible (keyword_bytes word) (keyword_is_name word)
token_visible (lexeme.Name name) t = name_visible name t.0
token_visible (lexeme.Text name) t = join name (codes "\"") (name_visible name t) refl
token_visible (lexeme.Sign sign) t = sign_visible sign

blank_visible : (c : Bool) → IsVisible (if c then [] else codes " ")
blank_visible true = refl
blank_visible false = refl

space_visible : (last : Option Mark) (m : Mark) → IsVisible (space_before last m)
space_visible None m = refl
space_visible (Some b) m = blank_visible (closes_up b m)

after_visible : (last : Option Mark) (ms : List Mark) → AreTokens (lexemes ms) → IsVisible (text_after last ms)
after_visible last [] t = refl
after_visible last (m ∷ ms) t =
    join (space_before last m) (lexeme_bytes m.lexeme ++ text_after (Some m) ms) (space_visible last m)
    (join (lexeme_bytes m.lexeme) (text_after (Some m) ms) (token_visible m.lexeme t.0) (after_visible (Some m) ms t.1))

-- ---- attributes and priorities

whole_visible : (n : ℕ) → IsToken (number n) → IsVisible (decimal n)
whole_visible n t = subst IsVisible (whole_text n) (token_visible (number n) t)

below_visible : (n above : ℕ) → AreTokens (lexemes (magnitude n above)) → IsVisible (below above)
below_visible n zero t = refl
below_visible n (suc above) t = subst IsVisible (sym (below_more above)) (whole_visible (suc above + 1) t.1.1.0)

signed_visible : (z : ℤ) (above : ℕ) → AreTokens (lexemes (exactly z above))
    → IsVisible (signed_decimal z ++ below above)
signed_visible (pos n) above t = join (decimal n) (below above) (whole_visible n (first_whole n above t)) (below_visible n above t)
signed_visible (negsuc n) above t = join (decimal (suc n)) (below above) (whole_visible (suc n) (first_whole (suc n) above t.1)) (below_visible (suc n) above t.1)

value_visible : (v : Rat) → AreTokens (lexemes (exactly v.num v.above)) → IsVisible (exact_text_of v)
unfolding exact_text_of
value_visible v t = signed_visible v.num v.above t

-- ---- lines

seen_in : (c : ℕ) → visible c ≡ true → 32 ≤ c
seen_in c h = grind (arith, nat_tests)

all_seen : (text : List ℕ) → IsVisible text → All (λ c. 32 ≤ c) text
all_seen [] h = All-nil (λ c. 32 ≤ c)
all_seen (c ∷ text) h = let b = both (visible c) (list_all visible text) h in All-cons (λ i. 32 ≤ i) c text (seen_in c b.0) (all_seen text b.1)

-- where tokens are such as a line has, no byte of their text is below 32
pub text_visible : (ms : List Mark) → AreTokens (lexemes ms) → All (λ c. 32 ≤ c) (text_of ms)
text_visible ms t = all_seen (text_of ms) (after_visible None ms t)

-- where the tokens of an attribute are such as a line has, no byte of its line is below 32
pub attribute_visible : (a : Attribute) → AreTokens (attribute_tokens a)
    → All (λ c. 32 ≤ c) (codes "attr " ++ (a.name ++ (codes " = " ++ exact_text_of a.value)))
attribute_visible a t =
    all_seen (codes "attr " ++ (a.name ++ (codes " = " ++ exact_text_of a.value))) (join a.name (codes " = " ++ exact_text_of a.value) (name_visible a.name t.1.0.0) (value_visible a.value t.1.1.1))

-- no byte of the line of a priority below 2 to the 16 is below 32
pub priority_visible : (n : ℕ) → n < 2 ^ 16 → All (λ c. 32 ≤ c) (codes "PRIORITY " ++ (decimal n ++ codes ":"))
priority_visible n h = all_seen (codes "PRIORITY " ++ (decimal n ++ codes ":")) (join (decimal n) (codes ":") (whole_visible n (whole_literal n (omega arith))) refl)
