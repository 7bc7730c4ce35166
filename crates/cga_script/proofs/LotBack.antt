-- A lot that some line says is told by its text.
use Rattle.std.proofs.Common.{◌≡◌, ℕ, ◌+◌, ◌≤◌, nat_le, nat_lt, ◌&&◌, Bool, true, false, List, [], ◌∷◌}
use Rattle.std.proofs.Common.{◌++◌, length, length-append, map, pos, Some, Ok, Err, arith, ap, sym, ◌∙◌}
use Rattle.std.proofs.Common.{refl, subst, codes, decimal, if◌then◌else◌}
use Rattle.std.specs.List.{All}
use Rattle.std.proofs.lemmas.Bool.Decides.{nat_tests}
use Rattle.std.proofs.lemmas.List.{map-append}
use Rattle.std.proofs.lemmas.List.Elements.{All-head, All-tail, All-cons, All-nil, All-append}
use Rattle.cga_fraction.specs.Rat.{Rat, of_int}
use Rattle.cga_fraction.specs.Texts.{exact_text_of}
use Rattle.cga_lexer.specs.Line.{Lexed, tokens_of}
use Rattle.cga_lexer.specs.declared.token.Token.{Token}
use Rattle.cga_rule.specs.declared.grammar.Attribute.{Attribute}
use Rattle.cga_syntax.specs.Lexemes.{keyword_of, is_reserved}
use Rattle.cga_syntax.specs.Pieces.{Pieces, token, never, number, word, whole, named, valued, Writes}
use Rattle.cga_syntax.specs.Printing.{printed, exactly}
use Rattle.cga_syntax.specs.Reading.{IsToken, AreTokens, AreRead}
use Rattle.cga_syntax.specs.declared.lexeme.Lexeme.{Lexeme}
use Rattle.cga_syntax.specs.declared.lexeme.Lexeme.TheVariants as lexeme
use Rattle.cga_syntax.specs.declared.print.space.Space.TheVariants.{Usual}
use Rattle.cga_form.proofs.Door.{head_of, never_written}
use Rattle.cga_fraction.proofs.Door.{within_4096 as short_enough}
use Rattle.cga_syntax.proofs.Door.{again, attribute_visible, lexemes, line_tokens, named_of}
use Rattle.cga_form.specs.BlockTells.{unless_blank, unless_long, BlockTells}
use Rattle.cga_form.specs.Cursor.{seen}
use Rattle.cga_form.specs.Tells.{Tells}
use Rattle.cga_parser.specs.BlockTells.{EndsBlock}
use Rattle.cga_shape.specs.declared.lot.Lot.{Lot}
use Rattle.cga_script.specs.declared.city_line.CityLine.{CityLine}
use Rattle.cga_script.specs.declared.city_line.CityLine.TheVariants as line
use Rattle.cga_script.specs.CityLines.{city_pieces}
use Rattle.cga_script.specs.DumpLines.{city_text, given, IsSaidLot, IsInside}
use Rattle.cga_script.specs.Dumps.{lot_text}
use Rattle.cga_script.specs.Lots.{lot_pieces}
use Rattle.cga_script.proofs.LotTexts.{last_tokens, lot_tokens, flat_text, lot_flat, HasTokens, lot_read}
use Rattle.cga_script.proofs.Said.{line_says}
use Rattle.std.proofs.Common.{append-nil as nil_right}
use Rattle.cga_syntax.proofs.Door.{whole_short}
use Rattle.cga_syntax.proofs.Door.{signed_short}
use Rattle.cga_syntax.proofs.Door.{tokens_front}
use Rattle.cga_syntax.proofs.Door.{tokens_rest}

-- ---- what the pieces of a lot are

record Parts (l : Lot) : Type 0 where
  name : is_reserved l.name ≡ false
  seed : (nat_le 0 l.seed && nat_le l.seed 999999999999999999) ≡ true
  symbol : is_reserved l.symbol ≡ false

abbrev name_piece : Bool → List ℕ → Pieces → Pieces
name_piece t name ps = (if t then never else word name) ∷ ps

name_by : (name : List ℕ) (ps : Pieces) (t : Bool) (c : ℕ) (x : List Lexeme) (d : ℕ) → is_reserved name ≡ t
    → Writes c (name_piece t name ps) x d → (is_reserved name ≡ false) × ((y : List Lexeme) × Writes c ps y d)
name_by name ps true c x d e w = absurd (never_written c ps x d w)
name_by name ps false c x d e w = let h = head_of c Usual (lexeme.Name name) ps x d w in (e, (h.0, h.2))

abbrev seed_fits : ℕ → Bool
seed_fits n = nat_le 0 n && nat_le n 999999999999999999

seed_by : (n : ℕ) (ps : Pieces) (t : Bool) (c : ℕ) (x : List Lexeme) (d : ℕ) → seed_fits n ≡ t
    → Writes c ((if t then token Usual (number n) else never) ∷ ps) x d
    → (seed_fits n ≡ true) × ((y : List Lexeme) × Writes c ps y d)
seed_by n ps true c x d e w = let h = head_of c Usual (number n) ps x d w in (e, (h.0, h.2))
seed_by n ps false c x d e w = absurd (never_written c ps x d w)

value_by : (v : Rat) (ps : Pieces) (c : ℕ) (x : List Lexeme) (d : ℕ) → Writes c (valued v ∷ ps) x d
    → (y : List Lexeme) × Writes c ps y d
unfolding Writes
value_by v ps c x d w = (w.1, subst (λ n. Writes n ps w.1 d) (sym w.4.1) w.5)

abbrev values_pieces : Lot → Pieces
values_pieces l = valued l.x ∷ valued l.z ∷ valued l.width ∷ valued l.depth ∷ named l.symbol ∷ []

parts : (l : Lot) (x : List Lexeme) (d : ℕ) → Writes 0 (lot_pieces l) x d → Parts l
parts l x d w =
    let a = head_of 0 Usual (lexeme.Name (codes "lot")) (named l.name ∷ whole 0 999999999999999999 l.seed ∷ values_pieces l) x d w in
    let b = name_by l.name (whole 0 999999999999999999 l.seed ∷ values_pieces l) (is_reserved l.name) 0 a.0 d refl a.2 in
    let s = seed_by l.seed (values_pieces l) (seed_fits l.seed) 0 b.1.0 d refl b.1.1 in
    let p = value_by l.x (valued l.z ∷ valued l.width ∷ valued l.depth ∷ named l.symbol ∷ []) 0 s.1.0 d s.1.1 in
    let q = value_by l.z (valued l.width ∷ valued l.depth ∷ named l.symbol ∷ []) 0 p.0 d p.1 in
    let r = value_by l.width (valued l.depth ∷ named l.symbol ∷ []) 0 q.0 d q.1 in
    let u = value_by l.depth (named l.symbol ∷ []) 0 r.0 d r.1 in
    let v = name_by l.symbol [] (is_reserved l.symbol) 0 u.0 d refl u.1 in
    record { name = b.0; seed = s.0; symbol = v.0 }

-- ---- its printed tokens

abbrev by_tests : Lot → Bool → Bool → Bool → Pieces
by_tests l n f m =
    word (codes "lot") ∷ (if n then never else word l.name) ∷ (if f then token Usual (number l.seed) else never)
    ∷ valued l.x ∷ valued l.z ∷ valued l.width ∷ valued l.depth ∷ (if m then never else word l.symbol) ∷ []

joined : {M : Type 0} (f : M → Lexeme) (xs ys : List M) → map f (xs ++ ys) ≡ map f xs ++ map f ys
joined f xs ys = map-append f xs ys

tokens_are : (l : Lot) → Parts l → lexemes (printed (lot_pieces l)) ≡ lot_tokens l
tokens_are l p =
    ap (λ t. lexemes (printed (by_tests l t (seed_fits l.seed) (is_reserved l.symbol)))) p.name
    ∙ ap (λ t. lexemes (printed (by_tests l false t (is_reserved l.symbol)))) p.seed
    ∙ ap (λ t. lexemes (printed (by_tests l false true t))) p.symbol
    ∙ ap (λ z. lexeme.Name (codes "lot") ∷ lexeme.Name l.name ∷ number l.seed ∷ z)
    (joined _ (exactly l.x.num l.x.above) _ ∙ ap (λ z. lexemes (exactly l.x.num l.x.above) ++ z)
    (joined _ (exactly l.z.num l.z.above) _ ∙ ap (λ z. lexemes (exactly l.z.num l.z.above) ++ z)
    (joined _ (exactly l.width.num l.width.above) _ ∙ ap (λ z. lexemes (exactly l.width.num l.width.above) ++ z)
    (joined _ (exactly l.depth.num l.depth.above) _))))

abbrev of_value : Rat → List Lexeme
of_value v = lexemes (exactly v.num v.above)

has_tokens : (l : Lot) → AreTokens (lot_tokens l) → HasTokens l
has_tokens l t =
    let z = tokens_rest (of_value l.x) _ t.1.1.1 in
    let w = tokens_rest (of_value l.z) _ z in
    let d = tokens_rest (of_value l.width) _ w in
    record {
      name = t.1.0;
      seed = t.1.1.0;
      x = tokens_front (of_value l.x) _ t.1.1.1;
      z = tokens_front (of_value l.z) _ z;
      width = tokens_front (of_value l.width) _ w;
      depth = tokens_front (of_value l.depth) _ d;
      symbol = (tokens_rest (of_value l.depth) _ d).0;
    }

pub record Told (l : Lot) : Type 0 where
  pub tokens : HasTokens l
  pub tells : Tells city_pieces 32 (lot_tokens l) (Ok (line.Lot l))

pub told_lot : (l : Lot) → IsSaidLot l → Told l
told_lot l h =
    let s = line_says city_pieces (line.Lot l) h.0 h.1 in
    let g = again 0 (lot_pieces l) (map seen s.0) s.2.0.0 (line_tokens h.0.bytes s.0 s.1) s.2.0.1 in
    let e = tokens_are l (parts l (map seen s.0) s.2.0.0 s.2.0.1) in
    record {
      tokens = has_tokens l (subst AreTokens e g.tokens);
      tells = subst (λ z. Tells city_pieces 32 z (Ok (line.Lot l))) e ((s.2.0.0, g.written), g.brackets 32 ∙ s.2.1);
    }

-- ---- the length of the text

value_few : (v : Rat) → AreTokens (of_value v) → length (exact_text_of v) ≤ 38
unfolding exact_text_of
value_few v t = signed_short v.num v.above t

more_by : (xs ys : List ℕ) (n m : ℕ) → length xs ≤ n → length ys ≤ m → length (xs ++ 32 ∷ ys) ≤ n + (m + 1)
more_by xs ys n m a b = omega (arith, length-append xs (32 ∷ ys))

lot_few : (l : Lot) → HasTokens l → length (lot_text l) ≤ 4096
lot_few l t =
    let s = (named_of l.symbol t.symbol.0).few in
    let n = (named_of l.name t.name.0).few in
    let d = more_by (exact_text_of l.depth) l.symbol 38 32 (value_few l.depth t.depth) s in
    let w = more_by (exact_text_of l.width) _ 38 71 (value_few l.width t.width) d in
    let z = more_by (exact_text_of l.z) _ 38 110 (value_few l.z t.z) w in
    let x = more_by (exact_text_of l.x) _ 38 149 (value_few l.x t.x) z in
    let e = more_by (decimal l.seed) _ 18 188 (whole_short l.seed t.seed) x in
    let f = more_by l.name _ 32 207 n e in
    omega (arith, f, ap length (lot_flat l))

-- ---- the text tells the lot

not_blank : (c : CityLine) (a : Lexeme) (ls : List Lexeme) (o : Lexed) (end : ℕ) → AreRead o (a ∷ ls)
    → Tells city_pieces 32 (a ∷ ls) (Ok c) → unless_blank city_pieces end o (Ok (Some c))
not_blank c a ls (Err f) end e h = absurd e
not_blank c a ls (Ok []) end e h = absurd (cc)
not_blank c a ls (Ok (t ∷ ts)) end e h = (Ok c, (Ok c, subst (λ z. Tells city_pieces 32 z (Ok c)) (sym e) h, refl), refl)

-- a short text with the tokens of the line tells it
pub told_by : (c : CityLine) (a : Lexeme) (ls : List Lexeme) → AreRead (tokens_of (city_text c)) (a ∷ ls)
    → Tells city_pieces 32 (a ∷ ls) (Ok c) → length (city_text c) ≤ 4096
    → BlockTells city_pieces (given c) (Ok (Some c))
told_by c a ls e h few =
    subst (λ b. unless_long city_pieces (city_text c) b (Ok (Some c))) (sym (short_enough (city_text c) few)) (not_blank c a ls (tokens_of (city_text c)) (length (city_text c) + 1) e h)

pub lot_back : (l : Lot) → IsSaidLot l → BlockTells city_pieces (given (line.Lot l)) (Ok (Some (line.Lot l)))
lot_back l h =
    let t = told_lot l h in
    told_by (line.Lot l) (lexeme.Name (codes "lot")) (lexeme.Name l.name ∷ number l.seed ∷ last_tokens l) (lot_read l t.tokens) t.tells (lot_few l t.tokens)

-- ---- it is one line, and no end

abbrev IsVisible : ℕ → Type 0
IsVisible byte = 32 ≤ byte

all_right : (xs ys : List ℕ) → All IsVisible (xs ++ ys) → All IsVisible ys
all_right [] ys h = h
all_right (x ∷ xs) ys h = all_right xs ys (All-tail IsVisible x (xs ++ ys) h)

all_left : (xs ys : List ℕ) → All IsVisible (xs ++ ys) → All IsVisible xs
all_left [] ys h = All-nil IsVisible
all_left (x ∷ xs) ys h = All-cons IsVisible x xs (All-head IsVisible x (xs ++ ys) h) (all_left xs ys (All-tail IsVisible x (xs ++ ys) h))

attr_word : IsToken (lexeme.Name (codes "attr"))
unfolding keyword_of
attr_word = (refl, refl)

-- a name and a value, as those of an attribute
both_visible : (name : List ℕ) (v : Rat) → IsToken (lexeme.Name name) → AreTokens (of_value v)
    → All IsVisible name × All IsVisible (exact_text_of v)
both_visible name v n t =
    let a : Attribute = record { name = name; value = v } in
    let h = all_right (codes "attr ") (name ++ (codes " = " ++ exact_text_of v)) (attribute_visible a (attr_word, (n, (tt, t)))) in
    (all_left name (codes " = " ++ exact_text_of v) h, all_right (codes " = ") (exact_text_of v) (all_right name (codes " = " ++ exact_text_of v) h))

seed_text : (n : ℕ) → exact_text_of (of_int (pos n)) ≡ decimal n
unfolding exact_text_of
seed_text n = nil_right (decimal n)

seed_visible : (l : Lot) → HasTokens l → All IsVisible (decimal l.seed)
seed_visible l t = subst (λ z. All IsVisible z) (seed_text l.seed) (both_visible l.name (of_int (pos l.seed)) t.name (t.seed, tt)).1

spaced_all : (xs ys : List ℕ) → All IsVisible xs → All IsVisible ys → All IsVisible (xs ++ 32 ∷ ys)
spaced_all xs ys a b = All-append IsVisible xs (32 ∷ ys) a (All-cons IsVisible 32 ys (omega arith) b)

lot_word_visible : All IsVisible (codes "lot")
lot_word_visible = All-cons IsVisible 108 (111 ∷ 116 ∷ []) (omega arith) (All-cons IsVisible 111 (116 ∷ []) (omega arith) (All-cons IsVisible 116 [] (omega arith) (All-nil IsVisible)))

flat_visible : (l : Lot) → HasTokens l → All IsVisible (flat_text l)
flat_visible l t =
    let symbol = (both_visible l.symbol l.x t.symbol t.x).0 in
    let depth = spaced_all _ _ (both_visible l.name l.depth t.name t.depth).1 symbol in
    let width = spaced_all _ _ (both_visible l.name l.width t.name t.width).1 depth in
    let z = spaced_all _ _ (both_visible l.name l.z t.name t.z).1 width in
    let x = spaced_all _ _ (both_visible l.name l.x t.name t.x).1 z in
    let seed = spaced_all _ _ (seed_visible l t) x in
    spaced_all (codes "lot") _ lot_word_visible (spaced_all _ _ (both_visible l.name l.x t.name t.x).0 seed)

lot_visible : (l : Lot) → HasTokens l → All IsVisible (lot_text l)
lot_visible l t = subst (λ z. All IsVisible z) (sym (lot_flat l)) (flat_visible l t)

two_tokens : (o : Lexed) (t : Token) (a b : Lexeme) (ls : List Lexeme) → o ≡ Ok (t ∷ []) → AreRead o (a ∷ b ∷ ls) → ⊥
two_tokens (Err f) t a b ls e r = absurd r
two_tokens (Ok []) t a b ls e r = absurd (cc)
two_tokens (Ok (u ∷ [])) t a b ls e r = absurd (let q : seen u ∷ [] ≡ a ∷ b ∷ ls = r in cc)
two_tokens (Ok (u ∷ v ∷ us)) t a b ls e r = absurd (cc)

-- a line of two tokens or more ends no block
pub no_end : (c : CityLine) (a b : Lexeme) (ls : List Lexeme) → AreRead (tokens_of (city_text c)) (a ∷ b ∷ ls)
    → EndsBlock (given c) → ⊥
no_end c a b ls r h = two_tokens (tokens_of (city_text c)) h.0 a b ls h.2 r

pub lot_inside : (l : Lot) → IsSaidLot l → IsInside (line.Lot l)
lot_inside l h = let t = (told_lot l h).tokens in (lot_visible l t, no_end (line.Lot l) (lexeme.Name (codes "lot")) (lexeme.Name l.name) (number l.seed ∷ last_tokens l) (lot_read l t))
