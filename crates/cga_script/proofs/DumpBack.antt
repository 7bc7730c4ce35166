-- The dump is read back.
use Rattle.std.proofs.Common.{◌≡◌, ℕ, ◌+◌, ◌≤◌, nat_lt, Bool, true, false, List, [], ◌∷◌, ◌++◌, append_assoc, length}
use Rattle.std.proofs.Common.{length-append, map, Option, Some, None, Ok, arith, ap, sym, ◌∙◌, refl, subst, codes}
use Rattle.std.proofs.Common.{if◌then◌else◌}
use Rattle.std.specs.Prelude.{flat_map}
use Rattle.std.specs.List.{All}
use Rattle.std.proofs.lemmas.Bool.Decides.{nat_tests}
use Rattle.std.proofs.lemmas.List.{map-append}
use Rattle.std.proofs.lemmas.List.Elements.{All-head, All-tail, All-cons, All-nil, All-append}
use Rattle.cga_lexer.specs.Line.{tokens_of}
use Rattle.cga_rule.specs.declared.grammar.Entry.{Entry}
use Rattle.cga_rule.specs.declared.grammar.Grammar.{Grammar}
use Rattle.cga_syntax.specs.Brackets.{walk}
use Rattle.cga_syntax.specs.GrammarText.{line as ended}
use Rattle.cga_syntax.specs.Least.{least, lesser}
use Rattle.cga_syntax.specs.Lexemes.{is, keyword_of}
use Rattle.cga_syntax.specs.Reading.{AreTokens, AreRead}
use Rattle.cga_syntax.specs.Printing.{printed, text_of}
use Rattle.cga_form.proofs.Door.{nothing, token_first}
use Rattle.cga_fraction.proofs.Door.{nat_lt-zero as not_below}
use Rattle.cga_parser.proofs.Door.{grammar_back}
use Rattle.cga_syntax.proofs.Door.{lexemes, text_read, text_visible}
use Rattle.cga_syntax.specs.declared.lexeme.Lexeme.TheVariants as lexeme
use Rattle.cga_syntax.specs.declared.print.space.Space.TheVariants.{Usual}
use Rattle.cga_form.specs.BlockTells.{BlockTells, Say}
use Rattle.cga_form.specs.Lines.{Line}
use Rattle.cga_form.specs.Tells.{Tells}
use Rattle.cga_parser.specs.Blocks.{block_pieces}
use Rattle.cga_parser.specs.GrammarLines as rules
use Rattle.cga_parser.specs.GrammarLines.{said_of, AreShort}
use Rattle.cga_parser.specs.declared.block_line.BlockLine.{BlockLine}
use Rattle.cga_shape.specs.declared.lot.Lot.{Lot}
use Rattle.cga_shape.specs.declared.sources.Sources.{Sources}
use Rattle.cga_word.specs.declared.mode.Mode.{Mode}
use Rattle.cga_word.specs.declared.mode.Mode.TheVariants as mode
use Rattle.cga_script.specs.declared.city_line.CityLine.{CityLine}
use Rattle.cga_script.specs.declared.city_line.CityLine.TheVariants as line
use Rattle.cga_script.specs.CityLines.{city_pieces, CityTells}
use Rattle.cga_script.specs.DumpLines.{city_said, city_text, city_texts, given, IsSaidLot, IsSpelledCity, IsInside, in_order, IsReadBack}
use Rattle.cga_script.specs.Dumps.{order_text, lot_text, lot_line, grammar_lines, dump_text_of, rule_text, long_ids, least_long, unless_long, dump_of}
use Rattle.cga_script.specs.Orders.{mode_word, order_pieces}
use Rattle.cga_script.proofs.LotBack.{told_by, lot_back, lot_inside, no_end}
use Rattle.cga_script.proofs.Said.{says_alike, blank_alike}
use Rattle.cga_script.proofs.SaidTogether.{wrap, lot_said, rest_said, grammar_same, lots_are, mode_is, three_same}

-- ---- the text

texts_join : (xs ys : List CityLine) → city_texts (xs ++ ys) ≡ city_texts xs ++ city_texts ys
texts_join [] ys = refl
texts_join (c ∷ xs) ys = ap (λ z. ended (city_text c) ++ z) (texts_join xs ys) ∙ sym (append_assoc (ended (city_text c)) (city_texts xs) (city_texts ys))

blocks_text : (bs : List BlockLine) → city_texts (map line.Block bs) ≡ rules.lines_text bs
blocks_text [] = refl
blocks_text (b ∷ bs) = ap (λ z. ended (rules.line_text b) ++ z) (blocks_text bs)

lots_text : (ls : List Lot) → city_texts (map line.Lot ls) ≡ flat_map lot_line ls
unfolding lot_line
lots_text [] = refl
lots_text (l ∷ ls) = ap (λ z. ended (lot_text l) ++ z) (lots_text ls)

-- what stands before a common end is the same
cut_end : (xs ys zs : List ℕ) → xs ++ zs ≡ ys ++ zs → xs ≡ ys
cut_end [] [] zs e = refl
cut_end [] (y ∷ ys) zs e = absurd (let q = ap length e in let p = length-append ys zs in omega (arith, q, p))
cut_end (x ∷ xs) [] zs e = absurd (let q = ap length e in let p = length-append xs zs in omega (arith, q, p))
cut_end (x ∷ xs) (y ∷ ys) zs e =
    let q : x ≡ y = cc in
    let p : xs ++ zs ≡ ys ++ zs = cc in
    ap (λ z. z ∷ xs) q ∙ ap (λ z. y ∷ z) (cut_end xs ys zs p)

cut_front : (xs ys : List ℕ) → codes "rules\n" ++ xs ≡ codes "rules\n" ++ ys → xs ≡ ys
cut_front xs ys e = cc

same_lines : (g : Grammar) → rules.ReadsBack g → rules.lines_text (said_of g) ≡ grammar_lines g
same_lines g back =
    let e : codes "rules\n" ++ (grammar_lines g ++ codes "end\n") ≡ codes "rules\n"
    ++ (rules.lines_text (said_of g) ++ codes "end\n") = ap (λ z. codes "rules\n" ++ z) (append_assoc _ _ (codes "end\n")) ∙ back.text in
    sym (cut_end (grammar_lines g) (rules.lines_text (said_of g)) (codes "end\n") (cut_front _ _ e))

whole_text : (s : Sources) → rules.ReadsBack s.grammar
    → dump_text_of s ≡ ended (codes "version 2") ++
    (ended (codes "city") ++ (city_texts (city_said s) ++ ended (codes "end")))
unfolding dump_text_of
whole_text s back =
    let e : city_texts (map line.Block (said_of s.grammar) ++ map line.Lot s.lots) ≡ grammar_lines s.grammar ++ flat_map lot_line s.lots =
    texts_join (map line.Block (said_of s.grammar)) (map line.Lot s.lots)
    ∙ ap (λ z. z ++ city_texts (map line.Lot s.lots)) (blocks_text (said_of s.grammar)
    ∙ same_lines s.grammar back) ∙ ap (λ z. grammar_lines s.grammar ++ z) (lots_text s.lots) in
    ap (λ z. codes "version 2\ncity\n" ++ z)
    (sym (ap (λ z. (ended (order_text s.mode) ++ z) ++ codes "end\n") e
    ∙ append_assoc (ended (order_text s.mode)) (grammar_lines s.grammar ++ flat_map lot_line s.lots) (codes "end\n")
    ∙ ap (λ z. ended (order_text s.mode) ++ z) (append_assoc (grammar_lines s.grammar) (flat_map lot_line s.lots) (codes "end\n"))))

-- ---- the order

order_tokens : (m : Mode) → AreTokens (lexemes (printed (order_pieces m)))
unfolding keyword_of
order_tokens mode.Breadth = ((refl, refl), ((refl, refl), tt))
order_tokens mode.Depth = ((refl, refl), ((refl, refl), tt))

order_printed : (m : Mode) → text_of (printed (order_pieces m)) ≡ order_text m
order_printed mode.Breadth = refl
order_printed mode.Depth = refl

order_read : (m : Mode) → AreRead (tokens_of (order_text m)) (lexemes (printed (order_pieces m)))
order_read m = subst (λ z. AreRead (tokens_of z) (lexemes (printed (order_pieces m)))) (order_printed m) (text_read (printed (order_pieces m)) (order_tokens m))

order_tells : (m : Mode) → Tells city_pieces 32 (lexemes (printed (order_pieces m))) (Ok (line.Order m))
unfolding walk
order_tells m = ((0, token_first 0 Usual (lexeme.Name (codes "order")) _ _ 0 (token_first 0 Usual (lexeme.Name (mode_word m)) [] [] 0 (nothing 0))), refl)

order_few : (m : Mode) → length (order_text m) ≤ 4096
order_few mode.Breadth = omega arith
order_few mode.Depth = omega arith

order_back : (m : Mode) → BlockTells city_pieces (given (line.Order m)) (Ok (Some (line.Order m)))
order_back m = told_by (line.Order m) (lexeme.Name (codes "order")) (lexeme.Name (mode_word m) ∷ []) (order_read m) (order_tells m) (order_few m)

order_inside : (m : Mode) → IsInside (line.Order m)
order_inside m = (
  subst (λ z. All (λ byte. 32 ≤ byte) z) (order_printed m) (text_visible (printed (order_pieces m)) (order_tokens m)),
  no_end (line.Order m) (lexeme.Name (codes "order")) (lexeme.Name (mode_word m)) [] (order_read m),
)

-- ---- all lines

say_join : (xs ys : List Line) (as' bs : List (Option CityLine)) → Say city_pieces xs as' → Say city_pieces ys bs
    → Say city_pieces (xs ++ ys) (as' ++ bs)
unfolding Say
say_join [] ys [] bs h k = k
say_join [] ys (a ∷ as') bs h k = absurd h
say_join (x ∷ xs) ys [] bs h k = absurd h
say_join (x ∷ xs) ys (a ∷ as') bs h k = (h.0, say_join xs ys as' bs h.1 k)

say_blocks : (ls : List Line) (all : List (Option BlockLine)) → Say block_pieces ls all
    → Say city_pieces ls (map wrap all)
unfolding Say
say_blocks [] [] h = tt
say_blocks [] (a ∷ all) h = absurd h
say_blocks (l ∷ ls) [] h = absurd h
say_blocks (l ∷ ls) (None ∷ all) h = (blank_alike block_pieces city_pieces l h.0, say_blocks ls all h.1)
say_blocks (l ∷ ls) (Some b ∷ all) h = (says_alike block_pieces city_pieces b (line.Block b) refl l h.0, say_blocks ls all h.1)

say_lots : (ls : List Lot) → All IsSaidLot ls → Say city_pieces (map given (map line.Lot ls)) (map lot_said ls)
unfolding Say
say_lots [] h = tt
say_lots (l ∷ ls) h = (lot_back l (All-head IsSaidLot l ls h), say_lots ls (All-tail IsSaidLot l ls h))

blocks_given : (bs : List BlockLine) → map rules.given bs ≡ map given (map line.Block bs)
blocks_given [] = refl
blocks_given (b ∷ bs) = ap (λ z. rules.given b ∷ z) (blocks_given bs)

lines_are : (s : Sources)
    → map given (map line.Block (said_of s.grammar) ++ map line.Lot s.lots) ≡ map rules.given (said_of s.grammar) ++
    map given (map line.Lot s.lots)
lines_are s = map-append given (map line.Block (said_of s.grammar)) (map line.Lot s.lots) ∙ ap (λ z. z ++ map given (map line.Lot s.lots)) (sym (blocks_given (said_of s.grammar)))

say_rest : (s : Sources) (all : List (Option BlockLine)) → Say block_pieces (map rules.given (said_of s.grammar)) all
    → All IsSaidLot s.lots
    → Say city_pieces (map given (map line.Block (said_of s.grammar) ++ map line.Lot s.lots)) (rest_said all s.lots)
say_rest s all h k =
    subst (λ z. Say city_pieces z (rest_said all s.lots)) (sym (lines_are s))
    (say_join (map rules.given (said_of s.grammar)) (map given (map line.Lot s.lots)) (map wrap all) (map lot_said s.lots) (say_blocks (map rules.given (said_of s.grammar)) all h) (say_lots s.lots k))

say_all : (s : Sources) (all : List (Option BlockLine))
    → Say city_pieces (map given (map line.Block (said_of s.grammar) ++ map line.Lot s.lots)) (rest_said all s.lots)
    → Say city_pieces (map given (city_said s)) (Some (line.Order s.mode) ∷ rest_said all s.lots)
unfolding Say
say_all s all h = (order_back s.mode, h)

-- ---- where there is a dump

lesser_some : (best k : ℕ) → (b : ℕ) × (lesser 0 (Some best) k ≡ Some b)
lesser_some best k =
    elim (nat_lt k best) as (λ t. (nat_lt k best ≡ t) → (b : ℕ) × (lesser 0 (Some best) k ≡ Some b)) [
      | true ↦ λ e. (k, ap (λ t. if t then Some best else (if nat_lt k best then Some k else Some best)) (not_below k) ∙ ap (λ t. if t then Some k else Some best) e)
      | false ↦ λ e. (best, ap (λ t. if t then Some best else (if nat_lt k best then Some k else Some best)) (not_below k) ∙ ap (λ t. if t then Some k else Some best) e)
    ] refl

least_some : (ks : List ℕ) (best : ℕ) → (b : ℕ) × (least 0 (Some best) ks ≡ Some b)
least_some [] best = (best, refl)
least_some (k ∷ ks) best = let s = lesser_some best k in let r = least_some ks s.0 in (r.0, ap (λ z. least 0 z ks) s.1 ∙ r.1)

none_least : (ks : List ℕ) → least 0 None ks ≡ None → ks ≡ []
none_least [] e = refl
none_least (k ∷ ks) e =
    let r = least_some ks k in
    let first : lesser 0 None k ≡ Some k = ap (λ t. if t then None else Some k) (not_below k) in
    let q : None ≡ Some r.0 = sym e ∙ ap (λ z. least 0 z ks) first ∙ r.1 in
    absurd (cc)

abbrev IsShort : Entry → Type 0
IsShort e = length (rules.line_text (rules.rule_of e)) ≤ 4096

short_by : (e : Entry) (more : List ℕ) (t : Bool) → nat_lt 4096 (length (rule_text e.rule)) ≡ t
    → (if t then e.rule.id ∷ more else more) ≡ [] → IsShort e × (more ≡ [])
short_by e more true q h = absurd (cc)
short_by e more false q h = (grind (arith, nat_tests), h)

short_all : (es : List Entry) → long_ids es ≡ [] → AreShort es
unfolding long_ids
short_all [] h = All-nil IsShort
short_all (e ∷ es) h = let s = short_by e (long_ids es) (nat_lt 4096 (length (rule_text e.rule))) refl h in All-cons IsShort e es s.0 (short_all es s.1)

dumped_by : (o : Option ℕ) (whole text : List ℕ) → unless_long o whole ≡ Ok text → o ≡ None
dumped_by None whole text e = refl
dumped_by (Some id) whole text e = absurd (cc)

-- ---- altogether

blocks_inside : (bs : List BlockLine) → All rules.IsInside bs → All IsInside (map line.Block bs)
blocks_inside [] h = All-nil IsInside
blocks_inside (b ∷ bs) h = All-cons IsInside (line.Block b) (map line.Block bs) (All-head rules.IsInside b bs h) (blocks_inside bs (All-tail rules.IsInside b bs h))

lots_inside : (ls : List Lot) → All IsSaidLot ls → All IsInside (map line.Lot ls)
lots_inside [] h = All-nil IsInside
lots_inside (l ∷ ls) h = All-cons IsInside (line.Lot l) (map line.Lot ls) (lot_inside l (All-head IsSaidLot l ls h)) (lots_inside ls (All-tail IsSaidLot l ls h))

told_back : (s : Sources) (h : IsSpelledCity s) (back : rules.ReadsBack s.grammar) (text : List ℕ) → dump_of s ≡ Ok text
    → CityTells (map given (city_said s)) (Ok (in_order s))
told_back s h back text e =
    let t = back.told (short_all s.grammar.rules (none_least (long_ids s.grammar.rules) (dumped_by (least_long s.grammar.rules) (dump_text_of s) text e))) in (
      Some (line.Order s.mode) ∷ rest_said t.0 s.lots,
      say_all s t.0 (say_rest s t.0 t.1 h.lots),
      three_same _ _ _ _ _ _ (t.2 ∙ sym (grammar_same s.mode t.0 s.lots)) (sym (lots_are s.mode t.0 s.lots h.names)) (sym (mode_is s.mode t.0 s.lots)),
    )

pub dump_back : (s : Sources) → IsSpelledCity s → IsReadBack s
dump_back s h =
    let back = grammar_back s.grammar h.grammar in
    record {
      text = whole_text s back;
      inside = All-cons IsInside (line.Order s.mode) _ (order_inside s.mode)
          (All-append IsInside (map line.Block (said_of s.grammar)) (map line.Lot s.lots) (blocks_inside (said_of s.grammar) back.inside) (lots_inside s.lots h.lots));
      told = told_back s h back;
      same = back.same;
    }
