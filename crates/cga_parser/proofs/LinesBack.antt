-- The text of a line that some line says tells it.
use Rattle.std.proofs.Common.{◌≡◌, ℕ, ◌+◌, ◌<◌, ◌≤◌, ◌^◌, nat_le, ◌&&◌, Bool, true, false, List, [], ◌∷◌, length, map, Some, Ok, Err, arith, refl, ap, sym, ◌∙◌, subst, codes, if◌then◌else◌}
use Rattle.std.proofs.lemmas.Bool.Decides.{nat_tests}
use Rattle.cga_lexer.specs.Line.{tokens_of, Lexed}
use Rattle.cga_lexer.specs.declared.token.Token.{Token}
use Rattle.cga_lexer.specs.declared.sign.Sign.TheVariants as s
use Rattle.cga_rule.specs.declared.grammar.Attribute.{Attribute}
use Rattle.cga_syntax.specs.declared.lexeme.Lexeme.{Lexeme}
use Rattle.cga_syntax.specs.declared.lexeme.Lexeme.TheVariants as lexeme
use Rattle.cga_rule.specs.declared.rule.Rule.{Rule}
use Rattle.cga_syntax.specs.Brackets.{walk}
use Rattle.cga_syntax.specs.Lexemes.{is, is_reserved}
use Rattle.cga_syntax.specs.declared.print.space.Space.TheVariants.{Usual, NoneBefore}
use Rattle.cga_syntax.specs.Pieces.{Pieces, token, never, number, whole, word, sign as signed, valued, rule_pieces, Writes}
use Rattle.cga_syntax.specs.Printing.{printed, exactly}
use Rattle.cga_syntax.specs.Reading.{AreTokens, AreRead}
use Rattle.cga_syntax.specs.Spelling.{Spelled}
use Rattle.cga_form.proofs.Door.{form_told, head_of, never_written, nothing, token_first}
use Rattle.cga_fraction.proofs.Door.{within_4096 as short_enough}
use Rattle.cga_syntax.proofs.Door.{again, attribute_read, attribute_short, attribute_tokens, attribute_visible}
use Rattle.cga_syntax.proofs.Door.{lexemes, line_tokens, priority_read, priority_short, priority_tokens}
use Rattle.cga_syntax.proofs.Door.{priority_visible, text_read, text_visible}
use Rattle.std.proofs.Common.{append-nil as nil_right}
use Rattle.cga_parser.specs.declared.block_line.BlockLine.{BlockLine}
use Rattle.cga_parser.specs.declared.block_line.BlockLine.TheVariants as line
use Rattle.cga_form.specs.Tells.{Tells}
use Rattle.cga_form.specs.Lines.{Line}
use Rattle.cga_form.specs.BlockTells.{unless_blank, unless_long}
use Rattle.cga_parser.specs.BlockTells.{BlockTells, EndsBlock}
use Rattle.cga_parser.specs.Blocks.{block_pieces, attribute_pieces, priority_pieces, block}
use Rattle.cga_form.specs.Cursor.{seen}
use Rattle.cga_parser.specs.GrammarLines.{line_text, given, IsInside}
use Rattle.cga_parser.proofs.AreForms.{block_form}
use Rattle.cga_parser.proofs.Printable.{says_by, line_says}

-- a text that spells a line, with few enough brackets, tells the line
line_told : (x : List Lexeme) (b : BlockLine) (m : ℕ) → Spelled block_pieces x b → walk 32 x ≡ Some m
    → Tells block_pieces 32 x (Ok b)
line_told = form_told block_pieces block block_form

module _ (b : BlockLine) where
  not_blank : (o : Lexed) (l : Lexeme) (ls : List Lexeme) (end : ℕ) → AreRead o (l ∷ ls)
      → Tells block_pieces 32 (l ∷ ls) (Ok b) → unless_blank block_pieces end o (Ok (Some b))
  not_blank (Err f) l ls end e a = absurd e
  not_blank (Ok []) l ls end e a = absurd (cc)
  not_blank (Ok (t ∷ ts)) l ls end e a = (Ok b, (Ok b, subst (λ z. Tells block_pieces 32 z (Ok b)) (sym e) a, refl), refl)

  -- a short text with the tokens of the line tells it
  by_tokens : (l : Lexeme) (ls : List Lexeme) → AreRead (tokens_of (line_text b)) (l ∷ ls)
      → Tells block_pieces 32 (l ∷ ls) (Ok b) → length (line_text b) ≤ 4096 → BlockTells (given b) (Ok (Some b))
  by_tokens l ls e a few =
      subst (λ t. unless_long block_pieces (line_text b) t (Ok (Some b))) (sym (short_enough (line_text b) few))
      (not_blank (tokens_of (line_text b)) l ls (length (line_text b) + 1) e a)

-- a text whose first token is another than `end` ends no block
module _ (b : BlockLine) where
  first_seen : (o : Lexed) (t : Token) (l : Lexeme) (ls : List Lexeme) → o ≡ Ok (t ∷ []) → AreRead o (l ∷ ls)
      → l ≡ seen t
  first_seen (Err f) t l ls e a = absurd a
  first_seen (Ok []) t l ls e a = absurd (cc)
  first_seen (Ok (u ∷ us)) t l ls e a =
      let p : u ∷ us ≡ t ∷ [] = cc in
      let q : u ≡ t = cc in
      let r : seen u ∷ map seen us ≡ l ∷ ls = a in
      let z : seen u ≡ l = cc in
      sym z ∙ ap seen q

  not_end : (l : Lexeme) (ls : List Lexeme) → AreRead (tokens_of (line_text b)) (l ∷ ls)
      → (l ≡ lexeme.Name (codes "end") → ⊥) → EndsBlock (given b) → ⊥
  not_end l ls a other h = other (first_seen (tokens_of (line_text b)) h.0 l ls h.2 a ∙ h.3)

other_word : (word : List ℕ) → lexeme.Name word ≡ lexeme.Name (codes "end") → is word (codes "end") ≡ false → ⊥
other_word word e h =
    let q : word ≡ codes "end" = cc in
    let z : true ≡ false = ap (λ w. is w (codes "end")) (sym q) ∙ h in cc

-- ---- a priority

in_bounds : (n : ℕ) → n < 2 ^ 16 → (nat_le 0 n && nat_le n 65535) ≡ true
in_bounds n h = grind (arith, nat_tests)

priority_spelled : (n : ℕ) → n < 2 ^ 16 → Spelled block_pieces (priority_tokens n) (line.Priority n)
priority_spelled n h = (
  0,
  subst (λ t. Writes 0 (word (codes "PRIORITY") ∷ (if t then token Usual (number n) else never) ∷ token NoneBefore (lexeme.Sign s.Colon) ∷ []) (priority_tokens n) 0) (sym (in_bounds n h))
      (token_first 0 Usual (lexeme.Name (codes "PRIORITY")) (token Usual (number n) ∷ token NoneBefore (lexeme.Sign s.Colon) ∷ []) (number n ∷ lexeme.Sign s.Colon ∷ []) 0
      (token_first 0 Usual (number n) (token NoneBefore (lexeme.Sign s.Colon) ∷ []) (lexeme.Sign s.Colon ∷ []) 0
      (token_first 0 NoneBefore (lexeme.Sign s.Colon) [] [] 0 (nothing 0)))),
)

priority_walk : (n : ℕ) → walk 32 (priority_tokens n) ≡ Some 32
unfolding walk
priority_walk n = refl

pub priority_back : (n : ℕ) → n < 2 ^ 16 → BlockTells (given (line.Priority n)) (Ok (Some (line.Priority n)))
priority_back n h =
    by_tokens (line.Priority n) (lexeme.Name (codes "PRIORITY")) (number n ∷ lexeme.Sign s.Colon ∷ []) (priority_read n h)
    (line_told (priority_tokens n) (line.Priority n) 32 (priority_spelled n h) (priority_walk n)) (priority_short n h)

pub priority_inside : (n : ℕ) → n < 2 ^ 16 → IsInside (line.Priority n)
priority_inside n h = (
  priority_visible n h,
  not_end (line.Priority n) (lexeme.Name (codes "PRIORITY"))
      (number n ∷ lexeme.Sign s.Colon ∷ []) (priority_read n h) (λ e. other_word (codes "PRIORITY") e refl),
)

-- ---- what some line says

-- the printed tokens are those of some line, and tell the same
record Back (b : BlockLine) : Type 0 where
  tokens : AreTokens (lexemes (printed (block_pieces b)))
  tells : Tells block_pieces 32 (lexemes (printed (block_pieces b))) (Ok b)

back_by : (b : BlockLine) (text : List ℕ) (o : Lexed) → tokens_of text ≡ o → says_by o b → Back b
back_by b text (Ok ts) e h =
    let g = again 0 (block_pieces b) (map seen ts) h.0.0 (line_tokens text ts e) h.0.1 in
    record { tokens = g.tokens; tells = line_told (lexemes (printed (block_pieces b))) b 32 (h.0.0, g.written) (g.brackets 32 ∙ h.1) }
back_by b text (Err f) e h = absurd h

back : (b : BlockLine) (l : Line) → BlockTells l (Ok (Some b)) → Back b
back b l h = back_by b l.bytes (tokens_of l.bytes) refl (line_says b l h)

-- ---- an attribute

name_tokens : (a : Attribute) → is_reserved a.name ≡ false → lexemes (printed (attribute_pieces a)) ≡ attribute_tokens a
name_tokens a e =
    ap (λ t. lexemes (printed (word (codes "attr") ∷ (if t then never else word a.name) ∷ signed s.Assign ∷ valued a.value ∷ []))) e
    ∙ ap (λ z. lexeme.Name (codes "attr") ∷ lexeme.Name a.name ∷ lexeme.Sign s.Assign ∷ lexemes z) (nil_right (exactly a.value.num a.value.above))

proper_by : (a : Attribute) (t : Bool) (x : List Lexeme) (c d : ℕ) → is_reserved a.name ≡ t
    → Writes c ((if t then never else word a.name) ∷ signed s.Assign ∷ valued a.value ∷ []) x d
    → is_reserved a.name ≡ false
proper_by a true x c d e w = absurd (never_written c (signed s.Assign ∷ valued a.value ∷ []) x d w)
proper_by a false x c d e w = e

proper : (a : Attribute) (x : List Lexeme) → Spelled block_pieces x (line.Attribute a) → is_reserved a.name ≡ false
proper a x w =
    let h = head_of 0 Usual (lexeme.Name (codes "attr")) ((if is_reserved a.name then never else word a.name) ∷ signed s.Assign ∷ valued a.value ∷ []) x w.0 w.1 in
    proper_by a (is_reserved a.name) h.0 0 w.0 refl h.2

-- its printed tokens
attribute_is : (a : Attribute) (l : Line) → BlockTells l (Ok (Some (line.Attribute a)))
    → AreTokens (attribute_tokens a) × Tells block_pieces 32 (attribute_tokens a) (Ok (line.Attribute a))
attribute_is a l h =
    let g = back (line.Attribute a) l h in
    let e = name_tokens a (proper a (lexemes (printed (attribute_pieces a))) g.tells.0) in
    (subst AreTokens e g.tokens, subst (λ z. Tells block_pieces 32 z (Ok (line.Attribute a))) e g.tells)

pub attribute_back : (a : Attribute) (l : Line) → BlockTells l (Ok (Some (line.Attribute a)))
    → BlockTells (given (line.Attribute a)) (Ok (Some (line.Attribute a)))
attribute_back a l h =
    let g = attribute_is a l h in
    by_tokens (line.Attribute a) (lexeme.Name (codes "attr")) (lexeme.Name a.name ∷ lexeme.Sign s.Assign
    ∷ lexemes (exactly a.value.num a.value.above)) (attribute_read a g.0) g.1 (attribute_short a g.0)

pub attribute_inside : (a : Attribute) (l : Line) → BlockTells l (Ok (Some (line.Attribute a)))
    → IsInside (line.Attribute a)
attribute_inside a l h =
    let t = (attribute_is a l h).0 in (
      attribute_visible a t,
      not_end (line.Attribute a) (lexeme.Name (codes "attr")) (lexeme.Name a.name ∷ lexeme.Sign s.Assign
          ∷ lexemes (exactly a.value.num a.value.above)) (attribute_read a t) (λ e. other_word (codes "attr") e refl),
    )

-- ---- a rule

bounded : (n : ℕ) → (nat_le 1 n && nat_le n 999999) ≡ true → n < 2 ^ 32
bounded n e = grind (arith, nat_tests)

id_by : (n : ℕ) (ps : Pieces) (x : List Lexeme) (d : ℕ) (t : Bool) → (nat_le 1 n && nat_le n 999999) ≡ t
    → Writes 0 ((if t then token Usual (number n) else never) ∷ ps) x d
    → (y : List Lexeme) × (x ≡ number n ∷ y) × (n < 2 ^ 32)
id_by n ps x d true e w = let h = head_of 0 Usual (number n) ps x d w in (h.0, h.1, bounded n e)
id_by n ps x d false e w = absurd (never_written 0 ps x d w)

-- a rule begins with its id
id_first : (r : Rule) (x : List Lexeme) → Spelled rule_pieces x r
    → (y : List Lexeme) × (x ≡ number r.id ∷ y) × (r.id < 2 ^ 32)
unfolding rule_pieces
id_first r x w = id_by r.id _ x w.0 (nat_le 1 r.id && nat_le r.id 999999) refl w.1

rule_some : (r : Rule) → Spelled rule_pieces [] r → ⊥
rule_some r w = let h = id_first r [] w in let q : [] ≡ number r.id ∷ h.0 = h.1 in cc

rule_by : (r : Rule) (x : List Lexeme) → lexemes (printed (rule_pieces r)) ≡ x → Back (line.Rule r)
    → length (line_text (line.Rule r)) ≤ 4096 → BlockTells (given (line.Rule r)) (Ok (Some (line.Rule r)))
rule_by r [] e g = absurd (rule_some r (subst (λ z. Spelled rule_pieces z r) e g.tells.0))
rule_by r (l ∷ ls) e g =
    by_tokens (line.Rule r) l ls (subst (λ z. AreRead (tokens_of (line_text (line.Rule r))) z) e (text_read (printed (rule_pieces r)) g.tokens))
    (subst (λ z. Tells block_pieces 32 z (Ok (line.Rule r))) e g.tells)

pub rule_back : (r : Rule) (l : Line) → BlockTells l (Ok (Some (line.Rule r))) → length (line_text (line.Rule r)) ≤ 4096
    → BlockTells (given (line.Rule r)) (Ok (Some (line.Rule r)))
rule_back r l h = rule_by r (lexemes (printed (rule_pieces r))) refl (back (line.Rule r) l h)

rule_not_end : (r : Rule) (y : List Lexeme) → lexemes (printed (rule_pieces r)) ≡ number r.id ∷ y
    → AreTokens (lexemes (printed (rule_pieces r))) → EndsBlock (given (line.Rule r)) → ⊥
rule_not_end r y e t =
    not_end (line.Rule r) (number r.id) y (subst (λ z. AreRead (tokens_of (line_text (line.Rule r))) z) e
    (text_read (printed (rule_pieces r)) t)) (λ q. let z : number r.id ≡ lexeme.Name (codes "end") = q in cc)

pub rule_inside : (r : Rule) (l : Line) → BlockTells l (Ok (Some (line.Rule r))) → IsInside (line.Rule r)
rule_inside r l h =
    let g = back (line.Rule r) l h in
    let f = id_first r (lexemes (printed (rule_pieces r))) g.tells.0 in
    (text_visible (printed (rule_pieces r)) g.tokens, rule_not_end r f.0 f.1 g.tokens)

-- ---- bounds

pub id_bound : (r : Rule) (l : Line) → BlockTells l (Ok (Some (line.Rule r))) → r.id < 2 ^ 32
id_bound r l h = (id_first r (lexemes (printed (rule_pieces r))) (back (line.Rule r) l h).tells.0).2

few : (n : ℕ) → (nat_le 0 n && nat_le n 65535) ≡ true → n < 2 ^ 16
few n e = grind (arith, nat_tests)

few_by : (n : ℕ) (ps : Pieces) (x : List Lexeme) (c d : ℕ) (t : Bool) → (nat_le 0 n && nat_le n 65535) ≡ t
    → Writes c ((if t then token Usual (number n) else never) ∷ ps) x d → n < 2 ^ 16
few_by n ps x c d true e w = few n e
few_by n ps x c d false e w = absurd (never_written c ps x d w)

few_spelled : (n : ℕ) (x : List Lexeme) → Spelled block_pieces x (line.Priority n) → n < 2 ^ 16
few_spelled n x w =
    let h = head_of 0 Usual (lexeme.Name (codes "PRIORITY")) (whole 0 65535 n ∷ token NoneBefore (lexeme.Sign s.Colon) ∷ []) x w.0 w.1 in
    few_by n (token NoneBefore (lexeme.Sign s.Colon) ∷ []) h.0 0 w.0 (nat_le 0 n && nat_le n 65535) refl h.2

pub priority_bound : (n : ℕ) (l : Line) → BlockTells l (Ok (Some (line.Priority n))) → n < 2 ^ 16
priority_bound n l h = few_spelled n (lexemes (printed (priority_pieces n))) (back (line.Priority n) l h).tells.0
