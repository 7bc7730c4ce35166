-- What a line says as a line of one kind of block, it says as one of another where both are written alike.
use Rattle.std.proofs.Common.{◌≡◌, ℕ, ◌+◌, Bool, true, false, List, [], ◌∷◌, length, map, Option, Some, None, Result, Ok, Err, refl, subst, sym}
use Rattle.cga_lexer.specs.Line.{Lexed, lex, tokens_of}
use Rattle.cga_lexer.specs.declared.token.Token.{Token}
use Rattle.cga_syntax.specs.declared.lexeme.Lexeme.{Lexeme}
use Rattle.cga_syntax.specs.Pieces.{Pieces, Writes}
use Rattle.cga_form.specs.declared.fault.Fault.{Fault}
use Rattle.cga_form.specs.declared.line_fault.LineFault.{LineFault}
use Rattle.cga_form.specs.BlockTells.{Found, as_line, unless_blank, unless_long, BlockTells, Say}
use Rattle.cga_form.specs.Cursor.{seen}
use Rattle.cga_form.specs.LineTells.{with_place, by_tokens}
use Rattle.cga_form.specs.Lines.{Line, is_long}
use Rattle.cga_form.specs.Tells.{Tells}
use Rattle.cga_parser.specs.Blocks.{block_pieces}
use Rattle.cga_script.specs.declared.city_line.CityLine.{CityLine}
use Rattle.cga_script.specs.declared.city_line.CityLine.TheVariants as line
use Rattle.cga_script.specs.CityLines.{city_pieces, rules_part}
use Rattle.cga_fraction.proofs.Door.{same_Ok}

same_line : {A : Type 0} (a b : A) → ◌≡◌ {A = Found A} (Ok (Some a)) (Ok (Some b)) → b ≡ a
same_line a b h = cc

module _ {A : Type 0} (v : A → Pieces) (a : A) where
  placed_value : (end : ℕ) (ts : List Token) (found : Result A Fault)
      → ◌≡◌ {A = Result A LineFault} (Ok a) (with_place end ts found) → Tells v 32 (map seen ts) found
      → Tells v 32 (map seen ts) (Ok a)
  placed_value end ts (Ok b) e h = subst (λ z. Tells v 32 (map seen ts) (Ok z)) (sym (same_Ok a b e)) h
  placed_value end ts (Err f) e h = absurd (cc)

  -- what the tokens of a line tell that is a member
  pub tokens_tell : (end : ℕ) (ts : List Token) → by_tokens v end (Ok ts) (Ok a) → Tells v 32 (map seen ts) (Ok a)
  tokens_tell end ts h = placed_value end ts h.0 h.2 h.1

  line_tells : (end : ℕ) (ts : List Token) (found : Result A LineFault) → by_tokens v end (Ok ts) found
      → ◌≡◌ {A = Found A} (Ok (Some a)) (as_line found) → Tells v 32 (map seen ts) (Ok a)
  line_tells end ts (Ok said) h e = tokens_tell end ts (subst (λ z. by_tokens v end (Ok ts) (Ok z)) (same_line a said e) h)
  line_tells end ts (Err f) h e = absurd (cc)

module _ {A B : Type 0} (v : A → Pieces) (w : B → Pieces) (a : A) (b : B) (same : v a ≡ w b) where
  spelled_alike : (text : List Lexeme) → Tells v 32 text (Ok a) → Tells w 32 text (Ok b)
  spelled_alike text h = ((h.0.0, subst (λ z. Writes 0 z text h.0.0) same h.0.1), h.1)

  unless_blank_alike : (end : ℕ) (o : Lexed) → unless_blank v end o (Ok (Some a)) → unless_blank w end o (Ok (Some b))
  unless_blank_alike end (Err f) h = absurd (cc)
  unless_blank_alike end (Ok []) h = absurd (let q : Some a ≡ None = cc in cc)
  unless_blank_alike end (Ok (t ∷ ts)) h = (Ok b, (Ok b, spelled_alike (map seen (t ∷ ts)) (line_tells v a end (t ∷ ts) h.0 h.1 h.2), refl), refl)

  unless_long_alike : (bytes : List ℕ) (long : Bool) → unless_long v bytes long (Ok (Some a))
      → unless_long w bytes long (Ok (Some b))
  unless_long_alike bytes true h = absurd (cc)
  unless_long_alike bytes false h = unless_blank_alike (length bytes + 1) (tokens_of bytes) h

  pub says_alike : (l : Line) → BlockTells v l (Ok (Some a)) → BlockTells w l (Ok (Some b))
  says_alike l h = unless_long_alike l.bytes (is_long l) h

-- ---- the lines of rules and attributes among those of a city

abbrev blank : Line
blank = record { bytes = []; long = false }

blank_says : BlockTells block_pieces blank (Ok None)
unfolding lex
blank_says = refl

pub rule_lines : (lines : List Line) (all : List (Option CityLine)) → Say city_pieces lines all
    → (ls : List Line) × Say block_pieces ls (map rules_part all)
unfolding Say
rule_lines [] [] h = ([], tt)
rule_lines [] (said ∷ all) h = absurd h
rule_lines (l ∷ lines) [] h = absurd h
rule_lines (l ∷ lines) (Some (line.Block b) ∷ all) h = let r = rule_lines lines all h.1 in (l ∷ r.0, (says_alike city_pieces block_pieces (line.Block b) b refl l h.0, r.1))
rule_lines (l ∷ lines) (Some (line.Order m) ∷ all) h = let r = rule_lines lines all h.1 in (blank ∷ r.0, (blank_says, r.1))
rule_lines (l ∷ lines) (Some (line.Lot x) ∷ all) h = let r = rule_lines lines all h.1 in (blank ∷ r.0, (blank_says, r.1))
rule_lines (l ∷ lines) (None ∷ all) h = let r = rule_lines lines all h.1 in (blank ∷ r.0, (blank_says, r.1))

-- ---- the tokens of a line that says a member

module _ {A : Type 0} (v : A → Pieces) (a : A) where
  by_lexed : (bytes : List ℕ) (o : Lexed) → tokens_of bytes ≡ o → unless_blank v (length bytes + 1) o (Ok (Some a))
      → (ts : List Token) × (tokens_of bytes ≡ Ok ts) × Tells v 32 (map seen ts) (Ok a)
  by_lexed bytes (Err f) e h = absurd (cc)
  by_lexed bytes (Ok []) e h = absurd (let q : Some a ≡ None = cc in cc)
  by_lexed bytes (Ok (t ∷ ts)) e h = (t ∷ ts, e, line_tells v a (length bytes + 1) (t ∷ ts) h.0 h.1 h.2)

  by_long : (bytes : List ℕ) (long : Bool) → unless_long v bytes long (Ok (Some a))
      → (ts : List Token) × (tokens_of bytes ≡ Ok ts) × Tells v 32 (map seen ts) (Ok a)
  by_long bytes true h = absurd (cc)
  by_long bytes false h = by_lexed bytes (tokens_of bytes) refl h

  pub line_says : (l : Line) → BlockTells v l (Ok (Some a))
      → (ts : List Token) × (tokens_of l.bytes ≡ Ok ts) × Tells v 32 (map seen ts) (Ok a)
  line_says l h = by_long l.bytes (is_long l) h

-- ---- blank lines

module _ {A B : Type 0} (v : A → Pieces) (w : B → Pieces) where
  no_member : (found : Result A LineFault) → ◌≡◌ {A = Found A} (Ok None) (as_line found) → ⊥
  no_member (Ok said) e = absurd (cc)
  no_member (Err f) e = absurd (cc)

  blank_by : (end : ℕ) (o : Lexed) → unless_blank v end o (Ok None) → unless_blank w end o (Ok None)
  blank_by end (Err f) h = absurd (cc)
  blank_by end (Ok []) h = refl
  blank_by end (Ok (t ∷ ts)) h = absurd (no_member h.0 h.2)

  blank_long : (bytes : List ℕ) (long : Bool) → unless_long v bytes long (Ok None) → unless_long w bytes long (Ok None)
  blank_long bytes true h = absurd (cc)
  blank_long bytes false h = blank_by (length bytes + 1) (tokens_of bytes) h

  pub blank_alike : (l : Line) → BlockTells v l (Ok None) → BlockTells w l (Ok None)
  blank_alike l h = blank_long l.bytes (is_long l) h
