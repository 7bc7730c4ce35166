-- What lines are read as is what they tell.
use Rattle.std.proofs.Common.{◌≡◌, ℕ, suc, ◌+◌, List, [], ◌∷◌, ◌++◌, length, map, Bool, true, false, Option, Result, Ok, Err, refl, ap, subst, ◌∙◌, arith}
use Rattle.cga_fraction.specs.Results.{and_then}
use Rattle.cga_lexer.specs.Line.{tokens_of}
use Rattle.cga_lexer.specs.declared.token.Token.{Token}
use Rattle.cga_lexer.specs.declared.fault.LexFault.{LexFault}
use Rattle.cga_syntax.specs.Pieces.{Pieces}
use Rattle.cga_syntax.specs.declared.lexeme.Lexeme.{Lexeme}
use Rattle.cga_form.specs.declared.block_fault.BlockFault.{BlockFault}
use Rattle.cga_form.specs.BlockTells.{Found, BlockTells, unless_blank, unless_long, Say, AllTells, line_number}
use Rattle.cga_form.specs.Cursor.{seen}
use Rattle.cga_form.specs.Laws.{IsForm}
use Rattle.cga_form.specs.Lines.{Line, is_long}
use Rattle.cga_form.specs.LineTells.{by_length, by_tokens}
use Rattle.cga_form.specs.Parts.{complete}
use Rattle.cga_form.specs.Reader.{Reader, ReadResult, at}
use Rattle.cga_form.specs.Tells.{Tells}
use Rattle.cga_form.proofs.Door.{form_found, form_refused}
use Rattle.cga_top.specs.Told.{read_of, told_of, line_told, found_of, line_found, lines_found, block_told}

module _ {A : Type 0} (w : A → Pieces) (p : ℕ → Reader A) (form : IsForm w p) where
  read_tells : (text : List Lexeme) (o : ReadResult A) → complete (p 32) (at text 0) ≡ o → Tells w 32 text (read_of o)
  read_tells text (Ok q) e = form_found w p form 32 text q.0 q.1 e
  read_tells text (Err fault) e = form_refused w p form 32 text fault e

  tokens_tell : (end : ℕ) (o : Result (List Token) LexFault) → by_tokens w end o (told_of (p 32) end o)
  tokens_tell end (Err fault) = refl
  tokens_tell end (Ok tokens) = (read_of (complete (p 32) (at (map seen tokens) 0)), read_tells (map seen tokens) (complete (p 32) (at (map seen tokens) 0)) refl, refl)

  length_tells : (bytes : List ℕ) (long : Bool) (line : Line) → line.bytes ≡ bytes → is_long line ≡ long
      → by_length w bytes long (line_told (p 32) line)
  unfolding line_told
  length_tells bytes true line e l = rw l refl
  length_tells bytes false line e l = rw l
      (subst (λ b. by_tokens w (length b + 1) (tokens_of b)
      (told_of (p 32) (length line.bytes + 1) (tokens_of line.bytes))) e (tokens_tell (length line.bytes + 1) (tokens_of line.bytes)))

  pub line_tells : (line : Line) → by_length w line.bytes (is_long line) (line_told (p 32) line)
  line_tells line = length_tells line.bytes (is_long line) line refl refl

  -- ---- blocks

  blank_tells : (end : ℕ) (o : Result (List Token) LexFault) → unless_blank w end o (found_of (p 32) end o)
  blank_tells end (Err fault) = refl
  blank_tells end (Ok []) = refl
  blank_tells end (Ok (t ∷ ts)) = (told_of (p 32) end (Ok (t ∷ ts)), tokens_tell end (Ok (t ∷ ts)), refl)

  long_tells : (bytes : List ℕ) (long : Bool) (line : Line) → line.bytes ≡ bytes → is_long line ≡ long
      → unless_long w bytes long (line_found (p 32) line)
  unfolding line_found
  long_tells bytes true line e l = rw l refl
  long_tells bytes false line e l = rw l
      (subst (λ b. unless_blank w (length b + 1) (tokens_of b)
      (found_of (p 32) (length line.bytes + 1) (tokens_of line.bytes))) e (blank_tells (length line.bytes + 1) (tokens_of line.bytes)))

  line_finds : (line : Line) → BlockTells w line (line_found (p 32) line)
  line_finds line = long_tells line.bytes (is_long line) line refl refl

  -- lines that are numbered from a number on, where the earlier ones said something
  abbrev Tell : ℕ → List Line → Result (List (Option A)) BlockFault → Type 0
  Tell n lines (Ok all) = Say w lines all
  Tell n lines (Err f) =
      (before : List Line) × (l : Line) × (after : List Line) × (all : List (Option A))
      × (lines ≡ before ++ l ∷ after) × Say w before all × BlockTells w l (Err f.fault) × (f.line ≡ line_number (n + length before))

  one_more : (n : ℕ) (line : Line) (lines : List Line) (said : Option A) (more : Result (List (Option A)) BlockFault)
      → BlockTells w line (Ok said) → Tell (suc n) lines more
      → Tell n (line ∷ lines) (and_then more (λ all. Ok (said ∷ all)))
  unfolding Say
  one_more n line lines said (Ok all) h t = (h, t)
  one_more n line lines said (Err f) h t =
      (line ∷ t.0, t.1, t.2, said ∷ t.3, ap (λ (ls : List Line). line ∷ ls) t.4, (h, t.5), t.6, t.7 ∙ ap line_number (omega arith))

  -- by what the first line tells
  first_tells : (n : ℕ) (line : Line) (lines : List Line) (found : Found A) → BlockTells w line found
      → line_found (p 32) line ≡ found → Tell (suc n) lines (lines_found (p 32) (suc n) lines)
      → Tell n (line ∷ lines) (lines_found (p 32) n (line ∷ lines))
  unfolding lines_found Say
  first_tells n line lines (Ok said) h e t = rw e (one_more n line lines said (lines_found (p 32) (suc n) lines) h t)
  first_tells n line lines (Err f) h e t = rw e ([], line, lines, [], refl, tt, h, ap line_number (omega arith))

  lines_tell : (n : ℕ) (lines : List Line) → Tell n lines (lines_found (p 32) n lines)
  unfolding lines_found Say
  lines_tell n [] = tt
  lines_tell n (line ∷ lines) = first_tells n line lines (line_found (p 32) line) (line_finds line) refl (lines_tell (suc n) lines)

  together : {B : Type 0} (says : List (Option A) → B) (lines : List Line) (found : Result (List (Option A)) BlockFault)
      → Tell 1 lines found → lines_found (p 32) 1 lines ≡ found → AllTells w says lines (block_told (p 32) says lines)
  unfolding block_told
  together says lines (Ok all) t e = rw e (all, t, refl)
  together says lines (Err f) t e = rw e (t.0, t.1, t.2, t.3, t.4, t.5, t.6, t.7 ∙ ap line_number (omega arith))

  pub block_tells : {B : Type 0} (says : List (Option A) → B) (lines : List Line)
      → AllTells w says lines (block_told (p 32) says lines)
  block_tells says lines = together says lines (lines_found (p 32) 1 lines) (lines_tell 1 lines) refl
