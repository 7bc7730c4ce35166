-- What a line spells, printed, spells it again.
use Rattle.std.proofs.Common.{◌≡◌, ℕ, List, Ok, Err, refl, subst, sym}
use Rattle.cga_lexer.specs.Line.{Lexed, tokens_of}
use Rattle.cga_syntax.specs.declared.lexeme.Lexeme.{Lexeme}
use Rattle.cga_syntax.specs.Pieces.{Pieces}
use Rattle.cga_syntax.specs.Printing.{printed, text_of}
use Rattle.cga_syntax.specs.Reading.{AreRead, seen_of, lexed_spells, LineSpells, IsPrintedWell}
use Rattle.cga_syntax.specs.Spelling.{Spelled}
use Rattle.cga_syntax.proofs.Again.{lexemes, again, have_texts}
use Rattle.cga_syntax.proofs.Back.{text_read}
use Rattle.cga_syntax.proofs.Tokens.{line_tokens}

module _ {A : Type 0} (w : A → Pieces) (a : A) where
  read_as : (o : Lexed) (ls : List Lexeme) → AreRead o ls → Spelled w ls a → lexed_spells w o a
  read_as (Ok ts) ls e h = subst (λ z. Spelled w z a) (sym e) h
  read_as (Err f) ls e h = absurd e

  printed_well : (line : List ℕ) (o : Lexed) → tokens_of line ≡ o → lexed_spells w o a → IsPrintedWell w a
  printed_well line (Ok ts) e h =
      let g = again 0 (w a) (seen_of ts) h.0 (line_tokens line ts e) h.1 in
      (have_texts (printed (w a)) g.tokens, read_as (tokens_of (text_of (printed (w a)))) (lexemes (printed (w a))) (text_read (printed (w a)) g.tokens) (h.0, g.written))
  printed_well line (Err f) e h = absurd h

  pub spelled_again : (line : List ℕ) → LineSpells w line a → IsPrintedWell w a
  spelled_again line h = printed_well line (tokens_of line) refl h
