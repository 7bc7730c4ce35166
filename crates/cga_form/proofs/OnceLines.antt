-- A line tells one thing.
use Rattle.std.proofs.Common.{◌≡◌, ℕ, ◌+◌, Bool, true, false, List, map, length, Result, Ok, Err, ap, sym, ◌∙◌}
use Rattle.cga_lexer.specs.Line.{tokens_of}
use Rattle.cga_lexer.specs.declared.token.Token.{Token}
use Rattle.cga_lexer.specs.declared.fault.LexFault.{LexFault}
use Rattle.cga_syntax.specs.declared.lexeme.Lexeme.{Lexeme}
use Rattle.cga_syntax.specs.Pieces.{Pieces}
use Rattle.cga_syntax.specs.Spelling.{Spelled}
use Rattle.cga_form.specs.declared.line_fault.LineFault.{LineFault}
use Rattle.cga_form.specs.Cursor.{seen}
use Rattle.cga_form.specs.LineTells.{with_place, by_tokens, by_length, LineTells}
use Rattle.cga_form.proofs.Once.{one_telling}

-- ---- one line

module _ {A : Type 0} (w : A → Pieces) (unique : (text : List Lexeme) (a b : A) → Spelled w text a → Spelled w text b → a ≡ b) where
  -- where no text spells two members, the tokens of a line, or the lexer's fault, tell one thing
  pub once_tokens : (end : ℕ) (o : Result (List Token) LexFault) (f g : Result A LineFault) → by_tokens w end o f
      → by_tokens w end o g → f ≡ g
  once_tokens end (Err e) f g h k = h ∙ sym k
  once_tokens end (Ok ts) f g h k = h.2 ∙ ap (λ z. with_place end ts z) (one_telling w 32 unique (map seen ts) h.0 k.0 h.1 k.1) ∙ sym k.2

  once_length : (bytes : List ℕ) (b : Bool) (f g : Result A LineFault) → by_length w bytes b f → by_length w bytes b g
      → f ≡ g
  once_length bytes true f g h k = h ∙ sym k
  once_length bytes false f g h k = once_tokens (length bytes + 1) (tokens_of bytes) f g h k

  -- where no text spells two members, the bytes of a line tell one thing
  pub once_line : (bytes : List ℕ) (f g : Result A LineFault) → LineTells w bytes f → LineTells w bytes g → f ≡ g
  once_line bytes f g h k = once_length bytes _ f g h k
