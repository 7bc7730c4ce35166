-- The order of derivation as a line: what it is written as, and how it is read.
use Rattle.std.specs.Prelude.{ℕ, List, [], ◌∷◌, Option, codes}
use Rattle.cga_syntax.specs.Pieces.{Pieces, word}
use Rattle.cga_syntax.specs.declared.lexeme.Lexeme.{Lexeme}
use Rattle.cga_syntax.specs.declared.lexeme.Lexeme.TheVariants as lexeme
use Rattle.cga_form.specs.Reader.{Reader, ◌>>=◌, ◌>>◌, pure, single}
use Rattle.cga_form.specs.Parts.{a_word}
use Rattle.cga_form.specs.Tokens.{beside, chosen}
use Rattle.cga_word.specs.declared.mode.Mode.{Mode}
use Rattle.cga_word.specs.declared.mode.Mode.TheVariants as mode

-- the word of a mode
abbrev pub mode_word : Mode → List ℕ
mode_word mode.Breadth = codes "breadth"
mode_word mode.Depth = codes "depth"

-- which mode
abbrev pub a_mode : Lexeme → Option Mode
a_mode = chosen (beside (λ m. lexeme.Name (mode_word m)) (mode.Breadth ∷ mode.Depth ∷ []))

-- the word `order`, and the word of the mode
abbrev pub order_pieces : Mode → Pieces
order_pieces m = word (codes "order") ∷ word (mode_word m) ∷ []

-- how it is read
unfoldable pub order : Reader Mode
order = single (a_word (codes "order")) >> (single a_mode >>= λ m. pure m)
