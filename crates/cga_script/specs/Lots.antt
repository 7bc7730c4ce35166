-- The line of a lot: what it is written as, and how it is read.
use Rattle.std.specs.Prelude.{ℕ, List, [], ◌∷◌, codes}
use Rattle.cga_fraction.specs.Rat.{Rat}
use Rattle.cga_syntax.specs.Pieces.{Pieces, word, named, whole, valued}
use Rattle.cga_form.specs.Limits.{last_seed}
use Rattle.cga_form.specs.Reader.{Reader, ◌>>=◌, pure, single}
use Rattle.cga_form.specs.Parts.{a_word, name, seed, value, pair}
use Rattle.cga_shape.specs.declared.lot.Lot.{Lot}

-- the word `lot`, a name, a seed, four values and a symbol
abbrev pub lot_pieces : Lot → Pieces
lot_pieces l = word (codes "lot") ∷ named l.name ∷ whole 0 last_seed l.seed ∷ valued l.x ∷ valued l.z ∷ valued l.width ∷ valued l.depth ∷ named l.symbol ∷ []

-- what the tokens stand for, one after the other
abbrev pub LotParts : Type 0
LotParts = Unit {0} × (List ℕ × (ℕ × (Rat × (Rat × (Rat × (Rat × List ℕ))))))

-- the lot of these parts
abbrev pub lot_of : LotParts → Lot
lot_of p = record { name = p.1.0; seed = p.1.1.0; x = p.1.1.1.0; z = p.1.1.1.1.0; width = p.1.1.1.1.1.0; depth = p.1.1.1.1.1.1.0; symbol = p.1.1.1.1.1.1.1 }

-- the parts of this lot
abbrev pub parts_of : Lot → LotParts
parts_of l = (tt, (l.name, (l.seed, (l.x, (l.z, (l.width, (l.depth, l.symbol)))))))

-- how it is read
unfoldable pub lot : Reader Lot
lot = pair (single (a_word (codes "lot"))) (pair name (pair seed (pair value (pair value (pair value (pair value name)))))) >>= λ p. pure (lot_of p)
