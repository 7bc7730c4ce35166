-- What a line of a change tells, and what a reader of changes has.
use Rattle.std.specs.Prelude.{◌≡◌, ◌+◌, ◌≤◌, ◌==◌, ℕ, List, [], ◌∷◌, ◌++◌, All, Bool, None, bytes_eq, codes, count_by, IsSomeAnd, IsTrue}
use Rattle.std.specs.List.{slice_split}
use Rattle.cga_fraction.specs.Rat.{IsFraction}
use Rattle.cga_frame.specs.Axes.{IsFrame}
use Rattle.cga_frame.specs.declared.point.Point.{Point}
use Rattle.cga_shape.specs.declared.changes.Changes.{Changes}
use Rattle.cga_shape.specs.declared.drawn.Drawn.{Drawn}
use Rattle.cga_word.specs.Name.{is_name}
use Rattle.cga_obj.specs.DeltaReader.{Having, nothing, read_lines, with_one}
use Rattle.cga_obj.specs.Delta.{delta_lines, delta_text_of, drawn_text}

-- each coordinate is a fraction
pub record IsExact (p : Point) : Type 0 where
  pub x : IsFraction p.x
  pub y : IsFraction p.y
  pub z : IsFraction p.z

-- an instance with names that are names, a frame that is one, and fractions
pub record IsDrawn (d : Drawn) : Type 0 where
  pub lot : IsTrue (is_name d.lot)
  pub symbol : IsTrue (is_name d.symbol)
  pub at : IsExact d.scope.at
  pub frame : IsFrame d.scope.frame
  pub size : IsExact d.scope.size

-- no two such instances have one text
abbrev pub TextTellsInstance : Type 0
TextTellsInstance = (d e : Drawn) → IsDrawn d → IsDrawn e → drawn_text d ≡ drawn_text e → d ≡ e

-- ---- lines

-- the names are names
pub record IsNamed (d : Drawn) : Type 0 where
  pub lot : IsTrue (is_name d.lot)
  pub symbol : IsTrue (is_name d.symbol)

-- those of each instance of a change
abbrev pub AreNamed : Changes → Type 0
AreNamed c = All IsNamed c.gone × All IsNamed c.come

-- cut at its line feeds, the text of such a change is its lines, and nothing stands behind the last
abbrev pub TextHasLines : Type 0
TextHasLines =
    (c : Changes) → AreNamed c → slice_split (λ byte. byte == 10) (delta_text_of c) ≡ delta_lines c ++ [] ∷ []

-- ---- readers

-- what went was there, and what was there with what came is what is there then with what went, each as often
pub record LeadsTo (old new : List Drawn) (c : Changes) : Type 0 where
  pub there : (test : Drawn → Bool) → count_by test c.gone ≤ count_by test old
  pub balance : (test : Drawn → Bool)
      → count_by test old + count_by test c.come ≡ count_by test new + count_by test c.gone

-- the reader has each line as often as there are instances with it
abbrev pub Has : Having → List Drawn → Type 0
Has mine list = (line : List ℕ) → mine line ≡ count_by (λ d. bytes_eq line (drawn_text d)) list

-- who has what was there reads all lines of the change, so never takes away what isn't there, and then has what is there
abbrev pub ReadersFollow : Type 0
ReadersFollow =
    (old new : List Drawn) (c : Changes) → LeadsTo old new c → (mine : Having) → Has mine old
    → IsSomeAnd (read_lines (delta_lines c) mine) (λ now. Has now new)

-- ---- worked rows

-- each is computed from the definition of a reader
pub record RowsAreRead : Type 0 where
  -- what isn't there isn't taken away, though the same line comes behind it
  pub none : read_lines (codes "- a" ∷ codes "+ a" ∷ []) nothing ≡ None
  -- of two equal lines one goes
  pub twice : IsSomeAnd (read_lines (codes "+ a" ∷ codes "+ a" ∷ codes "- a" ∷ []) nothing) (λ now. now (codes "a") ≡ 1)
  -- a line may go and come in one change, and the first line says nothing of what is drawn
  pub again : IsSomeAnd
      (read_lines (codes "# changed 1 2" ∷ codes "- a" ∷ codes "+ b" ∷ codes "+ a" ∷ []) (with_one (codes "a") nothing))
      (λ now. (now (codes "a") ≡ 1) × (now (codes "b") ≡ 1) × (now (codes "c") ≡ 0))
