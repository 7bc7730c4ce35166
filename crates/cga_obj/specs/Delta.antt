-- The text of what an edit changed.
use Rattle.std.specs.Prelude.{ℕ, List, [], ◌∷◌, ◌++◌, codes, decimal, flat_map, length, map}
use Rattle.cga_fraction.specs.Texts.{exact_text_of}
use Rattle.cga_frame.specs.Axes.{Frame, axis_of, direction}
use Rattle.cga_frame.specs.declared.point.Point.{Point}
use Rattle.cga_shape.specs.declared.changes.Changes.{Changes}
use Rattle.cga_shape.specs.declared.drawn.Drawn.{Drawn}
use Rattle.cga_word.specs.declared.axis.Axis.TheVariants.{X, Y, Z}
use Rattle.cga_obj.specs.DeltaWords.{direction_word, primitive_word}

-- three exact numbers, a blank before each
unfoldable pub point_text : Point → List ℕ
point_text p = codes " " ++ exact_text_of p.x ++ codes " " ++ exact_text_of p.y ++ codes " " ++ exact_text_of p.z

-- the directions in which a scope's axes point, X, Y and Z, as one word behind a blank
unfoldable pub axes_text : Frame → List ℕ
axes_text f = codes " " ++ direction_word (direction (axis_of f X)) ++ direction_word (direction (axis_of f Y)) ++ direction_word (direction (axis_of f Z))

-- the lot, the symbol of the shape that emitted the instance, the primitive, and the scope: its position, axes and sizes
unfoldable pub drawn_text : Drawn → List ℕ
drawn_text d =
    d.lot ++ codes " " ++ d.symbol ++ codes " " ++ primitive_word d.primitive ++ point_text d.scope.at ++ axes_text d.scope.frame ++ point_text d.scope.size

-- an instance behind its sign
unfoldable pub line_text : List ℕ → Drawn → List ℕ
line_text sign d = sign ++ drawn_text d ++ codes "\n"

-- how many went and how many came
unfoldable pub header : ℕ → ℕ → List ℕ
header gone come = codes "# changed " ++ decimal gone ++ codes " " ++ decimal come ++ codes "\n"

-- the numbers, then what went, then what came
unfoldable pub told_text : Changes → List ℕ
told_text c = header (length c.gone) (length c.come) ++ flat_map (line_text (codes "- ")) c.gone ++ flat_map (line_text (codes "+ ")) c.come

-- nothing where nothing went and nothing came
abbrev pub if_any : {A : Type 0} → List Drawn → List Drawn → List A → List A
if_any [] [] all = []
if_any [] (d ∷ ds) all = all
if_any (d ∷ ds) come all = all

-- the text of the changes, and nothing if nothing changed
unfoldable pub delta_text_of : Changes → List ℕ
delta_text_of c = if_any c.gone c.come (told_text c)

-- ---- lines, without their ends

abbrev pub header_line : ℕ → ℕ → List ℕ
header_line gone come = codes "# changed " ++ decimal gone ++ codes " " ++ decimal come

abbrev pub signed_line : List ℕ → Drawn → List ℕ
signed_line sign d = sign ++ drawn_text d

-- the numbers, then what went, then what came
abbrev pub told_lines : Changes → List (List ℕ)
told_lines c =
    header_line (length c.gone) (length c.come) ∷ (map (signed_line (codes "- ")) c.gone ++ map (signed_line (codes "+ ")) c.come)

-- the lines of the changes, and none if nothing changed
unfoldable pub delta_lines : Changes → List (List ℕ)
delta_lines c = if_any c.gone c.come (told_lines c)
