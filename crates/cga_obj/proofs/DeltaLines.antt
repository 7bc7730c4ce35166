-- The lines of a change: no line feed stands in one, and the text has them.
use Rattle.std.proofs.Common.{◌≡◌, ◌∙◌, ℕ, zero, suc, ◌+◌, ◌/◌, ◌%◌, List, [], ◌∷◌, ◌++◌, refl, sym, ap, arith, Bool, true, false, append-nil, append_assoc, nat_eq, map, All}
use Rattle.std.specs.Prelude.{◌&&◌, decimal, ℤ, pos, negsuc, codes, flat_map, length, if◌then◌else◌, IsTrue, nat_lt, ◌==◌}
use Rattle.std.specs.Fmt.{digit_glyph, digits, digits_onto, signed_decimal}
use Rattle.std.specs.List.{list_all, onto_first, slice_split}
use Rattle.std.proofs.lemmas.Bool.{and_parts}
use Rattle.std.proofs.lemmas.List.Concat.{flat_map-cons}
use Rattle.std.proofs.lemmas.List.Elements.{All-head, All-tail}
use Rattle.std.proofs.lemmas.List.Splits.{slice_split-cons_no}
use Rattle.cga_fraction.proofs.Door.{nat_eq_from_ne}
use Rattle.cga_fraction.specs.Rat.{Rat}
use Rattle.cga_fraction.specs.Texts.{exact_text_of}
use Rattle.cga_frame.specs.Axes.{Frame, axis_of, direction}
use Rattle.cga_frame.specs.declared.direction.Direction.{Direction}
use Rattle.cga_frame.specs.declared.direction.Direction.TheVariants.{PlusX, MinusX, PlusY, MinusY, PlusZ, MinusZ}
use Rattle.cga_frame.specs.declared.point.Point.{Point}
use Rattle.cga_shape.specs.declared.changes.Changes.{Changes}
use Rattle.cga_shape.specs.declared.drawn.Drawn.{Drawn}
use Rattle.cga_word.specs.Name.{begins_name, continues_name, is_name}
use Rattle.cga_word.specs.declared.axis.Axis.TheVariants.{X, Y, Z}
use Rattle.cga_word.specs.declared.primitive.Primitive.{Primitive}
use Rattle.cga_word.specs.declared.primitive.Primitive.TheVariants.{Cube, Quad, Shed, Gable, Hip}
use Rattle.cga_obj.specs.DeltaLaws.{IsNamed, TextHasLines}
use Rattle.cga_obj.specs.Delta.{axes_text, delta_lines, delta_text_of, drawn_text, header, header_line, if_any, line_text, point_text, signed_line, told_lines, told_text}
use Rattle.cga_obj.specs.DeltaWords.{direction_word, primitive_word}
use Rattle.cga_obj.proofs.DeltaCuts.{Lacks, lacks_by, lacks_more}

-- no byte is a line feed
abbrev IsLine : List ℕ → Type 0
IsLine line = Lacks 10 line

both : (xs ys : List ℕ) → IsLine xs → IsLine ys → IsLine (xs ++ ys)
both = lacks_more 10

-- ---- numbers

glyph : (upper : Bool) (d : ℕ) → digit_glyph upper d ≡ 10 → ⊥
glyph upper d e = by (nat_lt d 10) upper e
  where
    by : (low upper : Bool) → (if low then 48 + d else (if upper then 55 + d else 87 + d)) ≡ 10 → ⊥
    by true upper e = omega (arith, e)
    by false true e = omega (arith, e)
    by false false e = omega (arith, e)

either : (b : Bool) (xs ys : List ℕ) → IsLine xs → IsLine ys → IsLine (if b then xs else ys)
either true xs ys h k = h
either false xs ys h k = k

onto : (k n : ℕ) (acc : List ℕ) → IsLine acc → IsLine (digits_onto k 10 false n acc)
onto zero n acc h = h
onto (suc k) n acc h =
    let one : IsLine (digit_glyph false (n % 10) ∷ acc) = (glyph false (n % 10), h) in
    either (n / 10 == 0) (digit_glyph false (n % 10) ∷ acc) (digits_onto k 10 false (n / 10) (digit_glyph false (n % 10) ∷ acc)) one
    (onto k (n / 10) (digit_glyph false (n % 10) ∷ acc) one)

whole : (n : ℕ) → IsLine (decimal n)
unfolding digits
whole n = onto 64 n [] tt

signed : (z : ℤ) → IsLine (signed_decimal z)
signed (pos n) = whole n
signed (negsuc n) = ((λ e. omega (arith, e)), whole (suc n))

exact : (a : Rat) → IsLine (exact_text_of a)
unfolding exact_text_of
exact a =
    let above : List ℕ = decimal (a.above + 1) in
    both (signed_decimal a.num) (if a.above == 0 then [] else (47 ∷ above)) (signed a.num)
    (either (a.above == 0) [] (47 ∷ above) tt ((λ e. omega (arith, e)), whole (a.above + 1)))

-- ---- words

abbrev other : ℕ → Bool
other byte = if nat_eq byte 10 then false else true

name : (text : List ℕ) → IsTrue (is_name text) → IsLine text
name [] h = tt
name (c ∷ cs) h =
    let a = and_parts (begins_name c && nat_lt (length cs) 32) (list_all continues_name cs) h in
    let b = and_parts (begins_name c) (nat_lt (length cs) 32) a.0 in
    let none : begins_name 10 ≡ false = refl in
    ((λ e. let bad : true ≡ false = sym b.0 ∙ ap begins_name e ∙ none in cc), lacks_by continues_name 10 refl cs a.1)

solid : (p : Primitive) → IsLine (primitive_word p)
unfolding primitive_word
solid Cube = lacks_by other 10 refl (primitive_word Cube) refl
solid Quad = lacks_by other 10 refl (primitive_word Quad) refl
solid Shed = lacks_by other 10 refl (primitive_word Shed) refl
solid Gable = lacks_by other 10 refl (primitive_word Gable) refl
solid Hip = lacks_by other 10 refl (primitive_word Hip) refl

way : (d : Direction) → IsLine (direction_word d)
unfolding direction_word
way PlusX = lacks_by other 10 refl (direction_word PlusX) refl
way MinusX = lacks_by other 10 refl (direction_word MinusX) refl
way PlusY = lacks_by other 10 refl (direction_word PlusY) refl
way MinusY = lacks_by other 10 refl (direction_word MinusY) refl
way PlusZ = lacks_by other 10 refl (direction_word PlusZ) refl
way MinusZ = lacks_by other 10 refl (direction_word MinusZ) refl

blank : IsLine (codes " ")
blank = lacks_by other 10 refl (codes " ") refl

point : (p : Point) → IsLine (point_text p)
unfolding point_text
point p =
    let x = exact_text_of p.x in let y = exact_text_of p.y in let z = exact_text_of p.z in
    let one = codes " " ++ x in let two = (one ++ codes " ") ++ y in
    both (two ++ codes " ") z (both two (codes " ") (both (one ++ codes " ") y (both one (codes " ") (both (codes " ") x blank (exact p.x)) blank) (exact p.y)) blank) (exact p.z)

axes : (f : Frame) → IsLine (axes_text f)
unfolding axes_text
axes f =
    let x = direction_word (direction (axis_of f X)) in
    let y = direction_word (direction (axis_of f Y)) in
    let z = direction_word (direction (axis_of f Z)) in
    both ((codes " " ++ x) ++ y) z (both (codes " " ++ x) y (both (codes " ") x blank (way (direction (axis_of f X)))) (way (direction (axis_of f Y)))) (way (direction (axis_of f Z)))

drawn : (d : Drawn) → IsNamed d → IsLine (drawn_text d)
unfolding drawn_text
drawn d h =
    let at = point_text d.scope.at in let size = point_text d.scope.size in let frame = axes_text d.scope.frame in
    let one = d.lot ++ codes " " in let two = one ++ d.symbol in let three = two ++ codes " " in
    let four = three ++ primitive_word d.primitive in
    let first = both three (primitive_word d.primitive)
    (both two (codes " ") (both one d.symbol (both d.lot (codes " ") (name d.lot h.lot) blank) (name d.symbol h.symbol)) blank) (solid d.primitive) in
    both ((four ++ at) ++ frame) size (both (four ++ at) frame (both four at first (point d.scope.at)) (axes d.scope.frame)) (point d.scope.size)

-- ---- lines of a text

abbrev ends : ℕ → Bool
ends byte = byte == 10

first_line : (line rest : List ℕ) → IsLine line → slice_split ends (line ++ 10 ∷ rest) ≡ line ∷ slice_split ends rest
first_line [] rest h = refl
first_line (x ∷ line) rest h =
    slice_split-cons_no ends x (line ++ 10 ∷ rest) (nat_eq_from_ne x 10 h.0) ∙ ap (onto_first x) (first_line line rest h.1)

line_split : (sign : List ℕ) → IsLine sign → (d : Drawn) → IsNamed d → (rest : List ℕ)
    → slice_split ends (line_text sign d ++ rest) ≡ signed_line sign d ∷ slice_split ends rest
unfolding line_text
line_split sign s d h rest =
    ap (slice_split ends) (append_assoc (sign ++ drawn_text d) (10 ∷ []) rest)
    ∙ first_line (sign ++ drawn_text d) rest (both sign (drawn_text d) s (drawn d h))

lines_split : (sign : List ℕ) → IsLine sign → (ds : List Drawn) → All IsNamed ds → (rest : List ℕ)
    → slice_split ends (flat_map (line_text sign) ds ++ rest) ≡ map (signed_line sign) ds ++ slice_split ends rest
lines_split sign s [] h rest = refl
lines_split sign s (d ∷ ds) h rest =
    let more = flat_map (line_text sign) ds in
    ap (λ (t : List ℕ). slice_split ends (t ++ rest)) (flat_map-cons (line_text sign) d ds)
    ∙ ap (slice_split ends) (append_assoc (line_text sign d) more rest)
    ∙ line_split sign s d (All-head IsNamed d ds h) (more ++ rest)
    ∙ ap (λ (l : List (List ℕ)). signed_line sign d ∷ l) (lines_split sign s ds (All-tail IsNamed d ds h) rest)

header_split : (gone come : ℕ) (rest : List ℕ)
    → slice_split ends (header gone come ++ rest) ≡ header_line gone come ∷ slice_split ends rest
unfolding header
header_split gone come rest =
    let word : List ℕ = codes "# changed " in
    let one : IsLine (word ++ decimal gone) = both word (decimal gone) (lacks_by other 10 refl word refl) (whole gone) in
    let two : IsLine ((word ++ decimal gone) ++ codes " ") = both (word ++ decimal gone) (codes " ") one blank in
    ap (slice_split ends) (append_assoc (header_line gone come) (10 ∷ []) rest)
    ∙ first_line (header_line gone come) rest (both ((word ++ decimal gone) ++ codes " ") (decimal come) two (whole come))

abbrev minus : List ℕ
minus = codes "- "

abbrev plus : List ℕ
plus = codes "+ "

-- the lines of a change, and behind the last nothing
told_split : (c : Changes) → All IsNamed c.gone → All IsNamed c.come
    → slice_split ends (told_text c) ≡ told_lines c ++ [] ∷ []
unfolding told_text
told_split c h k =
    let first = header (length c.gone) (length c.come) in
    let removed = flat_map (line_text minus) c.gone in
    let created = flat_map (line_text plus) c.come in
    let one = map (signed_line minus) c.gone in
    let two = map (signed_line plus) c.come in
    ap (slice_split ends) (append_assoc first removed created)
    ∙ header_split (length c.gone) (length c.come) (removed ++ created)
    ∙ ap (λ (l : List (List ℕ)). header_line (length c.gone) (length c.come) ∷ l)
    (lines_split minus (lacks_by other 10 refl minus refl) c.gone h created
    ∙ ap (λ (l : List (List ℕ)). one ++ l)
    (ap (slice_split ends) (sym (append-nil created)) ∙ lines_split plus (lacks_by other 10 refl plus refl) c.come k [])
    ∙ sym (append_assoc one two ([] ∷ [])))

by_some : (gone come : List Drawn) (text : List ℕ) (lines : List (List ℕ)) → slice_split ends text ≡ lines ++ [] ∷ []
    → slice_split ends (if_any gone come text) ≡ if_any gone come lines ++ [] ∷ []
by_some [] [] text lines e = refl
by_some [] (d ∷ ds) text lines e = e
by_some (d ∷ ds) come text lines e = e

pub text_has_lines : TextHasLines
unfolding delta_text_of delta_lines
text_has_lines c named = by_some c.gone c.come (told_text c) (told_lines c) (told_split c named.0 named.1)
