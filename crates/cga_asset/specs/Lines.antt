-- What the lines of an asset say.
use Rattle.std.specs.Prelude.{ℕ, ◌+◌, ◌==◌, ◌||◌, ◌&&◌, Bool, false, min, not, nat_le, bytes_eq, codes, List, [], ◌∷◌, ◌++◌, length, Option, Some, None, Result, Ok, Err, if◌then◌else◌}
use Rattle.std.specs.List.{count_by, list_all, list_any}
use Rattle.cga_form.specs.Lines.{Line, is_long}
use Rattle.cga_fraction.specs.Rat.{Rat}
use Rattle.cga_fraction.specs.Results.{and_then}
use Rattle.cga_frame.specs.declared.point.Point.{Point}
use Rattle.cga_solid.specs.declared.solid_mesh.SolidMesh.{SolidMesh}
use Rattle.cga_asset.specs.Words.{coordinate_of, corner_of, most_lines, words_of}
use Rattle.cga_asset.specs.declared.fault.AssetFault.{AssetFault}
use Rattle.cga_asset.specs.declared.fault.AssetFault.TheVariants.{LineTooLong, UnknownLine, BadVertex, BadFace, TooManyVertices, TooManyFaces, NoFace}
use Rattle.cga_asset.specs.declared.asset_line.AssetLine.{AssetLine}
use Rattle.cga_asset.specs.declared.asset_line.AssetLine.TheVariants.{Passed, Vertex, Face, Unknown}

-- ---- one line

-- a comment
abbrev pub is_comment : List ℕ → Bool
is_comment [] = false
is_comment (b ∷ bs) = b == 35

-- the first words of lines that are passed over
abbrev pub passed_words : List (List ℕ)
passed_words = codes "o" ∷ codes "g" ∷ codes "s" ∷ codes "l" ∷ codes "vn" ∷ codes "vt" ∷ codes "vp" ∷ codes "usemtl" ∷ codes "mtllib" ∷ []

abbrev pub is_passed : List ℕ → Bool
is_passed w = is_comment w || list_any (bytes_eq w) passed_words

abbrev pub is_vertex : List ℕ → Bool
is_vertex w = bytes_eq w (codes "v")

abbrev pub is_face : List ℕ → Bool
is_face w = bytes_eq w (codes "f")

abbrev pub point_of : Option Rat → Option Rat → Option Rat → Option Point
point_of (Some x) (Some y) (Some z) = Some (record { x = x; y = y; z = z })
point_of x y z = None

-- the first three words are coordinates, and further ones are passed over
abbrev pub vertex_of : List (List ℕ) → Option Point
vertex_of (x ∷ y ∷ z ∷ more) = point_of (coordinate_of x) (coordinate_of y) (coordinate_of z)
vertex_of other = None

abbrev pub onto_corner : Option ℕ → Option (List ℕ) → Option (List ℕ)
onto_corner (Some n) (Some ns) = Some (n ∷ ns)
onto_corner a b = None

-- each word is a corner
abbrev pub corners_of : ℕ → List (List ℕ) → Option (List ℕ)
corners_of before [] = Some []
corners_of before (w ∷ ws) = onto_corner (corner_of before w) (corners_of before ws)

-- 3 to 64 of them
abbrev pub face_of : ℕ → List (List ℕ) → Option (List ℕ)
face_of before ws = if nat_le 3 (length ws) && nat_le (length ws) 64 then corners_of before ws else None

-- what a line says by its first word, where so many vertices stand before it
unfoldable pub said_of : ℕ → List (List ℕ) → AssetLine
said_of before [] = Passed
said_of before (w ∷ ws) =
    if is_passed w then Passed
    else if is_vertex w then Vertex (vertex_of ws)
    else if is_face w then Face (face_of before ws)
    else Unknown

-- ---- all lines

abbrev pub begins_vertex : List (List ℕ) → Bool
begins_vertex [] = false
begins_vertex (w ∷ ws) = is_vertex w

-- a line that isn't long and whose first word is `v`
abbrev pub is_vertex_line : Line → Bool
is_vertex_line l = not (is_long l) && begins_vertex (words_of l.bytes)

-- the number of lines, which stays at the last one that there is
abbrev pub counted : ℕ → ℕ
counted n = min n most_lines

-- how many lines begin with `v`, faulty ones and those past the limit among them
abbrev pub vertex_lines : List Line → ℕ
vertex_lines lines = counted (count_by is_vertex_line lines)

abbrev pub most_vertices : ℕ
most_vertices = 10000

abbrev pub most_faces : ℕ
most_faces = 10000

abbrev pub with_vertex : SolidMesh → Point → SolidMesh
with_vertex a p = record { vertices = a.vertices ++ p ∷ []; faces = a.faces }

abbrev pub with_face : SolidMesh → List ℕ → SolidMesh
with_face a f = record { vertices = a.vertices; faces = a.faces ++ f ∷ [] }

-- each corner is at most the number of lines that begin with `v`
abbrev pub fits : ℕ → List ℕ → Bool
fits total corners = list_all (λ n. nat_le n total) corners

-- line n is added to what the lines before it gave
abbrev pub added : ℕ → ℕ → SolidMesh → AssetLine → Result SolidMesh AssetFault
added total n a Passed = Ok a
added total n a Unknown = Err (UnknownLine n)
added total n a (Vertex None) = Err (BadVertex n)
added total n a (Vertex (Some p)) = if nat_le most_vertices (length a.vertices) then Err (TooManyVertices n) else Ok (with_vertex a p)
added total n a (Face None) = Err (BadFace n)
added total n a (Face (Some f)) =
    if not (fits total f) then Err (BadFace n)
    else if nat_le most_faces (length a.faces) then Err (TooManyFaces n)
    else Ok (with_face a f)

unfoldable pub with_line : ℕ → ℕ → SolidMesh → Line → Result SolidMesh AssetFault
with_line total n a l = if is_long l then Err (LineTooLong n) else added total n a (said_of (length a.vertices) (words_of l.bytes))

-- the lines from number n on, one after the other
abbrev pub with_lines : ℕ → ℕ → SolidMesh → List Line → Result SolidMesh AssetFault
with_lines total n a [] = Ok a
with_lines total n a (l ∷ ls) = and_then (with_line total (counted n) a l) (λ b. with_lines total (n + 1) b ls)

abbrev pub no_mesh : SolidMesh
no_mesh = record { vertices = []; faces = [] }

abbrev pub unless_faceless : SolidMesh → Result SolidMesh AssetFault
unless_faceless a = if length a.faces == 0 then Err NoFace else Ok a

-- the asset that lines state, or the first fault
unfoldable pub asset_of : List Line → Result SolidMesh AssetFault
asset_of lines = and_then (with_lines (vertex_lines lines) 1 no_mesh lines) unless_faceless
