-- The lines of cubes and quads by the ends of their scope.
use Rattle.std.proofs.Common.{◌≡◌, ℕ, ◌∙◌, List, [], ◌∷◌, ◌++◌, Bool, true, false, Result, Ok, Err, codes, length, map, refl, sym, ap, append_assoc}
use Rattle.std.specs.Prelude.{IsOk, flat_map, if◌then◌else◌}
use Rattle.std.proofs.lemmas.List.{append-nil}
use Rattle.cga_fraction.specs.Rat.{Rat}
use Rattle.cga_fraction.specs.Texts.{decimal_text_of}
use Rattle.cga_fraction.proofs.Door.{and_then-ok, err_if-ok, same_Ok}
use Rattle.cga_word.specs.declared.primitive.Primitive.{Primitive}
use Rattle.cga_word.specs.declared.primitive.Primitive.TheVariants as primitive
use Rattle.cga_frame.specs.Scope.{Scope, world_point}
use Rattle.cga_frame.specs.declared.point.Point.{Point}
use Rattle.cga_solid.specs.Corners.{corners_of}
use Rattle.cga_solid.specs.Faces.{faces_of, four}
use Rattle.cga_solid.specs.Solids.{all_placed, check_solid_of, fault_of, form_of, lacks_size, mesh_in, mesh_of, placed, vertices_of}
use Rattle.cga_solid.specs.declared.solid_fault.SolidFault.{SolidFault}
use Rattle.cga_solid.specs.declared.solid_mesh.SolidMesh.{SolidMesh}
use Rattle.cga_solid.proofs.Door.{placed_is}
use Rattle.cga_obj.specs.Boxes.{AreSpans, along_span, coordinate_text, corner_in, corner_line, cube_corners, face_by, first_ends, first_text, further_ends, is_far, point_at, quad_corners}
use Rattle.cga_obj.specs.Meshes.{corner_text, face_line, mesh_or_none, mesh_text, vertex_line}
use Rattle.cga_obj.specs.Plain.{box_mesh, cube_faces, quad_faces}
use Rattle.cga_obj.specs.declared.corner.Corner.{Corner}
use Rattle.cga_obj.specs.declared.ends.Ends.{Ends}
use Rattle.cga_obj.specs.declared.span.Span.{Span}

-- ---- vertices

-- the text of the end is that of the coordinate
picked : (b : Bool) (mark : Rat → List ℕ) (far near : Rat)
    → (if b then mark far else mark near) ≡ mark (if b then far else near)
picked true mark far near = refl
picked false mark far near = refl

ends_by : (Rat → List ℕ) → Span → Ends
ends_by mark s = record { axis = s.axis; near = mark s.near; far = mark s.far }

three_texts : (s n x y z : List ℕ) → (x ++ s) ++ ((y ++ s) ++ (z ++ n)) ≡ ((((x ++ s) ++ y) ++ s) ++ z) ++ n
three_texts s n x y z =
    sym (append_assoc (x ++ s) (y ++ s) (z ++ n)) ∙ sym (append_assoc ((x ++ s) ++ (y ++ s)) z n)
    ∙ ap (λ (t : List ℕ). (t ++ z) ++ n) (sym (append_assoc (x ++ s) y s))

line_is : (decimals : ℕ) (x y z : Span) (c : Corner)
    → corner_line (first_ends decimals x) (further_ends decimals 32 y) (further_ends decimals 10 z) c
    ≡ vertex_line decimals (point_at x y z c)
unfolding vertex_line
line_is decimals x y z c =
    rw (
      picked (is_far c x.axis) (first_text decimals) x.far x.near,
      picked (is_far c y.axis) (coordinate_text decimals (32 ∷ [])) y.far y.near,
      picked (is_far c z.axis) (coordinate_text decimals (10 ∷ [])) z.far z.near,
    )
    (ap (λ (t : List ℕ). codes "v " ++ t) (three_texts (32 ∷ []) (10 ∷ [])
    (decimal_text_of (along_span x c) decimals) (decimal_text_of (along_span y c) decimals) (decimal_text_of (along_span z c) decimals)))

pub lines_are : (decimals : ℕ) (x y z : Span) (cs : List Corner)
    → flat_map (corner_line (first_ends decimals x) (further_ends decimals 32 y) (further_ends decimals 10 z)) cs
    ≡ flat_map (vertex_line decimals) (map (point_at x y z) cs)
lines_are decimals x y z [] = refl
lines_are decimals x y z (c ∷ cs) = rw (line_is decimals x y z c, lines_are decimals x y z cs) refl

pub vertices_are : (decimals : ℕ) (x y z : Span) (cs : List Corner) (ex ey ez : Ends) (old new : List ℕ)
    → ex ≡ first_ends decimals x
    → ey ≡ further_ends decimals 32 y
    → ez ≡ further_ends decimals 10 z
    → new ≡ old ++ flat_map (corner_line ex ey ez) cs
    → new ≡ old ++ flat_map (vertex_line decimals) (map (point_at x y z) cs)
vertices_are decimals x y z cs ex ey ez old new p q r e =
    e ∙ rw (p, q, r) (ap (λ (t : List ℕ). old ++ t) (lines_are decimals x y z cs))

-- ---- faces

four_texts : (f n a b c d : List ℕ) → f ++ (a ++ (b ++ (c ++ (d ++ n)))) ≡ f ++ ((a ++ (b ++ (c ++ (d ++ [])))) ++ n)
four_texts f n a b c d =
    ap (λ (t : List ℕ). f ++ t) (sym (append_assoc a (b ++ (c ++ (d ++ []))) n
    ∙ ap (λ (t : List ℕ). a ++ t) (append_assoc b (c ++ (d ++ [])) n
    ∙ ap (λ (t : List ℕ). b ++ t) (append_assoc c (d ++ []) n ∙ ap (λ (t : List ℕ). c ++ t) (append_assoc d [] n)))))

-- one face more, by the texts of its numbers
pub one_face : (before i j k l : ℕ) (a b c d old new rest : List ℕ) → new ≡ old ++ face_by a b c d
    → a ≡ corner_text before i → b ≡ corner_text before j → c ≡ corner_text before k → d ≡ corner_text before l
    → new ++ rest ≡ old ++ (face_line before (four i j k l) ++ rest)
unfolding face_line
one_face before i j k l a b c d old new rest e p q r s =
    rw (e, p, q, r, s) (append_assoc old _ rest
    ∙ ap (λ (t : List ℕ). old ++ (t ++ rest)) (four_texts (codes "f") (codes "\n") (corner_text before i) (corner_text before j) (corner_text before k) (corner_text before l)))

module _ (before : ℕ) (a b c d : List ℕ)
    (ea : a ≡ corner_text before 1) (eb : b ≡ corner_text before 2) (ec : c ≡ corner_text before 3)
    (ed : d ≡ corner_text before 4) where
  -- the face of a quad
  pub quad_lines : (t u : List ℕ) → u ≡ t ++ face_by a b c d → u ≡ t ++ flat_map (face_line before) quad_faces
  quad_lines t u p = sym (append-nil u) ∙ one_face before 1 2 3 4 a b c d t u [] p ea eb ec ed

  module _ (e f g h : List ℕ)
      (ee : e ≡ corner_text before 5) (ef : f ≡ corner_text before 6) (eg : g ≡ corner_text before 7)
      (eh : h ≡ corner_text before 8) where
    -- the faces of a cube, one after the other
    pub cube_lines : (t u v w x y z : List ℕ) → u ≡ t ++ face_by d c g h
        → v ≡ u ++ face_by c b f g → w ≡ v ++ face_by b a e f
        → x ≡ w ++ face_by a d h e → y ≡ x ++ face_by h g f e → z ≡ y ++ face_by a b c d
        → z ≡ t ++ flat_map (face_line before) cube_faces
    cube_lines t u v w x y z p q r s k m =
        sym (append-nil z) ∙ one_face before 1 2 3 4 a b c d y z [] m ea eb ec ed
        ∙ one_face before 8 7 6 5 h g f e x y _ k eh eg ef ee
        ∙ one_face before 1 4 8 5 a d h e w x _ s ea ed eh ee
        ∙ one_face before 2 1 5 6 b a e f v w _ r eb ea ee ef
        ∙ one_face before 3 2 6 7 c b f g u v _ q ec eb ef eg
        ∙ one_face before 4 3 7 8 d c g h t u _ p ed ec eg eh

-- ---- meshes

all_placed_is : (s : Scope) (cs vs : List Point) → all_placed s cs ≡ Ok vs → map (world_point s.at s.frame) cs ≡ vs
all_placed_is s [] vs h = same_Ok [] vs h
all_placed_is s (c ∷ cs) vs h =
    let a = and_then-ok (placed s c) _ vs h in
    let b = and_then-ok (all_placed s cs) _ vs a.2 in
    rw (placed_is s c a.0 a.1, all_placed_is s cs b.0 b.1) (same_Ok (a.0 ∷ b.0) vs b.2)

spanned : (s : Scope) (along : Span × Span × Span) (cs : List Corner) → AreSpans s along.0 along.1 along.2
    → map (world_point s.at s.frame) (map (corner_in s.size) cs) ≡ map (point_at along.0 along.1 along.2) cs
spanned s along [] h = refl
spanned s along (c ∷ cs) h = rw (h c, spanned s along cs h) refl

made_of : (r : Result SolidMesh SolidFault) → IsOk (fault_of r) → (m : SolidMesh) × (r ≡ Ok m)
made_of (Ok m) h = (m, refl)
made_of (Err e) h = let x : false ≡ true = h in absurd (cc)

-- a mesh that is given has the vertices and the faces of its form
parts_of : (kind : Primitive) (s : Scope) (m : SolidMesh) → mesh_of kind s ≡ Ok m
    → (vs : List Point) × (vertices_of (form_of kind s.size) s ≡ Ok vs) × (mesh_in (form_of kind s.size) vs ≡ m)
unfolding mesh_of
parts_of kind s m h =
    let a = and_then-ok (vertices_of (form_of kind s.size) s) _ m (err_if-ok (lacks_size kind s.size) _ _ m h).1 in (a.0, a.1, same_Ok _ m a.2)

pub cube_is : (s : Scope) (along : Span × Span × Span) → IsOk (check_solid_of primitive.Cube s)
    → AreSpans s along.0 along.1 along.2
    → mesh_or_none (mesh_of primitive.Cube s) ≡ box_mesh cube_faces cube_corners along
unfolding corners_of faces_of
cube_is s along ok h =
    let made = made_of (mesh_of primitive.Cube s) ok in
    let parts = parts_of primitive.Cube s made.0 made.1 in
    let at : map (world_point s.at s.frame) (map (corner_in s.size) cube_corners) ≡ parts.0 = all_placed_is s (map (corner_in s.size) cube_corners) parts.0 parts.1 in
    ap mesh_or_none made.1 ∙ sym parts.2 ∙ ap (mesh_in (form_of primitive.Cube s.size)) (sym at ∙ spanned s along cube_corners h)

pub quad_is : (s : Scope) (along : Span × Span × Span) → IsOk (check_solid_of primitive.Quad s)
    → AreSpans s along.0 along.1 along.2
    → mesh_or_none (mesh_of primitive.Quad s) ≡ box_mesh quad_faces quad_corners along
unfolding corners_of faces_of
quad_is s along ok h =
    let made = made_of (mesh_of primitive.Quad s) ok in
    let parts = parts_of primitive.Quad s made.0 made.1 in
    let at : map (world_point s.at s.frame) (map (corner_in s.size) quad_corners) ≡ parts.0 = all_placed_is s (map (corner_in s.size) quad_corners) parts.0 parts.1 in
    ap mesh_or_none made.1 ∙ sym parts.2 ∙ ap (mesh_in (form_of primitive.Quad s.size)) (sym at ∙ spanned s along quad_corners h)

-- so the lines of its vertices and of its faces are those of its mesh
lines_of : (decimals before : ℕ) (m : SolidMesh) (t u v : List ℕ) → u ≡ t ++ flat_map (vertex_line decimals) m.vertices
    → v ≡ u ++ flat_map (face_line before) m.faces → v ≡ t ++ mesh_text decimals before m
unfolding mesh_text
lines_of decimals before m t u v p q = q ∙ rw p (append_assoc t (flat_map (vertex_line decimals) m.vertices) (flat_map (face_line before) m.faces))

pub cube_pushed : (s : Scope) (along : Span × Span × Span) (decimals before : ℕ) (t u v : List ℕ)
    → IsOk (check_solid_of primitive.Cube s) → AreSpans s along.0 along.1 along.2
    → u ≡ t ++ flat_map (vertex_line decimals) (map (point_at along.0 along.1 along.2) cube_corners)
    → v ≡ u ++ flat_map (face_line before) cube_faces
    → v ≡ t ++ mesh_text decimals before (mesh_or_none (mesh_of primitive.Cube s))
cube_pushed s along decimals before t u v ok h p q =
    rw (cube_is s along ok h) (lines_of decimals before (box_mesh cube_faces cube_corners along) t u v p q)

pub cube_count : (s : Scope) (along : Span × Span × Span) → IsOk (check_solid_of primitive.Cube s)
    → AreSpans s along.0 along.1 along.2 → 8 ≡ length (mesh_or_none (mesh_of primitive.Cube s)).vertices
cube_count s along ok h = rw (cube_is s along ok h) refl

pub quad_pushed : (s : Scope) (along : Span × Span × Span) (decimals before : ℕ) (t u v : List ℕ)
    → IsOk (check_solid_of primitive.Quad s) → AreSpans s along.0 along.1 along.2
    → u ≡ t ++ flat_map (vertex_line decimals) (map (point_at along.0 along.1 along.2) quad_corners)
    → v ≡ u ++ flat_map (face_line before) quad_faces
    → v ≡ t ++ mesh_text decimals before (mesh_or_none (mesh_of primitive.Quad s))
quad_pushed s along decimals before t u v ok h p q =
    rw (quad_is s along ok h) (lines_of decimals before (box_mesh quad_faces quad_corners along) t u v p q)

pub quad_count : (s : Scope) (along : Span × Span × Span) → IsOk (check_solid_of primitive.Quad s)
    → AreSpans s along.0 along.1 along.2 → 4 ≡ length (mesh_or_none (mesh_of primitive.Quad s)).vertices
quad_count s along ok h = rw (quad_is s along ok h) refl
