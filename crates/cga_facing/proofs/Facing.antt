-- Each face looks outwards, by the computed test of its form.
use Rattle.std.proofs.Common.{◌≡◌, ℕ, ◌*◌, ◌<◌, List, [], ◌∷◌, length, Bool, true, false, if◌then◌else◌, refl, subst, sym, Contains, Ok}
use Rattle.cga_fraction.specs.Rat.{zero_rat}
use Rattle.cga_fraction.specs.Order.{rat_le, rat_lt}
use Rattle.cga_word.specs.declared.primitive.Primitive.{Primitive}
use Rattle.cga_word.specs.declared.primitive.Primitive.TheVariants as primitive
use Rattle.cga_frame.specs.Axes.{IsFrame}
use Rattle.cga_frame.specs.Scope.{Scope, world_point}
use Rattle.cga_frame.specs.declared.point.Point.{Point}
use Rattle.cga_solid.specs.Corners.{corners_of}
use Rattle.cga_solid.specs.Faces.{edges_of, faces_of, four, ridge_along_x, ridge_along_z, three}
use Rattle.cga_solid.specs.Solids.{all_placed, form_of, lacks_size}
use Rattle.cga_solid.specs.declared.solid_mesh.SolidMesh.{SolidMesh}
use Rattle.cga_facing.specs.Facing.{IsCorner, LooksOut, MeshesFaceOut, SolidsFaceOut, is_of, side_of}
use Rattle.cga_facing.proofs.Products.{Shows}
use Rattle.cga_facing.proofs.Sides.{IsOver, in_plane, is_behind, side_shows}
use Rattle.cga_facing.proofs.Spots.{ArePositive, Lengths, Spot, all_right, before_of, behind_of, level_is, lower_is, numbered, stands, stands_at, whole_of}
use Rattle.cga_facing.proofs.Spots.{cube, shed, gable_x, gable_z, hip_x, hip_z, pyramid, quad}
use Rattle.cga_facing.proofs.Measures.{three_sizes, two_sizes}
use Rattle.cga_facing.proofs.Fits.{AreSpots, fits_at}
use Rattle.cga_facing.proofs.Table.{cube_fits, shed_fits, gable_x_fits, gable_z_fits, hip_x_fits, hip_z_fits, pyramid_fits}
use Rattle.cga_facing.proofs.Table.{quad_fits}
use Rattle.cga_facing.proofs.Placed.{mesh_is, placed_at}
use Rattle.cga_facing.proofs.World.{placed_shows}
use Rattle.cga_fraction.proofs.Door.{true_from_not}

-- a corner, and its number
record Corner (corners : List Point) : Type 0 where
  number : ℕ
  at : Point
  is : IsCorner corners number at

abbrev corner : {corners : List Point} (number : ℕ) (at : Point) → IsCorner corners number at → Corner corners
corner number at is = record { number = number; at = at; is = is }

abbrev spot_of : {corners : List Point} → List Spot → Corner corners → Spot
spot_of spots c = numbered spots c.number

-- how the sides of vertices are told by spots over some lengths
record AreSeen (spots : List Spot) (vertices : List Point) : Type 0 where
  lengths : Lengths
  positive : ArePositive lengths
  short : (v : Corner vertices) → v.is.0 < length spots
  shows : (a b c v : Corner vertices)
      → Shows (side_of a.at b.at c.at v.at)
      (before_of lengths (spot_of spots a) (spot_of spots b) (spot_of spots c) (spot_of spots v))
      (behind_of lengths (spot_of spots a) (spot_of spots b) (spot_of spots c) (spot_of spots v))
      (lengths.over * (lengths.over * lengths.over))

-- a corner by its number is the spot of that number
numbered_at : (spots : List Spot) (corners : List Point) (are : AreSpots spots corners) (c : Corner corners)
    → IsOver are.lengths.over c.at (whole_of are.lengths (spot_of spots c))
numbered_at spots corners are c =
    let there = fits_at are.lengths spots corners c.is.0 c.at are.fits c.is.2 in
    subst (λ (k : ℕ). IsOver are.lengths.over c.at (whole_of are.lengths (numbered spots k))) (sym c.is.1) there.1

-- in the scope's own coordinates
seen : (spots : List Spot) (corners : List Point) → AreSpots spots corners → AreSeen spots corners
seen spots corners are = record {
  lengths = are.lengths;
  positive = are.positive;
  short = λ v. (fits_at are.lengths spots corners v.is.0 v.at are.fits v.is.2).0;
  shows = λ a b c v.
      let is = numbered_at spots corners are in
      side_shows are.lengths.over a.at b.at c.at v.at _ _ _ _ (is a) (is b) (is c) (is v);
}

-- and in the world, where each vertex is a corner that is placed
module _ (spots : List Spot) (corners vertices : List Point) (scope : Scope) (placed : all_placed scope corners ≡ Ok vertices) where
  abbrev placed_from : Corner vertices → Corner corners
  placed_from v = let c = placed_at scope corners vertices v.is.0 v.at placed v.is.2 in corner v.number c.0 (v.is.0, v.is.1, c.1)

  lies : (v : Corner vertices) → world_point scope.at scope.frame (placed_from v).at ≡ v.at
  lies v = (placed_at scope corners vertices v.is.0 v.at placed v.is.2).2

  seen_placed : IsFrame scope.frame → AreSpots spots corners → AreSeen spots vertices
  seen_placed frame are = record {
    lengths = are.lengths;
    positive = are.positive;
    short = λ v. (fits_at are.lengths spots corners v.is.0 (placed_from v).at are.fits (placed_from v).is.2).0;
    shows = λ a b c v.
        let is : (v : Corner vertices) → IsOver are.lengths.over (placed_from v).at (whole_of are.lengths (spot_of spots v)) = λ v. numbered_at spots corners are (placed_from v) in
        rw (sym (lies a), sym (lies b), sym (lies c), sym (lies v))
        (placed_shows are.lengths.over scope.at scope.frame frame _ _ _ _ _ _ _ _ (is a) (is b) (is c) (is v));
  }

module _ (spots : List Spot) (vertices : List Point) (seen : AreSeen spots vertices) (faces : List (List ℕ)) (right : all_right spots faces ≡ true) (face : List ℕ) (is : Contains faces face) where
  -- the test of a corner, by two edges of the face that follow one another
  test_at : (a b c v : Corner vertices) → Contains (edges_of face) (a.number, b.number)
      → Contains (edges_of face) (b.number, c.number)
      → stands (is_of face v.number) (spot_of spots a) (spot_of spots b) (spot_of spots c) (spot_of spots v) ≡ true
  test_at a b c v g h =
      let test = stands_at spots faces face a.number b.number c.number v.is.0 right is g h (seen.short v) in
      subst (λ (n : ℕ). stands (is_of face n) (spot_of spots a) (spot_of spots b) (spot_of spots c) (numbered spots n) ≡ true) (sym v.is.1) test

  flat : (a b c v : Corner vertices) → Contains (edges_of face) (a.number, b.number)
      → Contains (edges_of face) (b.number, c.number) → is_of face v.number ≡ true
      → side_of a.at b.at c.at v.at ≡ zero_rat
  flat a b c v g h own =
      let level = subst (λ (o : Bool). stands o (spot_of spots a) (spot_of spots b) (spot_of spots c) (spot_of spots v) ≡ true) own (test_at a b c v g h) in
      in_plane _ a.at b.at c.at v.at _ _ (seen.shows a b c v)
      (level_is seen.lengths (spot_of spots a) (spot_of spots b) (spot_of spots c) (spot_of spots v) level)

  others : (a b c v : Corner vertices) → Contains (edges_of face) (a.number, b.number)
      → Contains (edges_of face) (b.number, c.number) → is_of face v.number ≡ false
      → rat_lt (side_of a.at b.at c.at v.at) zero_rat ≡ true
  others a b c v g h other =
      let lower = subst (λ (o : Bool). stands o (spot_of spots a) (spot_of spots b) (spot_of spots c) (spot_of spots v) ≡ true) other (test_at a b c v g h) in
      is_behind _ a.at b.at c.at v.at _ _ (seen.shows a b c v)
      (lower_is seen.lengths (spot_of spots a) (spot_of spots b) (spot_of spots c) (spot_of spots v) seen.positive lower)

  looks_out : LooksOut vertices face
  looks_out = record {
    flat = λ i j k n a b c v g h p q r s. flat (corner i a p) (corner j b q) (corner k c r) (corner n v s) g h;
    behind = λ i j k n a b c v g h p q r s. others (corner i a p) (corner j b q) (corner k c r) (corner n v s) g h;
  }

-- of two cases by a test each is proved with what the test says
by_case : {F : Type 0} (P : F → Type 0) (x y : F) (b : Bool) → (b ≡ true → P x) → (b ≡ false → P y)
    → P (if b then x else y)
by_case P x y true f g = f refl
by_case P x y false f g = g refl

-- the faces over a base whose top is one point
abbrev to_a_point : List (List ℕ)
to_a_point = three 4 3 5 ∷ three 3 2 5 ∷ three 2 1 5 ∷ three 1 4 5 ∷ four 1 2 3 4 ∷ []

-- of vertices that are seen as the corners are
module _ (vertices : List Point) (corners : List Point) (see : (spots : List Spot) → AreSpots spots corners → AreSeen spots vertices) (face : List ℕ) where
  looks : (spots : List Spot) (faces : List (List ℕ)) → AreSpots spots corners → all_right spots faces ≡ true
      → Contains faces face → LooksOut vertices face
  looks spots faces are right is = looks_out spots vertices (see spots are) faces right face is

  face_out : (kind : Primitive) (size : Point) → lacks_size kind size ≡ false
      → corners_of (form_of kind size) size ≡ Ok corners → Contains (faces_of (form_of kind size)) face
      → LooksOut vertices face
  unfolding corners_of faces_of
  face_out primitive.Cube size some made is =
      looks cube (faces_of (form_of primitive.Cube size)) (cube_fits size corners (three_sizes size some) made) refl is
  face_out primitive.Quad size some made is =
      looks quad (faces_of (form_of primitive.Quad size)) (quad_fits size corners (two_sizes size some) made) refl is
  face_out primitive.Shed size some made is =
      looks shed (faces_of (form_of primitive.Shed size)) (shed_fits size corners (three_sizes size some) made) refl is
  face_out primitive.Gable size some made is =
      let m = three_sizes size some in
      by_case (λ form. corners_of form size ≡ Ok corners → Contains (faces_of form) face → LooksOut vertices face) _ _
      (rat_le size.z size.x) (λ e made is. looks gable_x ridge_along_x (gable_x_fits size corners m made) refl is)
      (λ e made is. looks gable_z ridge_along_z (gable_z_fits size corners m made) refl is) made is
  face_out primitive.Hip size some made is =
      let m = three_sizes size some in
      by_case (λ form. corners_of form size ≡ Ok corners → Contains (faces_of form) face → LooksOut vertices face) _ _
      (rat_lt size.z size.x) (λ e made is. looks hip_x ridge_along_x (hip_x_fits size corners m e made) refl is)
      (λ e. by_case (λ form. corners_of form size ≡ Ok corners → Contains (faces_of form) face → LooksOut vertices face) _ _
      (rat_lt size.x size.z) (λ f made is. looks hip_z ridge_along_z (hip_z_fits size corners m f made) refl is)
      (λ f made is. looks pyramid to_a_point (pyramid_fits size corners m (true_from_not (rat_le size.x size.z) e)
      (true_from_not (rat_le size.z size.x) f) made) refl is)) made is

pub solids_face_out : SolidsFaceOut
solids_face_out kind size some corners made face is =
    face_out corners corners (λ spots are. seen spots corners are) face kind size some made is

pub meshes_face_out : MeshesFaceOut
meshes_face_out kind scope frame mesh made face is =
    let m = mesh_is kind scope mesh made in
    let here = subst (λ (k : SolidMesh). Contains k.faces face) (sym m.same) is in
    let out = face_out m.vertices m.corners (λ spots are. seen_placed spots m.corners m.vertices scope m.placed frame are) face in
    subst (λ (k : SolidMesh). LooksOut k.vertices face) m.same (out kind scope.size m.some m.made here)
