-- Solids look outwards: by each face's own corners it is seen on which side of the face a point lies.
use Rattle.std.specs.Prelude.{◌≡◌, ℕ, suc, List, Bool, true, false, nat_eq, Contains, Ok, Some, slice_get}
use Rattle.std.specs.List.{list_any}
use Rattle.cga_fraction.specs.Rat.{Rat, zero_rat}
use Rattle.cga_fraction.specs.Arithmetic.{minus, times}
use Rattle.cga_fraction.specs.Order.{rat_lt}
use Rattle.cga_word.specs.declared.primitive.Primitive.{Primitive}
use Rattle.cga_frame.specs.Axes.{IsFrame}
use Rattle.cga_frame.specs.Scope.{Scope}
use Rattle.cga_frame.specs.declared.point.Point.{Point}
use Rattle.cga_solid.specs.Corners.{corners_of, point}
use Rattle.cga_solid.specs.Faces.{edges_of, faces_of}
use Rattle.cga_solid.specs.Solids.{form_of, lacks_size, mesh_of}
use Rattle.cga_solid.specs.declared.solid_mesh.SolidMesh.{SolidMesh}

-- the way from a to b
abbrev pub way : Point → Point → Point
way a b = point (minus b.x a.x) (minus b.y a.y) (minus b.z a.z)

-- p times s less q times r
abbrev pub minor : Rat → Rat → Rat → Rat → Rat
minor p q r s = minus (times p s) (times q r)

-- the determinant of three ways
abbrev pub determinant : Point → Point → Point → Rat
determinant p q r =
    minus (times p.x (minor q.y q.z r.y r.z)) (minus (times p.y (minor q.x q.z r.x r.z)) (times p.z (minor q.x q.y r.x r.y)))

-- how far v lies before the plane through a, b and c: 0 in the plane, and below 0 behind it, where a, b and c run
-- against the clock as seen from before
abbrev pub side_of : Point → Point → Point → Point → Rat
side_of a b c v = determinant (way a b) (way a c) (way a v)

-- the corner of this number, from 1 on
abbrev pub IsCorner : List Point → ℕ → Point → Type 0
IsCorner corners n p = (k : ℕ) × (n ≡ suc k) × (slice_get corners k ≡ Some p)

-- the face has the corner of this number
abbrev pub is_of : List ℕ → ℕ → Bool
is_of face n = list_any (nat_eq n) face

-- by each two edges of the face, i j and j k: its own corners lie in their plane, and all others behind it
pub record LooksOut (corners : List Point) (face : List ℕ) : Type 0 where
  pub flat : (i j k n : ℕ) (a b c v : Point) → Contains (edges_of face) (i, j) → Contains (edges_of face) (j, k)
      → IsCorner corners i a → IsCorner corners j b → IsCorner corners k c → IsCorner corners n v
      → is_of face n ≡ true → side_of a b c v ≡ zero_rat
  pub behind : (i j k n : ℕ) (a b c v : Point) → Contains (edges_of face) (i, j) → Contains (edges_of face) (j, k)
      → IsCorner corners i a → IsCorner corners j b → IsCorner corners k c → IsCorner corners n v
      → is_of face n ≡ false → rat_lt (side_of a b c v) zero_rat ≡ true

-- so does each face of each solid, in its own coordinates, where no size that it needs is 0
abbrev pub SolidsFaceOut : Type 0
SolidsFaceOut =
    (solid : Primitive) (size : Point) → lacks_size solid size ≡ false
    → (corners : List Point) → corners_of (form_of solid size) size ≡ Ok corners
    → (face : List ℕ) → Contains (faces_of (form_of solid size)) face → LooksOut corners face

-- and in the world, of each mesh that there is in a scope whose frame is right-handed
abbrev pub MeshesFaceOut : Type 0
MeshesFaceOut =
    (solid : Primitive) (scope : Scope) → IsFrame scope.frame
    → (mesh : SolidMesh) → mesh_of solid scope ≡ Ok mesh
    → (face : List ℕ) → Contains mesh.faces face → LooksOut mesh.vertices face
