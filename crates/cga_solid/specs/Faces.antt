-- The faces of the solids, and closedness.
use Rattle.std.specs.Prelude.{◌≡◌, ℕ, List, [], ◌∷◌, ◌&&◌, nat_eq, flat_map, count_by, Contains}
use Rattle.cga_solid.specs.declared.form.Form.{Form}
use Rattle.cga_solid.specs.declared.form.Form.TheVariants.{Cube, Shed, GableAlongX, GableAlongZ, HipAlongX, HipAlongZ, Pyramid, Quad}

abbrev pub three : ℕ → ℕ → ℕ → List ℕ
three a b c = a ∷ b ∷ c ∷ []

abbrev pub four : ℕ → ℕ → ℕ → ℕ → List ℕ
four a b c d = a ∷ b ∷ c ∷ d ∷ []

-- a roof whose ridge is 5 6, along X
abbrev pub ridge_along_x : List (List ℕ)
ridge_along_x = four 4 3 6 5 ∷ three 3 2 6 ∷ four 2 1 5 6 ∷ three 1 4 5 ∷ four 1 2 3 4 ∷ []

-- a roof whose ridge is 5 6, along Z
abbrev pub ridge_along_z : List (List ℕ)
ridge_along_z = three 4 3 6 ∷ four 3 2 5 6 ∷ three 2 1 5 ∷ four 1 4 6 5 ∷ four 1 2 3 4 ∷ []

-- the faces, each by the numbers of its vertices, from 1
unfoldable pub faces_of : Form → List (List ℕ)
faces_of Cube = four 4 3 7 8 ∷ four 3 2 6 7 ∷ four 2 1 5 6 ∷ four 1 4 8 5 ∷ four 8 7 6 5 ∷ four 1 2 3 4 ∷ []
faces_of Shed = four 4 3 5 6 ∷ three 3 2 5 ∷ four 2 1 6 5 ∷ three 1 4 6 ∷ four 1 2 3 4 ∷ []
faces_of GableAlongX = ridge_along_x
faces_of GableAlongZ = ridge_along_z
faces_of HipAlongX = ridge_along_x
faces_of HipAlongZ = ridge_along_z
faces_of Pyramid = three 4 3 5 ∷ three 3 2 5 ∷ three 2 1 5 ∷ three 1 4 5 ∷ four 1 2 3 4 ∷ []
faces_of Quad = four 1 2 3 4 ∷ []

-- from each corner to the next, and from the last to the first
abbrev pub edges_from : ℕ → List ℕ → List (ℕ × ℕ)
edges_from first [] = []
edges_from first (a ∷ []) = (a, first) ∷ []
edges_from first (a ∷ b ∷ corners) = (a, b) ∷ edges_from first (b ∷ corners)

-- the directed edges of a face
abbrev pub edges_of : List ℕ → List (ℕ × ℕ)
edges_of [] = []
edges_of (a ∷ corners) = edges_from a (a ∷ corners)

abbrev pub edges : List (List ℕ) → List (ℕ × ℕ)
edges = flat_map edges_of

-- how often the edge from a to b occurs
abbrev pub times_in : List (ℕ × ℕ) → ℕ → ℕ → ℕ
times_in es a b = count_by (λ e. nat_eq e.0 a && nat_eq e.1 b) es

-- each directed edge occurs once, and the reversed edge once
abbrev pub IsClosed : List (List ℕ) → Type 0
IsClosed faces = (e : ℕ × ℕ) → Contains (edges faces) e → (times_in (edges faces) e.0 e.1 ≡ 1) × (times_in (edges faces) e.1 e.0 ≡ 1)
