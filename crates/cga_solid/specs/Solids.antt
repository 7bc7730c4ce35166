-- Solids in a scope.
use Rattle.std.specs.Prelude.{List, [], ◌∷◌, Bool, true, false, ◌||◌, not, Result, Ok, if◌then◌else◌}
use Rattle.cga_fraction.specs.Rat.{Rat, zero_rat}
use Rattle.cga_fraction.specs.Order.{rat_le, rat_lt}
use Rattle.cga_frame.specs.Points.{checked_point}
use Rattle.cga_frame.specs.Scope.{Scope, world_point}
use Rattle.cga_frame.specs.declared.point.Point.{Point}
use Rattle.cga_word.specs.declared.primitive.Primitive.{Primitive}
use Rattle.cga_word.specs.declared.primitive.Primitive.TheVariants as primitive
use Rattle.cga_fraction.specs.Results.{and_then, err_if, or_err}
use Rattle.cga_solid.specs.Corners.{corners_of}
use Rattle.cga_solid.specs.Faces.{faces_of}
use Rattle.cga_solid.specs.declared.form.Form.{Form}
use Rattle.cga_solid.specs.declared.form.Form.TheVariants.{Cube, Shed, GableAlongX, GableAlongZ, HipAlongX, HipAlongZ, Pyramid, Quad}
use Rattle.cga_solid.specs.declared.solid_fault.SolidFault.{SolidFault}
use Rattle.cga_solid.specs.declared.solid_fault.SolidFault.TheVariants.{FlatScope, Overflow}
use Rattle.cga_solid.specs.declared.solid_mesh.SolidMesh.{SolidMesh}

-- the ridge of a gable lies along the longer side, and along X where both are as long
abbrev pub gable_form : Rat → Rat → Form
gable_form w d = if rat_le d w then GableAlongX else GableAlongZ

-- a hip over a square has no ridge
abbrev pub hip_form : Rat → Rat → Form
hip_form w d = if rat_lt d w then HipAlongX else (if rat_lt w d then HipAlongZ else Pyramid)

-- the form of a solid in a scope of this size
abbrev pub form_of : Primitive → Point → Form
form_of primitive.Cube s = Cube
form_of primitive.Quad s = Quad
form_of primitive.Shed s = Shed
form_of primitive.Gable s = gable_form s.x s.z
form_of primitive.Hip s = hip_form s.x s.z

-- each corner of the form is a corner of the scope's box
abbrev pub is_cornered : Form → Bool
is_cornered Cube = true
is_cornered Shed = true
is_cornered Quad = true
is_cornered form = false

-- a size isn't above 0
abbrev pub is_flat : Rat → Bool
is_flat a = not (rat_lt zero_rat a)

-- a size that the solid needs is 0: a quad needs no depth
abbrev pub lacks_size : Primitive → Point → Bool
lacks_size primitive.Quad s = is_flat s.x || is_flat s.y
lacks_size primitive.Cube s = is_flat s.x || is_flat s.y || is_flat s.z
lacks_size primitive.Shed s = is_flat s.x || is_flat s.y || is_flat s.z
lacks_size primitive.Gable s = is_flat s.x || is_flat s.y || is_flat s.z
lacks_size primitive.Hip s = is_flat s.x || is_flat s.y || is_flat s.z

-- the world point of local coordinates, where it is in range
abbrev pub placed : Scope → Point → Result Point SolidFault
placed s local = or_err Overflow (checked_point (world_point s.at s.frame local))

-- each point placed, or the first refusal
abbrev pub all_placed : Scope → List Point → Result (List Point) SolidFault
all_placed s [] = Ok []
all_placed s (p ∷ ps) = and_then (placed s p) (λ v. and_then (all_placed s ps) (λ vs. Ok (v ∷ vs)))

-- the vertices of a form, in order
abbrev pub vertices_of : Form → Scope → Result (List Point) SolidFault
vertices_of form s = and_then (corners_of form s.size) (λ corners. all_placed s corners)

abbrev pub mesh_in : Form → List Point → SolidMesh
mesh_in form vertices = record { vertices = vertices; faces = faces_of form }

-- the mesh of a solid in a scope, or the fault
unfoldable pub mesh_of : Primitive → Scope → Result SolidMesh SolidFault
mesh_of p s = err_if (lacks_size p s.size) FlatScope (and_then (vertices_of (form_of p s.size) s) (λ vertices. Ok (mesh_in (form_of p s.size) vertices)))

-- the fault of a result alone
abbrev pub fault_of : {A F : Type 0} → Result A F → Result (Unit {0}) F
fault_of r = and_then r (λ x. Ok tt)

-- whether the mesh is refused, and why
abbrev pub check_solid_of : Primitive → Scope → Result (Unit {0}) SolidFault
check_solid_of p s = fault_of (mesh_of p s)
