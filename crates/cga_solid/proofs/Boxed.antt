-- What is local to a scope is placed in its box, and meshes are closed.
use Rattle.std.proofs.Common.{◌≡◌, ◌≢◌, List, [], ◌∷◌, Bool, true, false, refl, subst, arith, Ok, Err, Result, All}
use Rattle.std.proofs.lemmas.List.Elements.{All-nil, All-cons}
use Rattle.std.specs.Prelude.{IsTrue, IfOk, OnOk, if◌then◌else◌}
use Rattle.cga_fraction.specs.Stops.{Makes, settled_of}
use Rattle.cga_fraction.specs.declared.stop.Stop.{Stop}
use Rattle.cga_fraction.specs.declared.stop.Stop.TheVariants.{Fault, NoMemory}
use Rattle.cga_fraction.specs.Rat.{Rat, zero_rat}
use Rattle.cga_fraction.specs.Order.{rat_le, rat_lt, rat_min, rat_max}
use Rattle.cga_fraction.specs.Arithmetic.{plus, minus}
use Rattle.cga_fraction.proofs.Door.{and_then-ok, err_if-ok, itself, le_diff, le_trans, max_above, min_below, minus_diff, minus_le, plus_diff, plus_le}
use Rattle.cga_word.specs.declared.axis.Axis.{Axis}
use Rattle.cga_word.specs.declared.axis.Axis.TheVariants.{X, Y, Z}
use Rattle.cga_word.specs.declared.primitive.Primitive.{Primitive}
use Rattle.cga_word.specs.declared.primitive.Primitive.TheVariants as primitive
use Rattle.cga_frame.specs.Box.{box_of}
use Rattle.cga_frame.specs.Meeting.{IsBetween, IsIn}
use Rattle.cga_frame.specs.Points.{coordinate, checked_point, point_in_range}
use Rattle.cga_frame.specs.Scope.{Scope, has_negative, moved, moved_along, world_point}
use Rattle.cga_frame.specs.declared.point.Point.{Point}
use Rattle.cga_frame.specs.declared.signed.Signed.{Signed}
use Rattle.cga_fraction.specs.Results.{or_err}
use Rattle.cga_fraction.specs.declared.overflow.Overflow as Unit
use Rattle.cga_solid.specs.declared.solid_fault.SolidFault.TheVariants as fault
use Rattle.cga_solid.specs.Corners.{corners_of}
use Rattle.cga_solid.specs.Faces.{IsClosed}
use Rattle.cga_solid.specs.Solids.{all_placed, form_of, lacks_size, mesh_in, mesh_of, placed, vertices_of}
use Rattle.cga_solid.specs.declared.form.Form.{Form}
use Rattle.cga_solid.specs.declared.form.Form.TheVariants as form
use Rattle.cga_solid.specs.declared.solid_fault.SolidFault.{SolidFault}
use Rattle.cga_solid.specs.declared.solid_mesh.SolidMesh.{SolidMesh}
use Rattle.cga_solid.proofs.Closed.{all_close}
use Rattle.cga_solid.proofs.Halves.{IsWithin}
use Rattle.cga_solid.proofs.Local.{AllLocal, IsLocal, corners_local, same_ok, sizes}

-- ---- along one axis

low_end : (a b : Rat) → IsTrue (rat_le zero_rat b) → IsTrue (rat_le a (plus a b))
low_end a b h = le_trans a (plus a zero_rat) (plus a b) (le_diff a (plus a zero_rat) _ _ _ _ _ _ (itself a) (plus_diff a zero_rat) (omega arith)) (plus_le a zero_rat b h)

high_end : (a b : Rat) → IsTrue (rat_le zero_rat b) → IsTrue (rat_le (minus a b) a)
high_end a b h = le_trans (minus a b) (minus a zero_rat) a (minus_le a zero_rat b h) (le_diff (minus a zero_rat) a _ _ _ _ _ _ (minus_diff a zero_rat) (itself a) (omega arith))

moved_inside : (against : Bool) (p x size : Rat) → IsWithin x size
    → IsBetween (moved against p x) (rat_min p (moved against p size)) (rat_max p (moved against p size))
moved_inside false p x size w = record {
  from = le_trans (rat_min p (plus p size)) p (plus p x) (min_below p (plus p size)).0 (low_end p x w.low);
  to = le_trans (plus p x) (plus p size) (rat_max p (plus p size)) (plus_le p x size w.high) (max_above p (plus p size)).1;
}
moved_inside true p x size w = record {
  from = le_trans (rat_min p (minus p size)) (minus p size) (minus p x) (min_below p (minus p size)).1 (minus_le p x size w.high);
  to = le_trans (minus p x) p (rat_max p (minus p size)) (high_end p x w.low) (max_above p (minus p size)).0;
}

along : (c size : Point) (axis : Axis) → IsLocal c size → IsWithin (coordinate c axis) (coordinate size axis)
along c size X l = l.x
along c size Y l = l.y
along c size Z l = l.z

one_axis : (s : Signed) (p : Rat) (c size : Point) → IsLocal c size
    → IsBetween (moved_along s p c) (rat_min p (moved_along s p size)) (rat_max p (moved_along s p size))
one_axis s p c size l = moved_inside s.against p (coordinate c s.axis) (coordinate size s.axis) (along c size s.axis l)

-- ---- in the box

in_box : (s : Scope) (c : Point) → IsLocal c s.size → IsIn (world_point s.at s.frame c) (box_of s)
unfolding world_point
in_box s c l = record {
  x = one_axis s.frame.x s.at.x c s.size l;
  y = one_axis s.frame.y s.at.y c s.size l;
  z = one_axis s.frame.z s.at.z c s.size l;
}

point_is : (p v : Point) (b : Bool)
    → ◌≡◌ {A = Result Point SolidFault}
    (or_err {E = Unit.Overflow} fault.Overflow (if b then Ok p else Err (record {}))) (Ok v)
    → p ≡ v
point_is p v true h = same_ok p v h
point_is p v false h = absurd (cc)

-- a point that is placed is placed where the scope says
pub placed_is : (s : Scope) (c v : Point) → placed s c ≡ Ok v → world_point s.at s.frame c ≡ v
unfolding checked_point
placed_is s c v h = point_is (world_point s.at s.frame c) v (point_in_range (world_point s.at s.frame c)) h

all_in : (s : Scope) (cs vs : List Point) → AllLocal s.size cs → all_placed s cs ≡ Ok vs
    → All (λ v. IsIn v (box_of s)) vs
all_in s [] vs l h = subst (λ (ws : List Point). All (λ v. IsIn v (box_of s)) ws) (same_ok [] vs h) (All-nil (λ v. IsIn v (box_of s)))
all_in s (c ∷ cs) vs l h =
    let a = and_then-ok (placed s c) _ vs h in
    let b = and_then-ok (all_placed s cs) _ vs a.2 in
    let first : IsIn a.0 (box_of s) = subst (λ (v : Point). IsIn v (box_of s)) (placed_is s c a.0 a.1) (in_box s c l.0) in
    let more : All (λ v. IsIn v (box_of s)) b.0 = all_in s cs b.0 l.1 b.1 in
    subst (λ (ws : List Point). All (λ v. IsIn v (box_of s)) ws) (same_ok (a.0 ∷ b.0) vs b.2) (All-cons (λ v. IsIn v (box_of s)) a.0 b.0 first more)

-- ---- of meshes

-- a mesh that is given has the vertices and the faces of its form
mesh_is : (kind : Primitive) (s : Scope) (m : SolidMesh) → mesh_of kind s ≡ Ok m
    → (vs : List Point) × (vertices_of (form_of kind s.size) s ≡ Ok vs) × (mesh_in (form_of kind s.size) vs ≡ m)
unfolding mesh_of
mesh_is kind s m h =
    let a = and_then-ok (vertices_of (form_of kind s.size) s) _ m (err_if-ok (lacks_size kind s.size) _ _ m h).1 in (a.0, a.1, same_ok _ m a.2)

gable_solid : (b : Bool) → ◌≡◌ {A = Form} (if b then form.GableAlongX else form.GableAlongZ) form.Quad → ⊥
gable_solid true h = cc
gable_solid false h = cc

hip_solid : (b c : Bool)
    → ◌≡◌ {A = Form} (if b then form.HipAlongX else (if c then form.HipAlongZ else form.Pyramid)) form.Quad → ⊥
hip_solid true c h = cc
hip_solid false true h = cc
hip_solid false false h = cc

no_quad : (kind : Primitive) (s : Point) → kind ≢ primitive.Quad → form_of kind s ≢ form.Quad
no_quad primitive.Cube s n h = cc
no_quad primitive.Quad s n h = n refl
no_quad primitive.Shed s n h = cc
no_quad primitive.Gable s n h = gable_solid (rat_le s.z s.x) h
no_quad primitive.Hip s n h = hip_solid (rat_lt s.z s.x) (rat_lt s.x s.z) h

pub mesh_closed : (kind : Primitive) (s : Scope) (m : SolidMesh) → mesh_of kind s ≡ Ok m → kind ≢ primitive.Quad
    → IsClosed m.faces
mesh_closed kind s m h n =
    let a = mesh_is kind s m h in
    subst (λ (k : SolidMesh). IsClosed k.faces) a.2 (all_close (form_of kind s.size) (no_quad kind s.size n))

pub mesh_inside : (kind : Primitive) (s : Scope) (m : SolidMesh) → has_negative s.size ≡ false → mesh_of kind s ≡ Ok m
    → All (λ v. IsIn v (box_of s)) m.vertices
mesh_inside kind s m size h =
    let a = mesh_is kind s m h in
    let b = and_then-ok (corners_of (form_of kind s.size) s.size) _ a.0 a.1 in
    subst (λ (k : SolidMesh). All (λ v. IsIn v (box_of s)) k.vertices) a.2 (all_in s b.0 a.0 (corners_local kind s.size b.0 (sizes s.size size) b.1) b.2)

-- what is answered is closed, and stands inside
pub closed_settled : (kind : Primitive) (s : Scope) (made : Result SolidMesh (Stop SolidFault))
    → Makes (mesh_of kind s) made
    → IfOk (settled_of made) (λ given. kind ≢ primitive.Quad → IfOk given (λ m. IsClosed m.faces))
closed_settled kind s (Ok m) h = λ n. mesh_closed kind s m h n
closed_settled kind s (Err (Fault f)) h = λ n. tt
closed_settled kind s (Err NoMemory) h = tt

pub inside_settled : (kind : Primitive) (s : Scope) (made : Result SolidMesh (Stop SolidFault))
    → OnOk made (has_negative s.size ≡ false) → Makes (mesh_of kind s) made
    → IfOk (settled_of made) (λ given. IfOk given (λ m. All (λ v. IsIn v (box_of s)) m.vertices))
inside_settled kind s (Ok m) size h = mesh_inside kind s m size h
inside_settled kind s (Err (Fault f)) size h = tt
inside_settled kind s (Err NoMemory) size h = tt
