-- `==` of shapes tells equality.
use Rattle.std.proofs.Common.{◌≡◌, ◌↔◌, true, subst, eqb-true, nat_eq}
use Rattle.std.specs.Cmp.{first_so, second_so, booleans_Decides}
use lib.Pointwise.{pointwise, bytes_decides}
use denote.Enum.Bare.{same_true}
use Rattle.cga_fraction.specs.contracts.fraction.FractionPartialEq.TheImpl as fraction
use Rattle.cga_word.specs.contracts.axis.Axis as axis
use Rattle.cga_frame.specs.Axes.{Frame}
use Rattle.cga_frame.specs.Scope.{Scope}
use Rattle.cga_frame.specs.declared.point.Point.{Point}
use Rattle.cga_frame.specs.declared.signed.Signed.{Signed}
use Rattle.cga_frame.specs.contracts.frame.FramePartialEq.TheImpl as frame
use Rattle.cga_frame.specs.contracts.point.PointPartialEq.TheImpl as point
use Rattle.cga_frame.specs.contracts.scope.ScopePartialEq.TheImpl as scope
use Rattle.cga_frame.specs.contracts.signed.SignedPartialEq.TheImpl as signed
use Rattle.cga_rule.proofs.Door.{Sound, fraction_sound, list_sound}
use Rattle.cga_shape.specs.declared.shape.Shape.{Shape}
use Rattle.cga_shape.specs.Equal.{same_shape}
use Rattle.cga_shape.specs.contracts.shape.ShapeEq.TheImpl.Laws as shape

point_sound : (a : Point) → Sound (point.ghosts).eq a
point_sound a b h =
    let u = second_so ((fraction.ghosts).eq a.x b.x) _ h in
    let x = fraction_sound a.x b.x (first_so ((fraction.ghosts).eq a.x b.x) _ h) in
    let y = fraction_sound a.y b.y (first_so ((fraction.ghosts).eq a.y b.y) _ u) in
    let z = fraction_sound a.z b.z (second_so ((fraction.ghosts).eq a.y b.y) _ u) in
    λ i. record { x = x i; y = y i; z = z i }

signed_sound : (a : Signed) → Sound (signed.ghosts).eq a
signed_sound a b h =
    let axis = same_true axis.the_type tt a.axis b.axis (first_so _ _ h) in
    let against = (booleans_Decides a.against b.against).0 (second_so _ _ h) in
    λ i. record { axis = axis i; against = against i }

frame_sound : (a : Frame) → Sound (frame.ghosts).eq a
frame_sound a b h =
    let u = second_so ((signed.ghosts).eq a.x b.x) _ h in
    let x = signed_sound a.x b.x (first_so ((signed.ghosts).eq a.x b.x) _ h) in
    let y = signed_sound a.y b.y (first_so ((signed.ghosts).eq a.y b.y) _ u) in
    let z = signed_sound a.z b.z (second_so ((signed.ghosts).eq a.y b.y) _ u) in
    λ i. record { x = x i; y = y i; z = z i }

-- the far corner is compared as well, and follows from the others
scope_sound : (a : Scope) → Sound (scope.ghosts).eq a
scope_sound a b h =
    let u = second_so ((point.ghosts).eq a.at b.at) _ h in
    let v = second_so ((frame.ghosts).eq a.frame b.frame) _ u in
    let at = point_sound a.at b.at (first_so ((point.ghosts).eq a.at b.at) _ h) in
    let frame = frame_sound a.frame b.frame (first_so ((frame.ghosts).eq a.frame b.frame) _ u) in
    let size = point_sound a.size b.size (first_so ((point.ghosts).eq a.size b.size) _ v) in
    λ i. record { at = at i; frame = frame i; size = size i }

shape_sound : (a : Shape) → Sound same_shape a
shape_sound a b h =
    let t = second_so (pointwise nat_eq a.lot b.lot) _ h in
    let u = second_so (pointwise nat_eq a.symbol b.symbol) _ t in
    let v = second_so (pointwise nat_eq a.path b.path) _ u in
    let w = second_so (pointwise (fraction.ghosts).eq a.args b.args) _ v in
    let lot = (bytes_decides a.lot b.lot).0 (first_so (pointwise nat_eq a.lot b.lot) _ h) in
    let symbol = (bytes_decides a.symbol b.symbol).0 (first_so (pointwise nat_eq a.symbol b.symbol) _ t) in
    let path = (bytes_decides a.path b.path).0 (first_so (pointwise nat_eq a.path b.path) _ u) in
    let args = list_sound (fraction.ghosts).eq fraction_sound a.args b.args (first_so (pointwise (fraction.ghosts).eq a.args b.args) _ v) in
    let seed = eqb-true a.seed b.seed (second_so ((scope.ghosts).eq a.scope b.scope) _ w) in
    let scope = scope_sound a.scope b.scope (first_so ((scope.ghosts).eq a.scope b.scope) _ w) in
    λ i. record { lot = lot i; path = path i; symbol = symbol i; args = args i; scope = scope i; seed = seed i }

-- the test of two shapes is true just where they are equal
pub shape_equal : (a b : Shape) → (same_shape a b ≡ true) ↔ (a ≡ b)
shape_equal a b = (shape_sound a b, λ e. subst (λ c. same_shape a c ≡ true) e (shape.laws-law.refl a))
