-- Which scopes exist.
use Rattle.std.proofs.Common.{◌≡◌, refl, sym, ◌∙◌, Bool, true, false, ◌&&◌, ◌||◌, Ok, Err, Result}
use Rattle.cga_fraction.specs.Rat.{Rat, IsFraction, zero_rat}
use Rattle.cga_fraction.specs.Order.{rat_lt}
use Rattle.cga_fraction.specs.Refusals.{checked, in_range}
use Rattle.cga_fraction.specs.declared.overflow.Overflow.{Overflow}
use Rattle.cga_fraction.proofs.Door.{checked_in_range, checked_is, fraction_in_range, in_range_from_ok, out_of_range_from_err}
use Rattle.cga_word.specs.declared.axis.Axis.{Axis}
use Rattle.cga_word.specs.declared.axis.Axis.TheVariants.{X, Y, Z}
use Rattle.cga_frame.specs.declared.scope_fault.ScopeFault.TheVariants.{NegativeSize}
use Rattle.cga_frame.specs.Axes.{Frame, same_axis}
use Rattle.cga_frame.specs.Points.{checked_point, point_in_range, with_coordinate, InRange}
use Rattle.cga_fraction.specs.Results.{or_err}
use Rattle.cga_frame.specs.declared.scope_fault.ScopeFault.TheVariants as fault
use Rattle.cga_frame.specs.Scope.{Scope, world_point, joined, far_of, exists, existing, Exists, scope_of, has_negative, stepped, step_of, translated, part_of}
use Rattle.cga_frame.specs.declared.point.Point.{Point}
use Rattle.cga_frame.specs.declared.signed.Signed.{Signed}
use Rattle.std.proofs.lemmas.Bool.{and_left as out_first, and_right as out_at}

-- ---- points

-- whether three coordinates are in range
joined_ok : (p : Point) (x y z : Rat) → checked p.x ≡ Ok x → checked p.y ≡ Ok y → checked p.z ≡ Ok z
    → checked_point p ≡ Ok (record { x = x; y = y; z = z })
unfolding checked_point
joined_ok p x y z e f g =
    let a = checked_is p.x x e in
    let b = checked_is p.y y f in
    let c = checked_is p.z z g in
    rw (in_range_from_ok p.x x e, in_range_from_ok p.y y f, in_range_from_ok p.z z g) (rw (← a, ← b, ← c) refl)

point_out : (p : Point) → point_in_range p ≡ false → checked_point p ≡ Err (record {})
unfolding checked_point
point_out p e = rw e refl

out_x : (p : Point) → in_range p.x ≡ false → point_in_range p ≡ false
out_x p e = rw e refl

out_y_at : (a b c : Bool) → b ≡ false → ((a && b) && c) ≡ false
out_y_at true b c e = rw e refl
out_y_at false b c e = refl

out_z_at : (a b c : Bool) → c ≡ false → ((a && b) && c) ≡ false
out_z_at true true c e = e
out_z_at true false c e = refl
out_z_at false b c e = refl

joined_at : (p : Point) (x y z : Result Rat Overflow) → checked p.x ≡ x → checked p.y ≡ y → checked p.z ≡ z
    → checked_point p ≡ joined x y z
joined_at p (Ok x) (Ok y) (Ok z) e f g = joined_ok p x y z e f g
joined_at p (Err o) y z e f g = point_out p (out_x p (out_of_range_from_err p.x o e))
joined_at p (Ok x) (Err o) z e f g = point_out p (out_y_at (in_range p.x) (in_range p.y) (in_range p.z) (out_of_range_from_err p.y o f))
joined_at p (Ok x) (Ok y) (Err o) e f g = point_out p (out_z_at (in_range p.x) (in_range p.y) (in_range p.z) (out_of_range_from_err p.z o g))

pub joined_is : (p : Point) (x y z : Result Rat Overflow) (r : Result Point Overflow) → x ≡ checked p.x
    → y ≡ checked p.y → z ≡ checked p.z → r ≡ joined x y z → r ≡ checked_point p
joined_is p x y z r e f g h = h ∙ sym (joined_at p x y z (sym e) (sym f) (sym g))

point_at : (p q : Point) (t : Bool) → point_in_range p ≡ t → checked_point p ≡ Ok q
    → (p ≡ q) × (point_in_range p ≡ true)
unfolding checked_point
point_at p q true e h = ((let k = (rw e at h) in cc), e)
point_at p q false e h = absurd (let k = (rw e at h) in cc)

pub point_is : (p q : Point) → checked_point p ≡ Ok q → (p ≡ q) × (point_in_range p ≡ true)
point_is p q h = point_at p q (point_in_range p) refl h

not_point_at : (p : Point) (o : Overflow) (t : Bool) → point_in_range p ≡ t → checked_point p ≡ Err o
    → point_in_range p ≡ false
unfolding checked_point
not_point_at p o true e h = absurd (let k = (rw e at h) in cc)
not_point_at p o false e h = e

not_point : (p : Point) (o : Overflow) → checked_point p ≡ Err o → point_in_range p ≡ false
not_point p o h = not_point_at p o (point_in_range p) refl h

in_range_point : (p : Point) → InRange p → point_in_range p ≡ true
in_range_point p h = rw (fraction_in_range p.x h.x, fraction_in_range p.y h.y, fraction_in_range p.z h.z) refl

-- ---- scopes

no_scope : (s : Scope) → exists s ≡ false → existing s ≡ Err (record {})
unfolding existing
no_scope s e = rw e refl

a_scope : (s : Scope) → exists s ≡ true → existing s ≡ Ok s
unfolding existing
a_scope s e = rw e refl

-- the far corner is refused, or the position is
pub not_far : (s : Scope) (o : Overflow) → Err o ≡ checked_point (far_of s)
    → ◌≡◌ {A = Result Scope Overflow} (Err (record {})) (existing s)
not_far s o h = sym (no_scope s (out_at (point_in_range s.at) (point_in_range (far_of s)) (not_point (far_of s) o (sym h))))

pub not_at : (s : Scope) (o : Overflow) → Err o ≡ checked_point s.at
    → ◌≡◌ {A = Result Scope Overflow} (Err (record {})) (existing s)
not_at s o h = sym (no_scope s (out_first (point_in_range s.at) (point_in_range (far_of s)) (not_point s.at o (sym h))))

pub far_is : (s : Scope) (far : Point) → Ok far ≡ checked_point (far_of s) → far ≡ far_of s
far_is s far h = sym (point_is (far_of s) far (sym h)).0

pub it_exists : (s : Scope) (far : Point) → Ok far ≡ checked_point (far_of s) → InRange s.at → InRange far → Exists s
it_exists s far h a f = record { at = a; far = rw (far_is s far h) at f }

pub existing_is : (s : Scope) → Exists s → ◌≡◌ {A = Result Scope Overflow} (Ok s) (existing s)
existing_is s h = sym (a_scope s (rw (in_range_point s.at h.at, in_range_point (far_of s) h.far) refl))

-- ---- new scopes

pub negative_size : (at : Point) (frame : Frame) (size : Point) → has_negative size ≡ true
    → scope_of at frame size ≡ Err NegativeSize
unfolding scope_of
negative_size at frame size e = rw e refl

pub sized : (at : Point) (frame : Frame) (size : Point) (r : Result Scope Overflow) → has_negative size ≡ false
    → r ≡ existing (record { at = at; frame = frame; size = size }) → or_err fault.Overflow r ≡ scope_of at frame size
unfolding scope_of
sized at frame size r e h = rw (e, h) refl

-- ---- steps

pub stay : (along : Signed) (axis : Axis) (from by : Rat) → same_axis along.axis axis ≡ false → IsFraction from
    → ◌≡◌ {A = Result Rat Overflow} (Ok from) (checked (stepped along axis from by))
stay along axis from by e f = rw e (sym (checked_in_range from (fraction_in_range from f)))

-- ---- scopes that were made of others

pub translated_is : (s : Scope) (by at : Point) (f : Frame) (z : Point) (r : Result Scope Overflow) → f ≡ s.frame
    → z ≡ s.size → Ok at ≡ checked_point (world_point s.at s.frame by)
    → r ≡ existing (record { at = at; frame = f; size = z }) → r ≡ existing (translated s by)
translated_is s by at f z r e g h k = rw (k, e, g, ← (point_is (world_point s.at s.frame by) at (sym h)).0) refl

pub part_is : (s : Scope) (axis : Axis) (from length : Rat) (at : Point) (f : Frame) (z : Point)
    (r : Result Scope Overflow)
    → f ≡ s.frame → z ≡ with_coordinate s.size axis length → Ok at ≡ checked_point (step_of s axis from)
    → r ≡ existing (record { at = at; frame = f; size = z }) → r ≡ existing (part_of s axis from length)
unfolding part_of
part_is s axis from length at f z r e g h k = rw (k, e, g, ← (point_is (step_of s axis from) at (sym h)).0) refl

pub no_part : (s : Scope) (axis : Axis) (from length : Rat) (o : Overflow) → Err o ≡ checked_point (step_of s axis from)
    → ◌≡◌ {A = Result Scope Overflow} (Err (record {})) (existing (part_of s axis from length))
unfolding part_of
no_part s axis from length o h = not_at (record { at = step_of s axis from; frame = s.frame; size = with_coordinate s.size axis length }) o h

pub neither : (a b c : Bool) → (a || b || c) ≡ false → (a ≡ false) × (b ≡ false) × (c ≡ false)
neither true true c e = absurd (cc)
neither true false c e = absurd (cc)
neither false true c e = absurd (cc)
neither false false c e = (refl, refl, e)

pub no_negative : (size : Point) (axis : Axis) (length : Rat) → has_negative size ≡ false
    → rat_lt length zero_rat ≡ false → has_negative (with_coordinate size axis length) ≡ false
no_negative size X length e h = let n = neither (rat_lt size.x zero_rat) (rat_lt size.y zero_rat) (rat_lt size.z zero_rat) e in rw (h, n.1, n.2) refl
no_negative size Y length e h = let n = neither (rat_lt size.x zero_rat) (rat_lt size.y zero_rat) (rat_lt size.z zero_rat) e in rw (n.0, h, n.2) refl
no_negative size Z length e h = let n = neither (rat_lt size.x zero_rat) (rat_lt size.y zero_rat) (rat_lt size.z zero_rat) e in rw (n.0, n.1, h) refl
