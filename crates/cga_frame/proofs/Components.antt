-- The far corner of a component is a corner of its scope, so that every component exists.
use Rattle.std.proofs.Common.{◌≡◌, refl, sym, ap, ◌∙◌, Bool, true, false, Option, Some, None, ◌⊎◌, inl, inr}
use Rattle.std.specs.Prelude.{if◌then◌else◌}
use Rattle.cga_fraction.specs.Rat.{Rat, IsFraction, zero_rat}
use Rattle.cga_fraction.specs.Order.{rat_lt}
use Rattle.cga_fraction.proofs.Door.{IsLowest, fraction_lowest, le_refl, minus-plus, minus-zero, plus-minus, plus-zero}
use Rattle.cga_word.specs.declared.axis.Axis.{Axis}
use Rattle.cga_word.specs.declared.axis.Axis.TheVariants.{X, Y, Z}
use Rattle.cga_frame.specs.Axes.{Frame, along, differ, flipped, turn_of, turned, within}
use Rattle.cga_frame.specs.Points.{coordinate, InRange}
use Rattle.cga_frame.specs.Scope.{Scope, moved, moved_along, world_point, far_of, has_negative, Exists}
use Rattle.cga_frame.specs.Standing.{IsStanding}
use Rattle.cga_frame.specs.Component.{component_of, corner, end_of, ended, extent, is_high, size_by, FitsAlong, IsFitting}
use Rattle.cga_frame.specs.declared.point.Point.{Point}
use Rattle.cga_frame.specs.declared.signed.Signed.{Signed}
use Rattle.cga_frame.specs.declared.component.Component.{Component}
use Rattle.cga_frame.proofs.Standing.{neither}

-- ---- along one world axis

move_zero : (g : Bool) (b : Rat) → IsLowest b → b ≡ moved g b zero_rat
move_zero true b l = sym (minus-zero b l)
move_zero false b l = sym (plus-zero b l)

one_of : (P : Rat → Type 0) (h : Bool) (a b : Rat) → P a → P b → P (if h then a else b)
one_of P true a b p q = p
one_of P false a b p q = q

-- the size leads from one end to the other, whichever comes first
whole_end : (g h : Bool) (near far size : Rat) → IsLowest near → far ≡ moved g near size
    → (if h then near else far) ≡ moved (differ g h) (if h then far else near) size
whole_end true true near far size l e = rw e (sym (plus-minus near size l))
whole_end true false near far size l e = e
whole_end false true near far size l e = rw e (sym (minus-plus near size l))
whole_end false false near far size l e = e

fits_end : (c : Component) (o t : Signed) (near far : Rat) (size : Point) → IsLowest near → IsLowest far
    → far ≡ moved_along o near size
    → (extent c t.axis ≡ None) ⊎ ((extent c t.axis ≡ Some o.axis) × (t.against ≡ is_high c o.axis))
    → end_of c o (flipped o.against t) near far ≡ moved (differ o.against t.against) (corner c o near far)
    (size_by size (extent c t.axis))
fits_end c o t near far size l m e (inl f) = rw f (move_zero (differ o.against t.against) (if is_high c o.axis then far else near) (one_of IsLowest (is_high c o.axis) far near m l))
fits_end c o t near far size l m e (inr f) = rw (f.0, f.1) (whole_end o.against (is_high c o.axis) near far (coordinate size o.axis) l e)

fits_at : (c : Component) → IsFitting c → (a : Axis) → FitsAlong c a
fits_at c h X = h.x
fits_at c h Y = h.y
fits_at c h Z = h.z

abbrev pub sizes_of : Point → Component → Point
sizes_of size c = record { x = size_by size c.width; y = size_by size c.height; z = size_by size c.depth }

coordinate-sizes_of : (size : Point) (c : Component) (a : Axis)
    → coordinate (sizes_of size c) a ≡ size_by size (extent c a)
coordinate-sizes_of size c X = refl
coordinate-sizes_of size c Y = refl
coordinate-sizes_of size c Z = refl

end_at : (c : Component) (o : Signed) (near far : Rat) (size : Point) → IsFitting c → IsLowest near → IsLowest far
    → far ≡ moved_along o near size
    → end_of c o (within (turn_of c.axis c.by) o) near far ≡ moved_along (within (turn_of c.axis c.by) o)
    (corner c o near far) (sizes_of size c)
end_at c o near far size h l m e =
    fits_end c o (along (turn_of c.axis c.by) o.axis) near far size l m e (fits_at c h o.axis)
    ∙ ap (λ (a : Rat). moved (differ o.against (along (turn_of c.axis c.by) o.axis).against) (corner c o near far) a) (sym (coordinate-sizes_of size c (along (turn_of c.axis c.by) o.axis).axis))

-- ---- the three axes together

pub same_point : (x y z a b c : Rat) → x ≡ a → y ≡ b → z ≡ c
    → ◌≡◌ {A = Point} (record { x = x; y = y; z = z }) (record { x = a; y = b; z = c })
same_point x y z a b c e f g = rw (e, f, g) refl

far_parts : (s : Scope)
    → far_of s ≡ record {
      x = moved_along s.frame.x s.at.x s.size;
      y = moved_along s.frame.y s.at.y s.size;
      z =
          moved_along s.frame.z s.at.z s.size;
    }
unfolding world_point
far_parts s = refl

-- the corner at which a component begins, of which the scope's far corner is handed in
abbrev pub corner_of : Scope → Component → Point → Point
corner_of s c far = record { x = corner c s.frame.x s.at.x far.x; y = corner c s.frame.y s.at.y far.y; z = corner c s.frame.z s.at.z far.z }

-- and its ends
abbrev pub ends_of : Scope → Component → Point → Point
ends_of s c far = record {
  x = end_of c s.frame.x (turned s.frame c.axis c.by).x s.at.x far.x;
  y = end_of c s.frame.y (turned s.frame c.axis c.by).y s.at.y far.y;
  z = end_of c s.frame.z (turned s.frame c.axis c.by).z s.at.z far.z;
}

pub component_far : (s : Scope) (c : Component) → IsFitting c → Exists s
    → ends_of s c (far_of s) ≡ far_of (component_of s c)
unfolding component_of world_point turned
component_far s c h e =
    let p = ap (λ (p : Point). p.x) (far_parts s) in
    same_point _ _ _ _ _ _
    (end_at c s.frame.x s.at.x (far_of s).x s.size h (fraction_lowest s.at.x e.at.x) (fraction_lowest (far_of s).x e.far.x) refl)
    (end_at c s.frame.y s.at.y (far_of s).y s.size h (fraction_lowest s.at.y e.at.y) (fraction_lowest (far_of s).y e.far.y) refl)
    (end_at c s.frame.z s.at.z (far_of s).z s.size h (fraction_lowest s.at.z e.at.z) (fraction_lowest (far_of s).z e.far.z) refl)

corners_in_range : (s : Scope) (c : Component) → Exists s → InRange (component_of s c).at
unfolding component_of
corners_in_range s c e = record {
  x = one_of IsFraction (is_high c s.frame.x.axis) (far_of s).x s.at.x e.far.x e.at.x;
  y = one_of IsFraction (is_high c s.frame.y.axis) (far_of s).y s.at.y e.far.y e.at.y;
  z = one_of IsFraction (is_high c s.frame.z.axis) (far_of s).z s.at.z e.far.z e.at.z;
}

end_fraction : (o : Option Axis) (h : Bool) (near far : Rat) → IsFraction near → IsFraction far
    → IsFraction (ended o h near far)
end_fraction None h near far p q = one_of IsFraction h far near q p
end_fraction (Some a) h near far p q = one_of IsFraction h near far p q

ends_in_range : (s : Scope) (c : Component) → Exists s → InRange (ends_of s c (far_of s))
ends_in_range s c e = record {
  x = end_fraction (extent c (turned s.frame c.axis c.by).x.axis) (is_high c s.frame.x.axis) s.at.x (far_of s).x e.at.x e.far.x;
  y = end_fraction (extent c (turned s.frame c.axis c.by).y.axis) (is_high c s.frame.y.axis) s.at.y (far_of s).y e.at.y e.far.y;
  z = end_fraction (extent c (turned s.frame c.axis c.by).z.axis) (is_high c s.frame.z.axis) s.at.z (far_of s).z e.at.z e.far.z;
}

pub component_exists : (s : Scope) (c : Component) → IsFitting c → Exists s → Exists (component_of s c)
component_exists s c h e = record {
  at = corners_in_range s c e;
  far = rw (← component_far s c h e) (ends_in_range s c e);
}

-- ---- sizes

pub not_below : rat_lt zero_rat zero_rat ≡ false
not_below = rw (le_refl zero_rat) refl

size_at : (size : Point) (a : Axis) → has_negative size ≡ false → rat_lt (coordinate size a) zero_rat ≡ false
size_at size X e = (neither (rat_lt size.x zero_rat) (rat_lt size.y zero_rat) (rat_lt size.z zero_rat) e).0
size_at size Y e = (neither (rat_lt size.x zero_rat) (rat_lt size.y zero_rat) (rat_lt size.z zero_rat) e).1
size_at size Z e = (neither (rat_lt size.x zero_rat) (rat_lt size.y zero_rat) (rat_lt size.z zero_rat) e).2

size_by_at : (size : Point) (o : Option Axis) → has_negative size ≡ false → rat_lt (size_by size o) zero_rat ≡ false
size_by_at size None e = not_below
size_by_at size (Some a) e = size_at size a e

pub component_sizes : (s : Scope) (c : Component) → has_negative s.size ≡ false
    → has_negative (component_of s c).size ≡ false
unfolding component_of
component_sizes s c e = rw (size_by_at s.size c.width e, size_by_at s.size c.height e, size_by_at s.size c.depth e) refl

-- ---- what the code forms

pub component_stands : (s t : Scope) (c : Component) (far ends : Point) → IsStanding s far → IsFitting c
    → t ≡ component_of s c → ends ≡ ends_of s c far → IsStanding t ends
component_stands s t c far ends h k e f =
    rw e (record {
      sizes = component_sizes s c h.sizes;
      corner = f ∙ ap (λ (p : Point). ends_of s c p) h.corner ∙ component_far s c k h.exists;
      exists = component_exists s c k h.exists;
    })

pub component_is : (s : Scope) (c : Component) (far : Point) (f : Frame) (at size : Point) → far ≡ far_of s
    → f ≡ turned s.frame c.axis c.by → at ≡ corner_of s c far → size ≡ sizes_of s.size c
    → ◌≡◌ {A = Scope} (record { at = at; frame = f; size = size }) (component_of s c)
unfolding component_of
component_is s c far f at size e g h k = rw (g, h, k, e) refl
