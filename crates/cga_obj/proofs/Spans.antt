-- The ends of a scope along the world's axes.
use Rattle.std.proofs.Common.{◌≡◌, ◌∙◌, Bool, true, false, refl, sym, Ok, Err, Result, ap}
use Rattle.std.specs.Prelude.{if◌then◌else◌}
use Rattle.cga_fraction.specs.Rat.{Rat, zero_rat, IsFraction}
use Rattle.cga_fraction.specs.declared.overflow.Overflow.{Overflow}
use Rattle.cga_fraction.proofs.Door.{fraction_lowest, minus-zero, plus-zero, same_Ok}
use Rattle.cga_word.specs.declared.axis.Axis.{Axis}
use Rattle.cga_word.specs.declared.axis.Axis.TheVariants.{X, Y, Z}
use Rattle.cga_frame.specs.Points.{checked_point, coordinate, point_in_range}
use Rattle.cga_frame.specs.Scope.{Exists, Scope, moved, world_point}
use Rattle.cga_frame.specs.declared.point.Point.{Point}
use Rattle.cga_obj.specs.Boxes.{AreSpans, IsFarOf, corner_in, end_of, is_far, local_point}
use Rattle.cga_obj.specs.declared.corner.Corner.{Corner}
use Rattle.cga_obj.specs.declared.span.Span.{Span}

in_range_is : (p v : Point) (b : Bool)
    → ◌≡◌ {A = Result Point Overflow} (if b then Ok p else Err (record {})) (Ok v) → v ≡ p
in_range_is p v true h = sym (same_Ok p v h)
in_range_is p v false h = absurd (cc)

-- a point that is placed is the one that the scope says
pub placed_at : (p v : Point) → checked_point p ≡ Ok v → v ≡ p
unfolding checked_point
placed_at p v h = in_range_is p v (point_in_range p) h

moved_not : (against : Bool) (p : Rat) → IsFraction p → moved against p zero_rat ≡ p
moved_not true p f = minus-zero p (fraction_lowest p f)
moved_not false p f = plus-zero p (fraction_lowest p f)

moved_end : (far against : Bool) (p size : Rat) → IsFraction p
    → moved against p (end_of far size) ≡ (if far then moved against p size else p)
moved_end true against p size f = refl
moved_end false against p size f = moved_not against p f

-- where both ends are one, it doesn't matter at which one a corner is
at_one : (a b : Bool) (p q far : Rat) → q ≡ p → far ≡ p → (if a then q else p) ≡ (if b then far else p)
at_one true true p q far e f = e ∙ sym f
at_one true false p q far e f = e
at_one false true p q far e f = sym f
at_one false false p q far e f = refl

-- the neighbours of the near corner
abbrev next_x : Scope → Point
next_x s = world_point s.at s.frame (local_point s.size.x zero_rat zero_rat)

abbrev next_y : Scope → Point
next_y s = world_point s.at s.frame (local_point zero_rat s.size.y zero_rat)

abbrev next_z : Scope → Point
next_z s = world_point s.at s.frame (local_point zero_rat zero_rat s.size.z)

-- a coordinate of a neighbour, from the near corner's
abbrev step : Bool → Rat → Axis → Point → Rat
step against p lies local = moved against p (coordinate local lies)

-- where another axis of the box lies, each corner is at the near end
axis_span : (lies taken : Axis) (against : Bool) (p far : Rat) (size : Point) → IsFraction p
    → IsFarOf taken p (step against p lies (local_point size.x zero_rat zero_rat))
    (step against p lies (local_point zero_rat size.y zero_rat)) (step against p lies (local_point zero_rat zero_rat size.z)) far
    → (c : Corner) → moved against p (coordinate (corner_in size c) lies) ≡ (if is_far c taken then far else p)
axis_span X X against p far size f h c = rw h.0 (moved_end c.x against p size.x f)
axis_span X Y against p far size f h c = moved_end c.x against p size.x f ∙ at_one c.x c.y p _ far h.1 (h.0 ∙ moved_not against p f)
axis_span X Z against p far size f h c = moved_end c.x against p size.x f ∙ at_one c.x c.z p _ far h.1 (h.0 ∙ moved_not against p f)
axis_span Y X against p far size f h c = absurd (h.1 (moved_not against p f))
axis_span Y Y against p far size f h c = rw h.0 (moved_end c.y against p size.y f)
axis_span Y Z against p far size f h c = moved_end c.y against p size.y f ∙ at_one c.y c.z p _ far h.2 (h.0 ∙ moved_not against p f)
axis_span Z X against p far size f h c = absurd (h.1 (moved_not against p f))
axis_span Z Y against p far size f h c = absurd (h.2 (moved_not against p f))
axis_span Z Z against p far size f h c = rw h.0 (moved_end c.z against p size.z f)

same_point : (a b c x y z : Rat) → a ≡ x → b ≡ y → c ≡ z → local_point a b c ≡ local_point x y z
same_point a b c x y z e f g = rw (e, f, g) refl

spans_at : (s : Scope) (x y z : Span) → Exists s → x.near ≡ s.at.x → y.near ≡ s.at.y → z.near ≡ s.at.z
    → IsFarOf x.axis s.at.x (next_x s).x (next_y s).x (next_z s).x x.far
    → IsFarOf y.axis s.at.y (next_x s).y (next_y s).y (next_z s).y y.far
    → IsFarOf z.axis s.at.z (next_x s).z (next_y s).z (next_z s).z z.far
    → AreSpans s x y z
unfolding world_point
spans_at s x y z e nx ny nz fx fy fz = λ c.
    rw (nx, ny, nz) (same_point _ _ _ _ _ _
    (axis_span s.frame.x.axis x.axis s.frame.x.against s.at.x x.far s.size e.at.x fx c)
    (axis_span s.frame.y.axis y.axis s.frame.y.against s.at.y y.far s.size e.at.y fy c)
    (axis_span s.frame.z.axis z.axis s.frame.z.against s.at.z z.far s.size e.at.z fz c))

-- the spans that are taken by the near corner's neighbours are the scope's
pub are_spans : (s : Scope) (px py pz : Point) (x y z : Span) → Exists s
    → px ≡ world_point s.at s.frame (local_point s.size.x zero_rat zero_rat)
    → py ≡ world_point s.at s.frame (local_point zero_rat s.size.y zero_rat)
    → pz ≡ world_point s.at s.frame (local_point zero_rat zero_rat s.size.z)
    → x.near ≡ s.at.x → y.near ≡ s.at.y → z.near ≡ s.at.z
    → IsFarOf x.axis s.at.x px.x py.x pz.x x.far → IsFarOf y.axis s.at.y px.y py.y pz.y y.far
    → IsFarOf z.axis s.at.z px.z py.z pz.z z.far → AreSpans s x y z
are_spans s px py pz x y z e ex ey ez nx ny nz fx fy fz =
    spans_at s x y z e nx ny nz (rw (← ex, ← ey, ← ez) fx) (rw (← ex, ← ey, ← ez) fy) (rw (← ex, ← ey, ← ez) fz)

pub spans_from : (s : Scope) (near px py pz : Point) (x y z : Span) → near ≡ s.at → Exists s
    → px ≡ world_point s.at s.frame (local_point s.size.x zero_rat zero_rat)
    → py ≡ world_point s.at s.frame (local_point zero_rat s.size.y zero_rat)
    → pz ≡ world_point s.at s.frame (local_point zero_rat zero_rat s.size.z)
    → x.near ≡ near.x → y.near ≡ near.y → z.near ≡ near.z
    → IsFarOf x.axis near.x px.x py.x pz.x x.far → IsFarOf y.axis near.y px.y py.y pz.y y.far
    → IsFarOf z.axis near.z px.z py.z pz.z z.far → AreSpans s x y z
spans_from s near px py pz x y z n e ex ey ez nx ny nz fx fy fz =
    are_spans s px py pz x y z e ex ey ez (nx ∙ ap (λ (p : Point). p.x) n) (ny ∙ ap (λ (p : Point). p.y) n) (nz ∙ ap (λ (p : Point). p.z) n)
    (rw (← n) fx) (rw (← n) fy) (rw (← n) fz)
