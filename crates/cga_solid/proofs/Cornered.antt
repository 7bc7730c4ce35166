-- A corner of the scope's box is placed in range.
use Rattle.std.proofs.Common.{◌≡◌, ◌∙◌, ◌⊎◌, inl, inr, List, [], ◌∷◌, map, Bool, true, false, refl, sym, ap, subst, Ok}
use Rattle.cga_fraction.specs.Rat.{Rat, zero_rat, IsFraction}
use Rattle.cga_fraction.specs.Refusals.{in_range}
use Rattle.cga_fraction.specs.Results.{or_err}
use Rattle.cga_fraction.proofs.Door.{fraction_in_range, fraction_lowest, minus-zero, plus-zero}
use Rattle.cga_word.specs.declared.axis.Axis.{Axis}
use Rattle.cga_word.specs.declared.axis.Axis.TheVariants.{X, Y, Z}
use Rattle.cga_word.specs.declared.primitive.Primitive.{Primitive}
use Rattle.cga_frame.specs.Points.{InRange, checked_point, coordinate, point_in_range}
use Rattle.cga_frame.specs.Scope.{Exists, Scope, moved, moved_along, world_point}
use Rattle.cga_frame.specs.declared.point.Point.{Point}
use Rattle.cga_frame.specs.declared.signed.Signed.{Signed}
use Rattle.cga_solid.specs.Corners.{corners_of, over_base, point}
use Rattle.cga_solid.specs.Solids.{all_placed, check_solid_of, form_of, is_cornered, lacks_size, mesh_of, placed, vertices_of}
use Rattle.cga_solid.specs.declared.form.Form.{Form}
use Rattle.cga_solid.specs.declared.form.Form.TheVariants as form
use Rattle.cga_solid.specs.declared.solid_fault.SolidFault.{SolidFault}

-- 0 or the whole size
abbrev IsEnd : Rat → Rat → Type 0
IsEnd x size = (x ≡ zero_rat) ⊎ (x ≡ size)

record IsCorner (c size : Point) : Type 0 where
  x : IsEnd c.x size.x
  y : IsEnd c.y size.y
  z : IsEnd c.z size.z

abbrev AreCorners : Point → List Point → Type 0
AreCorners size [] = Unit {0}
AreCorners size (c ∷ cs) = IsCorner c size × AreCorners size cs

moved_not : (against : Bool) (p : Rat) → IsFraction p → moved against p zero_rat ≡ p
moved_not true p f = minus-zero p (fraction_lowest p f)
moved_not false p f = plus-zero p (fraction_lowest p f)

moved_to_end : (against : Bool) (p x size : Rat) → IsEnd x size → IsFraction p → IsFraction (moved against p size)
    → IsFraction (moved against p x)
moved_to_end against p x size end near far = elim end [
  | inl none ↦ subst IsFraction (sym (ap (moved against p) none ∙ moved_not against p near)) near
  | inr whole ↦ subst (λ b. IsFraction (moved against p b)) (sym whole) far
]

end_along : (c size : Point) (axis : Axis) → IsCorner c size → IsEnd (coordinate c axis) (coordinate size axis)
end_along c size X k = k.x
end_along c size Y k = k.y
end_along c size Z k = k.z

in_range_along : (s : Signed) (p : Rat) (c size : Point) → IsCorner c size → IsFraction p
    → IsFraction (moved_along s p size) → in_range (moved_along s p c) ≡ true
in_range_along s p c size k near far =
    fraction_in_range (moved_along s p c) (moved_to_end s.against p (coordinate c s.axis) (coordinate size s.axis) (end_along c size s.axis k) near far)

-- so it is placed
corner_placed : (s : Scope) (c : Point) → Exists s → IsCorner c s.size → placed s c ≡ Ok (world_point s.at s.frame c)
unfolding world_point checked_point
corner_placed s c e k =
    rw (in_range_along s.frame.x s.at.x c s.size k e.at.x e.far.x, in_range_along s.frame.y s.at.y c s.size k e.at.y e.far.y, in_range_along s.frame.z s.at.z c s.size k e.at.z e.far.z) refl

corners_placed : (s : Scope) (cs : List Point) → Exists s → AreCorners s.size cs
    → all_placed s cs ≡ Ok (map (world_point s.at s.frame) cs)
corners_placed s [] e ks = refl
corners_placed s (c ∷ cs) e ks = rw (corner_placed s c e ks.0, corners_placed s cs e ks.1) refl

corner_at : (c size : Point) → IsEnd c.x size.x → IsEnd c.y size.y → IsEnd c.z size.z → IsCorner c size
corner_at c size p q r = record { x = p; y = q; z = r }

base_corners : (s : Point) (more : List Point) → AreCorners s more → AreCorners s (over_base s more)
base_corners s more ks = (
  corner_at (point zero_rat zero_rat zero_rat) s (inl refl) (inl refl) (inl refl),
  (
    corner_at (point s.x zero_rat zero_rat) s (inr refl) (inl refl) (inl refl),
    (
      corner_at (point s.x zero_rat s.z) s (inr refl) (inl refl) (inr refl),
      (corner_at (point zero_rat zero_rat s.z) s (inl refl) (inl refl) (inr refl), ks),
    ),
  ),
)

-- a form has such corners alone
cornered : (f : Form) (s : Point) → is_cornered f ≡ true
    → (cs : List Point) × (corners_of f s ≡ Ok cs) × AreCorners s cs
unfolding corners_of
cornered form.Cube s h =
    let more = point zero_rat s.y zero_rat ∷ point s.x s.y zero_rat ∷ point s.x s.y s.z ∷ point zero_rat s.y s.z ∷ [] in (
      over_base s more,
      refl,
      base_corners s more (
        corner_at (point zero_rat s.y zero_rat) s (inl refl) (inr refl) (inl refl),
        (
          corner_at (point s.x s.y zero_rat) s (inr refl) (inr refl) (inl refl),
          (
            corner_at (point s.x s.y s.z) s (inr refl) (inr refl) (inr refl),
            (corner_at (point zero_rat s.y s.z) s (inl refl) (inr refl) (inr refl), tt),
          ),
        ),
      ),
    )
cornered form.Shed s h =
    let more = point s.x s.y s.z ∷ point zero_rat s.y s.z ∷ [] in (
      over_base s more,
      refl,
      base_corners s more (
        corner_at (point s.x s.y s.z) s (inr refl) (inr refl) (inr refl),
        (corner_at (point zero_rat s.y s.z) s (inl refl) (inr refl) (inr refl), tt),
      ),
    )
cornered form.Quad s h = (
  point zero_rat zero_rat zero_rat ∷ point s.x zero_rat zero_rat ∷ point s.x s.y zero_rat ∷ point zero_rat s.y zero_rat ∷ [],
  refl,
  (
    corner_at (point zero_rat zero_rat zero_rat) s (inl refl) (inl refl) (inl refl),
    (
      corner_at (point s.x zero_rat zero_rat) s (inr refl) (inl refl) (inl refl),
      (
        corner_at (point s.x s.y zero_rat) s (inr refl) (inr refl) (inl refl),
        (corner_at (point zero_rat s.y zero_rat) s (inl refl) (inr refl) (inl refl), tt),
      ),
    ),
  ),
)
cornered f s h = absurd (cc)

-- so where no size lacks there is a mesh
pub check_cornered : (p : Primitive) (s : Scope) → Exists s → lacks_size p s.size ≡ false
    → is_cornered (form_of p s.size) ≡ true → Ok tt ≡ check_solid_of p s
unfolding mesh_of
check_cornered p s e sized is =
    let w = cornered (form_of p s.size) s.size is in
    rw (sized, w.1, corners_placed s w.0 e w.2) refl
