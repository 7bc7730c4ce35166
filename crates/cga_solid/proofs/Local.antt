-- The corners of a solid lie between 0 and the scope's size.
use Rattle.std.proofs.Common.{◌≡◌, List, [], ◌∷◌, Bool, true, false, refl, ap, ◌∙◌, subst, Ok, Result}
use Rattle.std.specs.Prelude.{IsTrue, not, ◌||◌, if◌then◌else◌}
use Rattle.cga_fraction.specs.Rat.{Rat, zero_rat}
use Rattle.cga_fraction.specs.Order.{rat_le, rat_lt}
use Rattle.cga_fraction.specs.Arithmetic.{minus, divided}
use Rattle.cga_fraction.proofs.Door.{and_then-ok, le_refl, lt_le}
use Rattle.cga_frame.specs.Scope.{has_negative}
use Rattle.cga_frame.specs.declared.point.Point.{Point}
use Rattle.cga_word.specs.declared.primitive.Primitive.{Primitive}
use Rattle.cga_word.specs.declared.primitive.Primitive.TheVariants as primitive
use Rattle.cga_solid.specs.Faults.{within}
use Rattle.cga_solid.specs.Corners.{corners_of, half_of, over_base, point, two}
use Rattle.cga_solid.specs.Solids.{form_of}
use Rattle.cga_solid.specs.declared.form.Form.TheVariants.{Cube, Shed, GableAlongX, GableAlongZ, HipAlongX, HipAlongZ, Pyramid, Quad}
use Rattle.cga_solid.specs.declared.solid_fault.SolidFault.{SolidFault}
use Rattle.cga_solid.proofs.Halves.{IsWithin, half_within, rest_within, within_is}

pub same_ok : {A F : Type 0} (a b : A) → ◌≡◌ {A = Result A F} (Ok a) (Ok b) → a ≡ b
same_ok a b h = cc

-- each coordinate is from 0 to the size
pub record IsLocal (c size : Point) : Type 0 where
  pub x : IsWithin c.x size.x
  pub y : IsWithin c.y size.y
  pub z : IsWithin c.z size.z

abbrev pub AllLocal : Point → List Point → Type 0
AllLocal s [] = Unit {0}
AllLocal s (c ∷ cs) = IsLocal c s × AllLocal s cs

-- no size is below 0
pub record IsSize (s : Point) : Type 0 where
  pub x : IsTrue (rat_le zero_rat s.x)
  pub y : IsTrue (rat_le zero_rat s.y)
  pub z : IsTrue (rat_le zero_rat s.z)

none_of : (a b c : Bool) → (not a || not b || not c) ≡ false → (a ≡ true) × (b ≡ true) × (c ≡ true)
none_of true true true h = (refl, refl, refl)
none_of true true false h = absurd (cc)
none_of true false c h = absurd (cc)
none_of false b c h = absurd (cc)

pub sizes : (s : Point) → has_negative s ≡ false → IsSize s
sizes s h =
    let w = none_of (rat_le zero_rat s.x) (rat_le zero_rat s.y) (rat_le zero_rat s.z) h in record { x = w.0; y = w.1; z = w.2 }

low : (a : Rat) → IsTrue (rat_le zero_rat a) → IsWithin zero_rat a
low a h = record { low = le_refl zero_rat; high = h }

own : (a : Rat) → IsTrue (rat_le zero_rat a) → IsWithin a a
own a h = record { low = h; high = le_refl a }

at : (s : Point) (x y z : Rat) → IsWithin x s.x → IsWithin y s.y → IsWithin z s.z → IsLocal (point x y z) s
at s x y z a b c = record { x = a; y = b; z = c }

base_local : (s : Point) (more : List Point) → IsSize s → AllLocal s more → AllLocal s (over_base s more)
base_local s more p m =
    let x = low s.x p.x in
    let y = low s.y p.y in
    let z = low s.z p.z in
    let w = own s.x p.x in
    let d = own s.z p.z in
    (at s zero_rat zero_rat zero_rat x y z, (at s s.x zero_rat zero_rat w y z, (at s s.x zero_rat s.z w y d, (at s zero_rat zero_rat s.z x y d, m))))

ridge_local : (s a b : Point) → IsSize s → IsLocal a s → IsLocal b s → AllLocal s (over_base s (a ∷ b ∷ []))
ridge_local s a b p f g = base_local s (a ∷ b ∷ []) p (f, (g, tt))

level_local : (s a b c d : Point) → IsSize s → IsLocal a s → IsLocal b s → IsLocal c s → IsLocal d s
    → AllLocal s (over_base s (a ∷ b ∷ c ∷ d ∷ []))
level_local s a b c d p f g h k = base_local s (a ∷ b ∷ c ∷ d ∷ []) p (f, (g, (h, (k, tt))))

given : (s : Point) (xs cs : List Point) → AllLocal s xs → ◌≡◌ {A = Result (List Point) SolidFault} (Ok xs) (Ok cs)
    → AllLocal s cs
given s xs cs all h = subst (λ (l : List Point). AllLocal s l) (same_ok xs cs h) all

-- the half that was made is within the other size
half_is : (d w m : Rat) → half_of d ≡ Ok m → IsTrue (rat_le zero_rat d) → IsTrue (rat_le zero_rat w)
    → IsTrue (rat_le d w) → IsWithin m w
half_is d w m h f g k = subst (λ (x : Rat). IsWithin x w) (within_is (divided d two) m h) (half_within d w f g k)

rest_is : (d w m r : Rat) → half_of d ≡ Ok m → within (minus w m) ≡ Ok r → IsTrue (rat_le zero_rat d)
    → IsTrue (rat_le zero_rat w) → IsTrue (rat_le d w) → IsWithin r w
rest_is d w m r h i f g k =
    let e : minus w (divided d two) ≡ r = ap (minus w) (within_is (divided d two) m h) ∙ within_is (minus w m) r i in subst (λ (x : Rat). IsWithin x w) e (rest_within d w f g k)

cube_local : (s : Point) (cs : List Point) → IsSize s → corners_of Cube s ≡ Ok cs → AllLocal s cs
unfolding corners_of
cube_local s cs p h =
    let x = low s.x p.x in
    let z = low s.z p.z in
    let w = own s.x p.x in
    let y = own s.y p.y in
    let d = own s.z p.z in
    given s _ cs (level_local s _ _ _ _ p (at s zero_rat s.y zero_rat x y z) (at s s.x s.y zero_rat w y z) (at s s.x s.y s.z w y d) (at s zero_rat s.y s.z x y d)) h

shed_local : (s : Point) (cs : List Point) → IsSize s → corners_of Shed s ≡ Ok cs → AllLocal s cs
unfolding corners_of
shed_local s cs p h =
    let y = own s.y p.y in
    let d = own s.z p.z in
    given s _ cs (ridge_local s _ _ p (at s s.x s.y s.z (own s.x p.x) y d) (at s zero_rat s.y s.z (low s.x p.x) y d)) h

quad_local : (s : Point) (cs : List Point) → IsSize s → corners_of Quad s ≡ Ok cs → AllLocal s cs
unfolding corners_of
quad_local s cs p h =
    let x = low s.x p.x in
    let y = low s.y p.y in
    let z = low s.z p.z in
    let w = own s.x p.x in
    let t = own s.y p.y in
    given s _ cs (at s zero_rat zero_rat zero_rat x y z, (at s s.x zero_rat zero_rat w y z, (at s s.x s.y zero_rat w t z, (at s zero_rat s.y zero_rat x t z, tt)))) h

gable_x_local : (s : Point) (cs : List Point) → IsSize s → corners_of GableAlongX s ≡ Ok cs → AllLocal s cs
unfolding corners_of
gable_x_local s cs p h =
    let a = and_then-ok (half_of s.z) _ cs h in
    let m = half_is s.z s.z a.0 a.1 p.z p.z (le_refl s.z) in
    let y = own s.y p.y in
    given s _ cs (ridge_local s _ _ p (at s zero_rat s.y a.0 (low s.x p.x) y m) (at s s.x s.y a.0 (own s.x p.x) y m)) a.2

gable_z_local : (s : Point) (cs : List Point) → IsSize s → corners_of GableAlongZ s ≡ Ok cs → AllLocal s cs
unfolding corners_of
gable_z_local s cs p h =
    let a = and_then-ok (half_of s.x) _ cs h in
    let m = half_is s.x s.x a.0 a.1 p.x p.x (le_refl s.x) in
    let y = own s.y p.y in
    given s _ cs (ridge_local s _ _ p (at s a.0 s.y zero_rat m y (low s.z p.z)) (at s a.0 s.y s.z m y (own s.z p.z))) a.2

hip_x_local : (s : Point) (cs : List Point) → IsSize s → IsTrue (rat_le s.z s.x) → corners_of HipAlongX s ≡ Ok cs
    → AllLocal s cs
unfolding corners_of
hip_x_local s cs p l h =
    let a = and_then-ok (half_of s.z) _ cs h in
    let b = and_then-ok (within (minus s.x a.0)) _ cs a.2 in
    let mx = half_is s.z s.x a.0 a.1 p.z p.x l in
    let mz = half_is s.z s.z a.0 a.1 p.z p.z (le_refl s.z) in
    let r = rest_is s.z s.x a.0 b.0 a.1 b.1 p.z p.x l in
    let y = own s.y p.y in
    given s _ cs (ridge_local s _ _ p (at s a.0 s.y a.0 mx y mz) (at s b.0 s.y a.0 r y mz)) b.2

hip_z_local : (s : Point) (cs : List Point) → IsSize s → IsTrue (rat_le s.x s.z) → corners_of HipAlongZ s ≡ Ok cs
    → AllLocal s cs
unfolding corners_of
hip_z_local s cs p l h =
    let a = and_then-ok (half_of s.x) _ cs h in
    let b = and_then-ok (within (minus s.z a.0)) _ cs a.2 in
    let mz = half_is s.x s.z a.0 a.1 p.x p.z l in
    let mx = half_is s.x s.x a.0 a.1 p.x p.x (le_refl s.x) in
    let r = rest_is s.x s.z a.0 b.0 a.1 b.1 p.x p.z l in
    let y = own s.y p.y in
    given s _ cs (ridge_local s _ _ p (at s a.0 s.y a.0 mx y mz) (at s a.0 s.y b.0 mx y r)) b.2

pyramid_local : (s : Point) (cs : List Point) → IsSize s → IsTrue (rat_le s.x s.z) → corners_of Pyramid s ≡ Ok cs
    → AllLocal s cs
unfolding corners_of
pyramid_local s cs p l h =
    let a = and_then-ok (half_of s.x) _ cs h in
    let mz = half_is s.x s.z a.0 a.1 p.x p.z l in
    let mx = half_is s.x s.x a.0 a.1 p.x p.x (le_refl s.x) in
    given s _ cs (base_local s (point a.0 s.y a.0 ∷ []) p (at s a.0 s.y a.0 mx (own s.y p.y) mz, tt)) a.2

gable_local : (b : Bool) (s : Point) (cs : List Point) → IsSize s
    → corners_of (if b then GableAlongX else GableAlongZ) s ≡ Ok cs → AllLocal s cs
gable_local true s cs p h = gable_x_local s cs p h
gable_local false s cs p h = gable_z_local s cs p h

-- of two sizes one is at most the other
at_least : (a : Bool) → not a ≡ false → IsTrue a
at_least true h = refl
at_least false h = absurd (cc)

less : (a b : Rat) → rat_lt a b ≡ true → IsTrue (rat_le a b)
less a b h = lt_le a b h

hip_local : (b c : Bool) (s : Point) (cs : List Point) → IsSize s → rat_lt s.z s.x ≡ b → rat_lt s.x s.z ≡ c
    → corners_of (if b then HipAlongX else (if c then HipAlongZ else Pyramid)) s ≡ Ok cs → AllLocal s cs
hip_local true c s cs p e f h = hip_x_local s cs p (less s.z s.x e) h
hip_local false true s cs p e f h = hip_z_local s cs p (less s.x s.z f) h
hip_local false false s cs p e f h = pyramid_local s cs p (at_least (rat_le s.x s.z) e) h

pub corners_local : (kind : Primitive) (s : Point) (cs : List Point) → IsSize s → corners_of (form_of kind s) s ≡ Ok cs
    → AllLocal s cs
corners_local primitive.Cube s cs p h = cube_local s cs p h
corners_local primitive.Quad s cs p h = quad_local s cs p h
corners_local primitive.Shed s cs p h = shed_local s cs p h
corners_local primitive.Gable s cs p h = gable_local (rat_le s.z s.x) s cs p h
corners_local primitive.Hip s cs p h = hip_local (rat_lt s.z s.x) (rat_lt s.x s.z) s cs p refl refl h
