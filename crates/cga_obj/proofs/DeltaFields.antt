-- What the words of an instance are read as again.
use Rattle.std.proofs.Common.{◌≡◌, ◌∙◌, ℕ, zero, suc, ◌+◌, ◌<◌, ◌^◌, List, [], ◌∷◌, ◌++◌, length, drop, refl, sym, ap, subst, arith}
use Rattle.std.proofs.Common.{length-append, append-nil, append_assoc, Bool, true, false, nat_eq, None, Some}
use Rattle.std.specs.Prelude.{decimal, ℤ, pos, negsuc, unsigned_abs, if◌then◌else◌}
use Rattle.std.specs.Fmt.{signed_decimal}
use lib.Signed.{mag}
use Rattle.std.proofs.lemmas.Fmt.{decimal_injective, signed_decimal_injective}
use Rattle.cga_fraction.proofs.Door.{nat_eq_from_ne}
use Rattle.cga_fraction.specs.Rat.{IsFraction, Rat}
use Rattle.cga_fraction.specs.Texts.{exact_text_of}
use Rattle.cga_frame.specs.Axes.{Frame, IsFrame, axis_of, direction, frame_of, minus_of, parity, plus_of}
use Rattle.cga_frame.specs.declared.direction.Direction.{Direction}
use Rattle.cga_frame.specs.declared.direction.Direction.TheVariants.{PlusX, MinusX, PlusY, MinusY, PlusZ, MinusZ}
use Rattle.cga_frame.specs.declared.signed.Signed.{Signed}
use Rattle.cga_word.specs.declared.axis.Axis.{Axis}
use Rattle.cga_word.specs.declared.axis.Axis.TheVariants.{X, Y, Z}
use Rattle.cga_word.specs.declared.primitive.Primitive.{Primitive}
use Rattle.cga_word.specs.declared.primitive.Primitive.TheVariants.{Cube, Quad, Shed, Gable, Hip}
use Rattle.cga_obj.specs.DeltaWords.{direction_word, primitive_word}
use Rattle.cga_obj.proofs.DeltaCuts.{Lacks, cut_once, lacks_by, lacks_more, number_lacks, signed_lacks}

-- ---- numbers

no_more : (w : List ℕ) → [] ≡ w ++ 47 ∷ [] → ⊥
no_more w e = omega (arith, ap length e, length-append w (47 ∷ []))

-- a whole number has no stroke
apart : (t s w : List ℕ) → Lacks 47 t → Lacks 47 s → t ++ [] ≡ s ++ 47 ∷ w → ⊥
apart t s w h k e =
    let longer : t ++ 47 ∷ [] ≡ (s ++ 47 ∷ w) ++ 47 ∷ [] = ap (λ l. l ++ 47 ∷ []) (sym (append-nil t) ∙ e) in
    no_more w (cut_once 47 t s [] (w ++ 47 ∷ []) h k (longer ∙ append_assoc s (47 ∷ w) (47 ∷ []))).1

-- a stroke and the denominator, where that isn't 1
abbrev stroke : ℕ → List ℕ
stroke zero = []
stroke (suc a) = 47 ∷ decimal (suc a + 1)

stroke_is : (m : List ℕ) (a : ℕ) → m ++ (if nat_eq a 0 then [] else (47 ∷ decimal (a + 1))) ≡ m ++ stroke a
stroke_is m zero = refl
stroke_is m (suc a) = rw (nat_eq_from_ne (suc a) 0 (λ e. omega (arith, e))) refl

exact_is : (a : Rat) → exact_text_of a ≡ signed_decimal a.num ++ stroke a.above
unfolding exact_text_of
exact_is a = stroke_is (signed_decimal a.num) a.above

small : (z : ℤ) → unsigned_abs z < 2 ^ 63 → mag z < 2 ^ 63
small (pos n) h = omega (arith, h)
small (negsuc n) h = omega (arith, h)

-- a whole number has no stroke
plain : (z : ℤ) → unsigned_abs z < 2 ^ 63 → Lacks 47 (signed_decimal z)
plain z h = signed_lacks 47 z (omega arith) (λ x. omega (arith, x)) h

exact_one : (m n : ℤ) (a b : ℕ) → unsigned_abs m < 2 ^ 63 → unsigned_abs n < 2 ^ 63 → a + 1 < 2 ^ 64 → b + 1 < 2 ^ 64
    → signed_decimal m ++ stroke a ≡ signed_decimal n ++ stroke b
    → (m ≡ n) × (a ≡ b)
exact_one m n zero zero hm hn ha hb e =
    (signed_decimal_injective m n (small m hm) (small n hn) (sym (append-nil (signed_decimal m)) ∙ e ∙ append-nil (signed_decimal n)), refl)
exact_one m n zero (suc b) hm hn ha hb e =
    absurd (apart (signed_decimal m) (signed_decimal n) (decimal (suc b + 1)) (plain m hm) (plain n hn) e)
exact_one m n (suc a) zero hm hn ha hb e =
    absurd (apart (signed_decimal n) (signed_decimal m) (decimal (suc a + 1)) (plain n hn) (plain m hm) (sym e))
exact_one m n (suc a) (suc b) hm hn ha hb e =
    let cut = cut_once 47 (signed_decimal m) (signed_decimal n) (decimal (suc a + 1)) (decimal (suc b + 1)) (plain m hm) (plain n hn) e in
    (signed_decimal_injective m n (small m hm) (small n hn) cut.0, omega (arith, decimal_injective (suc a + 1) (suc b + 1) ha hb cut.1))

pub number_one : (a b : Rat) → IsFraction a → IsFraction b → exact_text_of a ≡ exact_text_of b → a ≡ b
number_one a b h k e =
    let p = h.numerator in let q = k.numerator in let r = h.denominator in let s = k.denominator in
    let is = sym (exact_is a) ∙ e ∙ exact_is b in
    let same = exact_one a.num b.num a.above b.above (omega (arith, p)) (omega (arith, q)) (omega (arith, r)) (omega (arith, s)) is in
    λ i. record { num = same.0 i; above = same.1 i }

parts_lack : (m : ℤ) (a : ℕ) → unsigned_abs m < 2 ^ 63 → a + 1 < 2 ^ 64 → Lacks 32 (signed_decimal m ++ stroke a)
parts_lack m zero hm ha = lacks_more 32 (signed_decimal m) [] (signed_lacks 32 m (omega arith) (λ x. omega (arith, x)) hm) tt
parts_lack m (suc a) hm ha =
    lacks_more 32 (signed_decimal m) (47 ∷ decimal (suc a + 1)) (signed_lacks 32 m (omega arith) (λ x. omega (arith, x)) hm)
    ((λ x. omega (arith, x)), number_lacks 32 (suc a + 1) (omega arith) ha)

pub exact_lacks : (a : Rat) → IsFraction a → Lacks 32 (exact_text_of a)
exact_lacks a h =
    let p = h.numerator in let r = h.denominator in
    subst (Lacks 32) (sym (exact_is a)) (parts_lack a.num a.above (omega (arith, p)) (omega (arith, r)))

-- ---- solids

abbrev other : ℕ → Bool
other byte = if nat_eq byte 32 then false else true

abbrev read_solid : List ℕ → Primitive
read_solid [] = Cube
read_solid (c ∷ cs) =
    if nat_eq c 99 then Cube
    else (if nat_eq c 113 then Quad else (if nat_eq c 115 then Shed else (if nat_eq c 103 then Gable else Hip)))

solid_again : (p : Primitive) → read_solid (primitive_word p) ≡ p
unfolding primitive_word
solid_again Cube = refl
solid_again Quad = refl
solid_again Shed = refl
solid_again Gable = refl
solid_again Hip = refl

pub solid_one : (p q : Primitive) → primitive_word p ≡ primitive_word q → p ≡ q
solid_one p q e = sym (solid_again p) ∙ ap read_solid e ∙ solid_again q

pub solid_lacks : (p : Primitive) → Lacks 32 (primitive_word p)
unfolding primitive_word
solid_lacks Cube = lacks_by other 32 refl (primitive_word Cube) refl
solid_lacks Quad = lacks_by other 32 refl (primitive_word Quad) refl
solid_lacks Shed = lacks_by other 32 refl (primitive_word Shed) refl
solid_lacks Gable = lacks_by other 32 refl (primitive_word Gable) refl
solid_lacks Hip = lacks_by other 32 refl (primitive_word Hip) refl

-- ---- axes

abbrev of_letter : ℕ → Direction → Direction → Direction → Direction
of_letter c x y z = if nat_eq c 88 then x else (if nat_eq c 89 then y else z)

abbrev read_way : List ℕ → Direction
read_way [] = PlusX
read_way (s ∷ []) = PlusX
read_way (s ∷ c ∷ cs) = if nat_eq s 43 then of_letter c PlusX PlusY PlusZ else of_letter c MinusX MinusY MinusZ

way_again : (d : Direction) (r : List ℕ) → read_way (direction_word d ++ r) ≡ d
unfolding direction_word
way_again PlusX r = refl
way_again MinusX r = refl
way_again PlusY r = refl
way_again MinusY r = refl
way_again PlusZ r = refl
way_again MinusZ r = refl

way_rest : (d : Direction) (r : List ℕ) → drop 2 (direction_word d ++ r) ≡ r
unfolding direction_word
way_rest PlusX r = refl
way_rest MinusX r = refl
way_rest PlusY r = refl
way_rest MinusY r = refl
way_rest PlusZ r = refl
way_rest MinusZ r = refl

way_lacks : (d : Direction) → Lacks 32 (direction_word d)
unfolding direction_word
way_lacks PlusX = lacks_by other 32 refl (direction_word PlusX) refl
way_lacks MinusX = lacks_by other 32 refl (direction_word MinusX) refl
way_lacks PlusY = lacks_by other 32 refl (direction_word PlusY) refl
way_lacks MinusY = lacks_by other 32 refl (direction_word MinusY) refl
way_lacks PlusZ = lacks_by other 32 refl (direction_word PlusZ) refl
way_lacks MinusZ = lacks_by other 32 refl (direction_word MinusZ) refl

way_one : (a b : Direction) (r s : List ℕ) → direction_word a ++ r ≡ direction_word b ++ s → (a ≡ b) × (r ≡ s)
way_one a b r s e = (sym (way_again a r) ∙ ap read_way e ∙ way_again b s, sym (way_rest a r) ∙ ap (drop 2) e ∙ way_rest b s)

abbrev signed_of : Direction → Signed
signed_of PlusX = plus_of X
signed_of MinusX = minus_of X
signed_of PlusY = plus_of Y
signed_of MinusY = minus_of Y
signed_of PlusZ = plus_of Z
signed_of MinusZ = minus_of Z

signed_again : (a : Axis) (t : Bool) → signed_of (direction (record { axis = a; against = t })) ≡ record { axis = a; against = t }
signed_again X false = refl
signed_again X true = refl
signed_again Y false = refl
signed_again Y true = refl
signed_again Z false = refl
signed_again Z true = refl

signed_one : (s t : Signed) → direction s ≡ direction t → s ≡ t
signed_one s t e = sym (signed_again s.axis s.against) ∙ ap signed_of e ∙ signed_again t.axis t.against

abbrev of_axes : Frame → Frame
of_axes f = frame_of (axis_of f X) (axis_of f Y) (axis_of f Z)

-- the frame of these axes, each against its world axis or not
abbrev frame_by : Axis → Axis → Axis → Bool → Bool → Bool → Frame
frame_by a b c p q r = record {
  x = record { axis = a; against = p };
  y = record { axis = b; against = q };
  z = record { axis = c; against = r };
}

frame_again : (a b c : Axis) (p q r o : Bool) → parity a b c ≡ Some o
    → of_axes (frame_by a b c p q r) ≡ frame_by a b c p q r
frame_again X X X p q r o e = let none : None ≡ Some o = e in cc
frame_again X X Y p q r o e = let none : None ≡ Some o = e in cc
frame_again X X Z p q r o e = let none : None ≡ Some o = e in cc
frame_again X Y X p q r o e = let none : None ≡ Some o = e in cc
frame_again X Y Y p q r o e = let none : None ≡ Some o = e in cc
frame_again X Y Z p q r o e = refl
frame_again X Z X p q r o e = let none : None ≡ Some o = e in cc
frame_again X Z Y p q r o e = refl
frame_again X Z Z p q r o e = let none : None ≡ Some o = e in cc
frame_again Y X X p q r o e = let none : None ≡ Some o = e in cc
frame_again Y X Y p q r o e = let none : None ≡ Some o = e in cc
frame_again Y X Z p q r o e = refl
frame_again Y Y X p q r o e = let none : None ≡ Some o = e in cc
frame_again Y Y Y p q r o e = let none : None ≡ Some o = e in cc
frame_again Y Y Z p q r o e = let none : None ≡ Some o = e in cc
frame_again Y Z X p q r o e = refl
frame_again Y Z Y p q r o e = let none : None ≡ Some o = e in cc
frame_again Y Z Z p q r o e = let none : None ≡ Some o = e in cc
frame_again Z X X p q r o e = let none : None ≡ Some o = e in cc
frame_again Z X Y p q r o e = refl
frame_again Z X Z p q r o e = let none : None ≡ Some o = e in cc
frame_again Z Y X p q r o e = refl
frame_again Z Y Y p q r o e = let none : None ≡ Some o = e in cc
frame_again Z Y Z p q r o e = let none : None ≡ Some o = e in cc
frame_again Z Z X p q r o e = let none : None ≡ Some o = e in cc
frame_again Z Z Y p q r o e = let none : None ≡ Some o = e in cc
frame_again Z Z Z p q r o e = let none : None ≡ Some o = e in cc

-- which way an axis of a frame points
abbrev way : Frame → Axis → List ℕ
way f a = direction_word (direction (axis_of f a))

abbrev pub ways : Frame → List ℕ
ways f = (way f X ++ way f Y) ++ way f Z

pub ways_lack : (f : Frame) → Lacks 32 (ways f)
ways_lack f =
    let one = λ (a : Axis). way_lacks (direction (axis_of f a)) in
    lacks_more 32 (way f X ++ way f Y) (way f Z) (lacks_more 32 (way f X) (way f Y) (one X) (one Y)) (one Z)

in_turn : (f : Frame) → ways f ≡ way f X ++ (way f Y ++ way f Z)
in_turn f = append_assoc (way f X) (way f Y) (way f Z)

last_way : (a b : Direction) → direction_word a ≡ direction_word b → a ≡ b
last_way a b e = (way_one a b [] [] (append-nil (direction_word a) ∙ e ∙ sym (append-nil (direction_word b)))).0

pub frame_one : (f g : Frame) → IsFrame f → IsFrame g → ways f ≡ ways g → f ≡ g
frame_one f g h k e =
    let x = way_one (direction (axis_of f X)) (direction (axis_of g X)) _ _ (sym (in_turn f) ∙ e ∙ in_turn g) in
    let y = way_one (direction (axis_of f Y)) (direction (axis_of g Y)) _ _ x.1 in
    let z = last_way (direction (axis_of f Z)) (direction (axis_of g Z)) y.1 in
    let p = signed_one (axis_of f X) (axis_of g X) x.0 in
    let q = signed_one (axis_of f Y) (axis_of g Y) y.0 in
    let r = signed_one (axis_of f Z) (axis_of g Z) z in
    sym (frame_again f.x.axis f.y.axis f.z.axis f.x.against f.y.against f.z.against _ h.even)
    ∙ (λ i. frame_of (p i) (q i) (r i))
    ∙ frame_again g.x.axis g.y.axis g.z.axis g.x.against g.y.against g.z.against _ k.even
