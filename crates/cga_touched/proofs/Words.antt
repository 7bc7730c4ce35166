-- The tests of words, numbers and shapes tell equality.
use Rattle.std.proofs.Common.{◌≡◌, ℕ, List, Bool, true, false, ◌&&◌, refl, sym, ap, subst, ◌∙◌, nat_eq, Some, None, true≢false, eqb-true, eq-eqb}
use Rattle.std.specs.Prelude.{Option}
use Rattle.std.specs.Ordering.{int_eq}
use Rattle.std.specs.Cmp.{booleans_Decides}
use Rattle.std.proofs.lemmas.Bool.Decides.{Decides-int_eq}
use lib.Pointwise.{pointwise, pointwise_decides, bytes_decides}
use mathlib.Core.Bool.{beq}
use Rattle.cga_fraction.specs.Rat.{Rat}
use Rattle.cga_word.specs.declared.answer.Answer.{Answer}
use Rattle.cga_word.specs.declared.answer.Answer.TheVariants.{Nothing, Part, Full}
use Rattle.cga_word.specs.declared.answers.Answers.{Answers}
use Rattle.cga_word.specs.declared.axis.Axis.{Axis}
use Rattle.cga_word.specs.declared.axis.Axis.TheVariants.{X, Y, Z}
use Rattle.cga_word.specs.declared.mode.Mode.{Mode}
use Rattle.cga_word.specs.declared.mode.Mode.TheVariants.{Breadth, Depth}
use Rattle.cga_frame.specs.Axes.{Frame, same_axis}
use Rattle.cga_frame.specs.Scope.{Scope}
use Rattle.cga_frame.specs.declared.point.Point.{Point}
use Rattle.cga_frame.specs.declared.signed.Signed.{Signed}
use Rattle.cga_check.specs.Uses.{same_name}
use Rattle.cga_shape.specs.declared.shape.Shape.{Shape}
use Rattle.cga_touched.specs.Words.{same_option, same_mode, same_answer, same_answers, same_rat, same_point, same_signed, same_frame, same_scope, same_path, same_shape}
pub use Rattle.std.proofs.lemmas.Bool.{and_from as pair, and_parts as both}
pub use Rattle.cga_fraction.proofs.Door.{false-not-true as not_so}

-- a test tells a value from others: it passes at no other, and at this one
abbrev pub Tells : {A : Type 0} → (A → A → Bool) → A → Type 0
Tells {A} same x = ((y : A) → same x y ≡ true → x ≡ y) × (same x x ≡ true)

pub tells_equal : {A : Type 0} (same : A → A → Bool) (x y : A) → Tells same x → x ≡ y → same x y ≡ true
tells_equal same x y t e = subst (λ z. same x z ≡ true) e t.1

list_decides : {A : Type 0} (same : A → A → Bool) → ((x : A) → Tells same x) → (xs ys : List A)
    → (pointwise same xs ys ≡ true → xs ≡ ys) × (xs ≡ ys → pointwise same xs ys ≡ true)
list_decides same each = pointwise_decides (λ x y. ((each x).0 y, tells_equal same x y (each x)))

pub list_tells : {A : Type 0} (same : A → A → Bool) → ((x : A) → Tells same x) → (xs : List A)
    → Tells (pointwise same) xs
list_tells same each xs = ((λ ys h. (list_decides same each xs ys).0 h), (list_decides same each xs xs).1 refl)

pub option_tells : {A : Type 0} (same : A → A → Bool) → ((x : A) → Tells same x) → (x : Option A)
    → Tells (same_option same) x
option_tells same each x = (sound x, own x)
  where
    sound : (a b : Option _) → same_option same a b ≡ true → a ≡ b
    sound None None h = refl
    sound (Some a) (Some b) h = ap Some ((each a).0 b h)
    sound a b h = not_so h

    own : (a : Option _) → same_option same a a ≡ true
    own None = refl
    own (Some a) = (each a).1

-- ---- words

pub name_tells : (a : List ℕ) → Tells same_name a
name_tells a = ((λ b h. (bytes_decides a b).0 h), (bytes_decides a a).1 refl)

pub nat_tells : (a : ℕ) → Tells nat_eq a
nat_tells a = ((λ b h. eqb-true a b h), eq-eqb a a refl)

pub flag_tells : (a : Bool) → Tells beq a
flag_tells a = let d = booleans_Decides in ((λ b h. (d a b).0 h), (d a a).1 refl)

pub axis_tells : (a : Axis) → Tells same_axis a
axis_tells a = (sound a, own a)
  where
    sound : (a b : Axis) → same_axis a b ≡ true → a ≡ b
    sound X X h = refl
    sound Y Y h = refl
    sound Z Z h = refl
    sound a b h = not_so h

    own : (a : Axis) → same_axis a a ≡ true
    own X = refl
    own Y = refl
    own Z = refl

pub mode_tells : (a : Mode) → Tells same_mode a
mode_tells a = (sound a, own a)
  where
    sound : (a b : Mode) → same_mode a b ≡ true → a ≡ b
    sound Breadth Breadth h = refl
    sound Depth Depth h = refl
    sound a b h = not_so h

    own : (a : Mode) → same_mode a a ≡ true
    own Breadth = refl
    own Depth = refl

pub answer_tells : (a : Answer) → Tells same_answer a
answer_tells a = (sound a, own a)
  where
    sound : (a b : Answer) → same_answer a b ≡ true → a ≡ b
    sound Nothing Nothing h = refl
    sound Part Part h = refl
    sound Full Full h = refl
    sound a b h = not_so h

    own : (a : Answer) → same_answer a a ≡ true
    own Nothing = refl
    own Part = refl
    own Full = refl

pub answers_tell : (a : Answers) → Tells same_answers a
answers_tell a = (sound a, pair _ _ (option_tells same_answer answer_tells a.noparent).1 (option_tells same_answer answer_tells a.active).1)
  where
    sound : (a b : Answers) → same_answers a b ≡ true → a ≡ b
    sound a b h =
        let w = both (same_option same_answer a.noparent b.noparent) _ h in
        λ i. record { noparent = (option_tells same_answer answer_tells a.noparent).0 b.noparent w.0 i; active = (option_tells same_answer answer_tells a.active).0 b.active w.1 i }

-- ---- numbers and scopes

pub rat_tells : (a : Rat) → Tells same_rat a
rat_tells a = (sound a, pair (int_eq a.num a.num) (nat_eq a.above a.above) ((Decides-int_eq a.num a.num).1 refl) (eq-eqb a.above a.above refl))
  where
    sound : (a b : Rat) → same_rat a b ≡ true → a ≡ b
    sound a b h =
        let w = both (int_eq a.num b.num) (nat_eq a.above b.above) h in
        let n : a.num ≡ b.num = (Decides-int_eq a.num b.num).0 w.0 in
        let m : a.above ≡ b.above = eqb-true a.above b.above w.1 in
        λ i. record { num = n i; above = m i }

point_tells : (a : Point) → Tells same_point a
point_tells a = (sound a, pair (same_rat a.x a.x) _ (rat_tells a.x).1 (pair (same_rat a.y a.y) (same_rat a.z a.z) (rat_tells a.y).1 (rat_tells a.z).1))
  where
    sound : (a b : Point) → same_point a b ≡ true → a ≡ b
    sound a b h =
        let w = both (same_rat a.x b.x) (same_rat a.y b.y && same_rat a.z b.z) h in
        let v = both (same_rat a.y b.y) (same_rat a.z b.z) w.1 in
        λ i. record { x = (rat_tells a.x).0 b.x w.0 i; y = (rat_tells a.y).0 b.y v.0 i; z = (rat_tells a.z).0 b.z v.1 i }

signed_tells : (a : Signed) → Tells same_signed a
signed_tells a = (sound a, pair (same_axis a.axis a.axis) (beq a.against a.against) (axis_tells a.axis).1 (flag_tells a.against).1)
  where
    sound : (a b : Signed) → same_signed a b ≡ true → a ≡ b
    sound a b h =
        let w = both (same_axis a.axis b.axis) (beq a.against b.against) h in
        λ i. record { axis = (axis_tells a.axis).0 b.axis w.0 i; against = (flag_tells a.against).0 b.against w.1 i }

frame_tells : (a : Frame) → Tells same_frame a
frame_tells a = (sound a, pair (same_signed a.x a.x) _ (signed_tells a.x).1 (pair (same_signed a.y a.y) (same_signed a.z a.z) (signed_tells a.y).1 (signed_tells a.z).1))
  where
    sound : (a b : Frame) → same_frame a b ≡ true → a ≡ b
    sound a b h =
        let w = both (same_signed a.x b.x) (same_signed a.y b.y && same_signed a.z b.z) h in
        let v = both (same_signed a.y b.y) (same_signed a.z b.z) w.1 in
        λ i. record { x = (signed_tells a.x).0 b.x w.0 i; y = (signed_tells a.y).0 b.y v.0 i; z = (signed_tells a.z).0 b.z v.1 i }

scope_tells : (a : Scope) → Tells same_scope a
unfolding same_scope
scope_tells a = (sound a, pair (same_point a.at a.at) _ (point_tells a.at).1 (pair (same_frame a.frame a.frame) (same_point a.size a.size) (frame_tells a.frame).1 (point_tells a.size).1))
  where
    sound : (a b : Scope) → same_scope a b ≡ true → a ≡ b
    sound a b h =
        let w = both (same_point a.at b.at) (same_frame a.frame b.frame && same_point a.size b.size) h in
        let v = both (same_frame a.frame b.frame) (same_point a.size b.size) w.1 in
        λ i. record { at = (point_tells a.at).0 b.at w.0 i; frame = (frame_tells a.frame).0 b.frame v.0 i; size = (point_tells a.size).0 b.size v.1 i }

-- ---- shapes

shape_own : (a : Shape) → same_shape a a ≡ true
unfolding same_shape
shape_own a =
    pair (same_name a.lot a.lot) _ (name_tells a.lot).1
    (pair (same_path a.path a.path) _ (name_tells a.path).1
    (pair (same_name a.symbol a.symbol) _ (name_tells a.symbol).1
    (pair (pointwise same_rat a.args a.args) _ (list_tells same_rat rat_tells a.args).1
    (pair (same_scope a.scope a.scope) (nat_eq a.seed a.seed) (scope_tells a.scope).1 (nat_tells a.seed).1))))

shape_sound : (a b : Shape) → same_shape a b ≡ true → a ≡ b
unfolding same_shape
shape_sound a b h =
    let lot = both (same_name a.lot b.lot) _ h in
    let path = both (same_path a.path b.path) _ lot.1 in
    let symbol = both (same_name a.symbol b.symbol) _ path.1 in
    let args = both (pointwise same_rat a.args b.args) _ symbol.1 in
    let scope = both (same_scope a.scope b.scope) (nat_eq a.seed b.seed) args.1 in
    λ i. record {
      lot = (name_tells a.lot).0 b.lot lot.0 i;
      path = (name_tells a.path).0 b.path path.0 i;
      symbol = (name_tells a.symbol).0 b.symbol symbol.0 i;
      args = (list_tells same_rat rat_tells a.args).0 b.args args.0 i;
      scope = (scope_tells a.scope).0 b.scope scope.0 i;
      seed = (nat_tells a.seed).0 b.seed scope.1 i;
    }

pub shape_tells : (a : Shape) → Tells same_shape a
shape_tells a = (shape_sound a, shape_own a)
