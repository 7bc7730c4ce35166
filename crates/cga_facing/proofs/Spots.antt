-- Where the corners of each form stand, as multiples of three lengths, and one computed test of all its faces.
use Rattle.std.proofs.Common.{◌≡◌, ℕ, zero, suc, ◌+◌, ◌-◌, ◌*◌, ◌<◌, ◌≤◌, List, [], ◌∷◌, length, get_or, arith}
use Rattle.std.proofs.Common.{Bool, true, ◌&&◌, refl, ap, sym, ◌∙◌, inl, inr}
use Rattle.std.specs.Prelude.{Contains, ◌||◌, not, nat_eq, nat_le, nat_lt, if◌then◌else◌}
use Rattle.std.specs.List.{list_all}
use Rattle.std.proofs.Math.Nat.{mul-pos, mul-le-mul_right}
use Rattle.std.proofs.lemmas.Bool.Decides.{leb_tells}
use Rattle.cga_fraction.proofs.Door.{and_first, and_second, eq_from_nat_eq, lt_from_nat_lt, lt_or_eq_from_lt_suc, nat_eq-same}
use Rattle.cga_solid.specs.Faces.{edges_of}
use Rattle.cga_facing.specs.Facing.{is_of}
use Rattle.cga_facing.proofs.Sides.{Whole, before, behind, product}

-- three lengths, each a whole number over one denominator
pub record Lengths : Type 0 where
  pub over : ℕ
  pub first : ℕ
  pub height : ℕ
  pub second : ℕ

-- the three lengths are above 0
pub record ArePositive (lengths : Lengths) : Type 0 where
  pub first : 0 < lengths.first
  pub height : 0 < lengths.height
  pub second : 0 < lengths.second

-- a corner: x and z are multiples of the first length (s) and of the second (e), and y is one of the height
pub record Spot : Type 0 where
  pub xs : ℕ
  pub xe : ℕ
  pub y : ℕ
  pub zs : ℕ
  pub ze : ℕ

abbrev pub spot : ℕ → ℕ → ℕ → ℕ → ℕ → Spot
spot xs xe y zs ze = record { xs = xs; xe = xe; y = y; zs = zs; ze = ze }

abbrev pub origin : Spot
origin = spot 0 0 0 0 0

-- the base from the origin to the corner opposite, and the further corners
abbrev pub base : Spot → List Spot → List Spot
base far more =
    origin ∷ spot far.xs far.xe 0 0 0 ∷ spot far.xs far.xe 0 far.zs far.ze ∷ spot 0 0 0 far.zs far.ze ∷ more

-- the base whose sides are twice the two lengths
abbrev pub two_by_two : Spot
two_by_two = spot 2 0 0 0 2

-- the corners of each form: the lengths are half of the sides, or of the shorter side and of what the longer has more
abbrev pub cube : List Spot
cube = base two_by_two (spot 0 0 2 0 0 ∷ spot 2 0 2 0 0 ∷ spot 2 0 2 0 2 ∷ spot 0 0 2 0 2 ∷ [])

abbrev pub shed : List Spot
shed = base two_by_two (spot 2 0 2 0 2 ∷ spot 0 0 2 0 2 ∷ [])

abbrev pub gable_x : List Spot
gable_x = base two_by_two (spot 0 0 2 0 1 ∷ spot 2 0 2 0 1 ∷ [])

abbrev pub gable_z : List Spot
gable_z = base two_by_two (spot 1 0 2 0 0 ∷ spot 1 0 2 0 2 ∷ [])

abbrev pub hip_x : List Spot
hip_x = base (spot 2 2 0 2 0) (spot 1 0 2 1 0 ∷ spot 1 2 2 1 0 ∷ [])

abbrev pub hip_z : List Spot
hip_z = base (spot 2 0 0 2 2) (spot 1 0 2 1 0 ∷ spot 1 0 2 1 2 ∷ [])

abbrev pub pyramid : List Spot
pyramid = base (spot 2 0 0 2 0) (spot 1 0 2 1 0 ∷ [])

abbrev pub quad : List Spot
quad = origin ∷ spot 2 0 0 0 0 ∷ spot 2 0 2 0 0 ∷ spot 0 0 2 0 0 ∷ []

-- the point that a spot is, for these lengths
abbrev pub whole_of : Lengths → Spot → Whole
whole_of l p = record { x = p.xs * l.first + p.xe * l.second; y = p.y * l.height; z = p.zs * l.first + p.ze * l.second }

-- what the side of v has above 0, and below it, for these lengths
abbrev pub before_of : Lengths → Spot → Spot → Spot → Spot → ℕ
before_of l a b c v = before product (whole_of l a) (whole_of l b) (whole_of l c) (whole_of l v)

abbrev pub behind_of : Lengths → Spot → Spot → Spot → Spot → ℕ
behind_of l a b c v = behind product (whole_of l a) (whole_of l b) (whole_of l c) (whole_of l v)

-- ---- products of coordinates are volumes

-- a volume: so many times each product of the height with s s, s e and e e
pub record Volume : Type 0 where
  pub ss : ℕ
  pub se : ℕ
  pub ee : ℕ

-- how large a volume is, for these lengths
abbrev pub size_of : Lengths → Volume → ℕ
size_of l v =
    v.ss * (l.first * l.first * l.height) + v.se * (l.first * l.second * l.height) + v.ee * (l.second * l.second * l.height)

abbrev pub of_ss : Spot → Spot → Spot → ℕ
of_ss p q r = p.xs * q.y * r.zs

abbrev pub of_se : Spot → Spot → Spot → ℕ
of_se p q r = (p.xs * r.ze + p.xe * r.zs) * q.y

abbrev pub of_ee : Spot → Spot → Spot → ℕ
of_ee p q r = p.xe * q.y * r.ze

-- the volumes of both
abbrev pub volume_before : Spot → Spot → Spot → Spot → Volume
volume_before a b c v = record { ss = before of_ss a b c v; se = before of_se a b c v; ee = before of_ee a b c v }

abbrev pub volume_behind : Spot → Spot → Spot → Spot → Volume
volume_behind a b c v = record { ss = behind of_ss a b c v; se = behind of_se a b c v; ee = behind of_ee a b c v }

-- ---- the tests

-- the volumes are the same
abbrev pub is_same : Volume → Volume → Bool
is_same v w = nat_eq v.ss w.ss && (nat_eq v.se w.se && nat_eq v.ee w.ee)

-- in nothing is the first more, and in something it is less
abbrev pub is_less : Volume → Volume → Bool
is_less v w =
    nat_le v.ss w.ss && (nat_le v.se w.se && (nat_le v.ee w.ee && nat_lt (v.ss + v.se + v.ee) (w.ss + w.se + w.ee)))

-- as much is before as behind
abbrev pub is_level : Spot → Spot → Spot → Spot → Bool
is_level a b c v = is_same (volume_before a b c v) (volume_behind a b c v)

-- nothing is before, and something is behind
abbrev pub is_lower : Spot → Spot → Spot → Spot → Bool
is_lower a b c v = is_less (volume_before a b c v) (volume_behind a b c v)

abbrev pub stands : Bool → Spot → Spot → Spot → Spot → Bool
stands own a b c v = if own then is_level a b c v else is_lower a b c v

-- each number below this one passes
abbrev all_below : (ℕ → Bool) → ℕ → Bool
all_below test zero = true
all_below test (suc n) = test n && all_below test n

-- the corner of a number, from 1 on
abbrev pub numbered : List Spot → ℕ → Spot
numbered spots n = get_or (origin ∷ spots) n origin

abbrev pub right_of : List Spot → List ℕ → ℕ → ℕ → ℕ → ℕ → Bool
right_of spots face i j k n =
    stands (is_of face (suc n)) (numbered spots i) (numbered spots j) (numbered spots k) (numbered spots (suc n))

abbrev right_edges : List Spot → List ℕ → ℕ × ℕ → ℕ × ℕ → Bool
right_edges spots face first second =
    not (nat_eq first.1 second.0) || all_below (right_of spots face first.0 first.1 second.1) (length spots)

abbrev right_face : List Spot → List ℕ → Bool
right_face spots face =
    list_all (λ first. list_all (right_edges spots face first) (edges_of face)) (edges_of face)

-- all faces pass
abbrev pub all_right : List Spot → List (List ℕ) → Bool
all_right spots faces = list_all (right_face spots) faces

-- ---- what the tests tell

all_at : {A : Type 0} (p : A → Bool) (xs : List A) (k : ℕ) (d : A) → list_all p xs ≡ true → k < length xs
    → p (get_or xs k d) ≡ true
all_at p [] k d h l = absurd (omega arith)
all_at p (x ∷ xs) zero d h l = and_first (p x) (list_all p xs) h
all_at p (x ∷ xs) (suc k) d h l = all_at p xs k d (and_second (p x) (list_all p xs) h) (omega arith)

contained : {A : Type 0} (p : A → Bool) (xs : List A) (x : A) → list_all p xs ≡ true → Contains xs x → p x ≡ true
contained p xs x h k = ap p (sym k.2) ∙ all_at p xs k.0 x h k.1

below_at : (test : ℕ → Bool) (n k : ℕ) → all_below test n ≡ true → k < n → test k ≡ true
below_at test zero k h l = absurd (omega arith)
below_at test (suc n) k h l =
    elim (lt_or_eq_from_lt_suc k n (omega arith)) [
      | inl less ↦ below_at test n k (and_second (test n) (all_below test n) h) less
      | inr same ↦ ap test same ∙ and_first (test n) (all_below test n) h
    ]

meeting : (j : ℕ) (b : Bool) → (not (nat_eq j j) || b) ≡ true → b ≡ true
meeting j b h = sym (let e : (not (nat_eq j j) || b) ≡ b = rw (nat_eq-same j) refl in e) ∙ h

pub stands_at : (spots : List Spot) (faces : List (List ℕ)) (face : List ℕ) (i j k m : ℕ)
    → all_right spots faces ≡ true → Contains faces face → Contains (edges_of face) (i, j)
    → Contains (edges_of face) (j, k) → m < length spots → right_of spots face i j k m ≡ true
stands_at spots faces face i j k m right f g h l =
    let x = contained (right_face spots) faces face right f in
    let first : ℕ × ℕ → Bool = λ first. list_all (right_edges spots face first) (edges_of face) in
    let y = contained first (edges_of face) (i, j) x g in
    let z = contained (right_edges spots face (i, j)) (edges_of face) (j, k) y h in
    below_at (right_of spots face i j k) (length spots) m (meeting j _ z) l

-- ---- what they tell of points

before_is : (l : Lengths) (a b c v : Spot)
    → before_of l a b c v ≡ size_of l (volume_before a b c v)
before_is l a b c v = omega arith

behind_is : (l : Lengths) (a b c v : Spot)
    → behind_of l a b c v ≡ size_of l (volume_behind a b c v)
behind_is l a b c v = omega arith

same_size : (l : Lengths) (v w : Volume) → is_same v w ≡ true → size_of l v ≡ size_of l w
same_size l v w t =
    let more = and_second (nat_eq v.ss w.ss) (nat_eq v.se w.se && nat_eq v.ee w.ee) t in
    let x = eq_from_nat_eq v.ss w.ss (and_first (nat_eq v.ss w.ss) (nat_eq v.se w.se && nat_eq v.ee w.ee) t) in
    let y = eq_from_nat_eq v.se w.se (and_first (nat_eq v.se w.se) (nat_eq v.ee w.ee) more) in
    let z = eq_from_nat_eq v.ee w.ee (and_second (nat_eq v.se w.se) (nat_eq v.ee w.ee) more) in
    rw (x, y, z) refl

le_from_nat_le : (a b : ℕ) → nat_le a b ≡ true → a ≤ b
le_from_nat_le a b h = grind (arith, leb_tells a b)

-- the volume is less in all
record IsLess (v w : Volume) : Type 0 where
  ss : v.ss ≤ w.ss
  se : v.se ≤ w.se
  ee : v.ee ≤ w.ee
  all : v.ss + v.se + v.ee < w.ss + w.se + w.ee

less_tells : (v w : Volume) → is_less v w ≡ true → IsLess v w
less_tells v w t =
    let some = nat_lt (v.ss + v.se + v.ee) (w.ss + w.se + w.ee) in
    let p = and_second (nat_le v.ss w.ss) (nat_le v.se w.se && (nat_le v.ee w.ee && some)) t in
    let q = and_second (nat_le v.se w.se) (nat_le v.ee w.ee && some) p in
    record {
      ss = le_from_nat_le v.ss w.ss (and_first (nat_le v.ss w.ss) (nat_le v.se w.se && (nat_le v.ee w.ee && some)) t);
      se = le_from_nat_le v.se w.se (and_first (nat_le v.se w.se) (nat_le v.ee w.ee && some) p);
      ee = le_from_nat_le v.ee w.ee (and_first (nat_le v.ee w.ee) some q);
      all = lt_from_nat_lt (v.ss + v.se + v.ee) (w.ss + w.se + w.ee) (and_second (nat_le v.ee w.ee) some q);
    }

-- by how much a multiple grows, at least
grown : (m n x : ℕ) → m ≤ n → 0 < x → m * x + (n - m) ≤ n * x
grown m n x l p =
    let e : 1 * (n - m) ≤ x * (n - m) = mul-le-mul_right (n - m) p in
    let f : n * x ≡ (m + (n - m)) * x = ap (λ k. k * x) (omega arith) in
    omega arith

less_size : (l : Lengths) (v w : Volume) → ArePositive l → is_less v w ≡ true → size_of l v < size_of l w
less_size l v w p t =
    let k = less_tells v w t in
    let x = grown v.ss w.ss _ k.ss (mul-pos (mul-pos p.first p.first) p.height) in
    let y = grown v.se w.se _ k.se (mul-pos (mul-pos p.first p.second) p.height) in
    let z = grown v.ee w.ee _ k.ee (mul-pos (mul-pos p.second p.second) p.height) in
    omega (arith, k.ss, k.se, k.ee, k.all)

pub level_is : (l : Lengths) (a b c v : Spot) → is_level a b c v ≡ true
    → before_of l a b c v ≡ behind_of l a b c v
level_is l a b c v t =
    before_is l a b c v ∙ (same_size l (volume_before a b c v) (volume_behind a b c v) t ∙ sym (behind_is l a b c v))

pub lower_is : (l : Lengths) (a b c v : Spot) → ArePositive l → is_lower a b c v ≡ true
    → before_of l a b c v < behind_of l a b c v
lower_is l a b c v p t =
    let k = less_size l (volume_before a b c v) (volume_behind a b c v) p t in
    rw (before_is l a b c v, behind_is l a b c v) k
