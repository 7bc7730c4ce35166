-- Frames stay right-handed where they are composed.
use Rattle.std.proofs.Common.{◌≡◌, refl, sym, ap, ◌∙◌, Bool, true, false, Option, Some, None}
use Rattle.std.specs.Prelude.{not}
use Rattle.cga_word.specs.declared.axis.Axis.{Axis}
use Rattle.cga_word.specs.declared.axis.Axis.TheVariants.{X, Y, Z}
use Rattle.cga_frame.specs.Axes.{Frame, IsFrame, IsRightHanded, parity, differ, along, composed, base_frame}
use Rattle.cga_frame.specs.declared.signed.Signed.{Signed}

-- ---- flags

not-not : (a : Bool) → not (not a) ≡ a
not-not true = refl
not-not false = refl

differ-not_left : (a b : Bool) → differ (not a) b ≡ not (differ a b)
differ-not_left true b = sym (not-not b)
differ-not_left false b = refl

differ-not_right : (a b : Bool) → differ a (not b) ≡ not (differ a b)
differ-not_right true b = refl
differ-not_right false b = refl

pub differ_comm : (a b : Bool) → differ a b ≡ differ b a
differ_comm true true = refl
differ_comm true false = refl
differ_comm false true = refl
differ_comm false false = refl

differ_assoc : (a b c : Bool) → differ (differ a b) c ≡ differ a (differ b c)
differ_assoc true b c = differ-not_left b c
differ_assoc false b c = refl

-- three pairs of flags differ as often as the firsts and the seconds do together
mixed_last : (u v w o : Bool) → differ v (differ w (differ u o)) ≡ differ u (differ v (differ w o))
mixed_last true v w o = ap (differ v) (differ-not_right w o) ∙ differ-not_right v (differ w o)
mixed_last false v w o = refl

mixed_middle : (t u v w o : Bool)
    → differ v (differ (differ t w) (differ u o)) ≡ differ (differ t u) (differ v (differ w o))
mixed_middle true u v w o = ap (differ v) (differ-not_left w (differ u o)) ∙ differ-not_right v (differ w (differ u o)) ∙ ap not (mixed_last u v w o) ∙ sym (differ-not_left u (differ v (differ w o)))
mixed_middle false u v w o = mixed_last u v w o

mixed : (s t u v w o : Bool)
    → differ (differ s v) (differ (differ t w) (differ u o)) ≡ differ (differ s (differ t u)) (differ v (differ w o))
mixed true t u v w o = differ-not_left v (differ (differ t w) (differ u o)) ∙ ap not (mixed_middle t u v w o) ∙ sym (differ-not_left (differ t u) (differ v (differ w o)))
mixed false t u v w o = mixed_middle t u v w o

-- ---- orders of three axes

abbrev swapped : Option Bool → Option Bool
swapped None = None
swapped (Some b) = Some (not b)

turned_left : (p q r : Axis) → parity q r p ≡ parity p q r
turned_left X X X = refl
turned_left X X Y = refl
turned_left X X Z = refl
turned_left X Y X = refl
turned_left X Y Y = refl
turned_left X Y Z = refl
turned_left X Z X = refl
turned_left X Z Y = refl
turned_left X Z Z = refl
turned_left Y X X = refl
turned_left Y X Y = refl
turned_left Y X Z = refl
turned_left Y Y X = refl
turned_left Y Y Y = refl
turned_left Y Y Z = refl
turned_left Y Z X = refl
turned_left Y Z Y = refl
turned_left Y Z Z = refl
turned_left Z X X = refl
turned_left Z X Y = refl
turned_left Z X Z = refl
turned_left Z Y X = refl
turned_left Z Y Y = refl
turned_left Z Y Z = refl
turned_left Z Z X = refl
turned_left Z Z Y = refl
turned_left Z Z Z = refl

swapped_left : (p q r : Axis) → parity q p r ≡ swapped (parity p q r)
swapped_left X X X = refl
swapped_left X X Y = refl
swapped_left X X Z = refl
swapped_left X Y X = refl
swapped_left X Y Y = refl
swapped_left X Y Z = refl
swapped_left X Z X = refl
swapped_left X Z Y = refl
swapped_left X Z Z = refl
swapped_left Y X X = refl
swapped_left Y X Y = refl
swapped_left Y X Z = refl
swapped_left Y Y X = refl
swapped_left Y Y Y = refl
swapped_left Y Y Z = refl
swapped_left Y Z X = refl
swapped_left Y Z Y = refl
swapped_left Y Z Z = refl
swapped_left Z X X = refl
swapped_left Z X Y = refl
swapped_left Z X Z = refl
swapped_left Z Y X = refl
swapped_left Z Y Y = refl
swapped_left Z Y Z = refl
swapped_left Z Z X = refl
swapped_left Z Z Y = refl
swapped_left Z Z Z = refl

swapped_right : (p q r : Axis) → parity p r q ≡ swapped (parity p q r)
swapped_right p q r = sym (turned_left p r q) ∙ swapped_left q r p ∙ ap swapped (turned_left p q r)

-- ---- frames in frames

even_at : (P : Option Bool) (m e : Bool) → P ≡ Some e → m ≡ e → P ≡ Some m
even_at P m e h k = h ∙ ap Some (sym k)

composed_at : (a b c : Axis) (s t u : Bool) (g : Frame) → parity a b c ≡ Some (differ s (differ t u))
    → parity g.x.axis g.y.axis g.z.axis ≡ Some (differ g.x.against (differ g.y.against g.z.against))
    → parity (along g a).axis (along g b).axis (along g c).axis ≡ Some
    (differ (differ s (along g a).against) (differ (differ t (along g b).against) (differ u (along g c).against)))
composed_at X Y Z s t u g h k =
    let e : differ s (differ t u) ≡ false = cc in
    even_at _ _ _ k (mixed s t u g.x.against g.y.against g.z.against ∙ ap (λ (b : Bool). differ b (differ g.x.against (differ g.y.against g.z.against))) e)
composed_at Y Z X s t u g h k =
    let e : differ s (differ t u) ≡ false = cc in
    even_at _ _ _ (turned_left g.x.axis g.y.axis g.z.axis ∙ k) (mixed s t u g.y.against g.z.against g.x.against
    ∙ ap (λ (b : Bool). differ b (differ g.y.against (differ g.z.against g.x.against))) e
    ∙ sym (differ_assoc g.y.against g.z.against g.x.against) ∙ differ_comm (differ g.y.against g.z.against) g.x.against)
composed_at Z X Y s t u g h k =
    let e : differ s (differ t u) ≡ false = cc in
    even_at _ _ _ (sym (turned_left g.z.axis g.x.axis g.y.axis) ∙ k)
    (mixed s t u g.z.against g.x.against g.y.against
    ∙ ap (λ (b : Bool). differ b (differ g.z.against (differ g.x.against g.y.against))) e
    ∙ differ_comm g.z.against (differ g.x.against g.y.against) ∙ differ_assoc g.x.against g.y.against g.z.against)
composed_at X Z Y s t u g h k =
    let e : differ s (differ t u) ≡ true = cc in
    even_at _ _ _ (swapped_right g.x.axis g.y.axis g.z.axis ∙ ap swapped k)
    (mixed s t u g.x.against g.z.against g.y.against
    ∙ ap (λ (b : Bool). differ b (differ g.x.against (differ g.z.against g.y.against))) e
    ∙ ap (λ (b : Bool). not (differ g.x.against b)) (differ_comm g.z.against g.y.against))
composed_at Y X Z s t u g h k =
    let e : differ s (differ t u) ≡ true = cc in
    even_at _ _ _ (swapped_left g.x.axis g.y.axis g.z.axis ∙ ap swapped k)
    (mixed s t u g.y.against g.x.against g.z.against
    ∙ ap (λ (b : Bool). differ b (differ g.y.against (differ g.x.against g.z.against))) e
    ∙ ap not (sym (differ_assoc g.y.against g.x.against g.z.against) ∙ ap (λ (b : Bool). differ b g.z.against)
    (differ_comm g.y.against g.x.against) ∙ differ_assoc g.x.against g.y.against g.z.against))
composed_at Z Y X s t u g h k =
    let e : differ s (differ t u) ≡ true = cc in
    even_at _ _ _ (swapped_left g.y.axis g.z.axis g.x.axis ∙ ap swapped (turned_left g.x.axis g.y.axis g.z.axis
    ∙ k)) (mixed s t u g.z.against g.y.against g.x.against
    ∙ ap (λ (b : Bool). differ b (differ g.z.against (differ g.y.against g.x.against))) e
    ∙ ap not (differ_comm g.z.against (differ g.y.against g.x.against)
    ∙ ap (λ (b : Bool). differ b g.z.against) (differ_comm g.y.against g.x.against) ∙ differ_assoc g.x.against g.y.against g.z.against))
composed_at a b c s t u g h k = absurd (cc)

-- a frame that is given in the axes of another is a frame
pub composed_is_frame : (f g : Frame) → IsFrame f → IsFrame g → IsFrame (composed f g)
composed_is_frame f g p q = record { even = composed_at f.x.axis f.y.axis f.z.axis f.x.against f.y.against f.z.against g p.even q.even }

-- ---- the third axis is the cross product of the first two

not_twice : (u e : Bool) → not (not u) ≡ e → u ≡ e
not_twice u e h = sym (not-not u) ∙ h

last : (s t u e : Bool) → differ s (differ t u) ≡ e → u ≡ differ (differ s t) e
last true true u e h = not_twice u e h
last true false u e h = sym (not-not u) ∙ ap not h
last false true u e h = sym (not-not u) ∙ ap not h
last false false u e h = h

unfoldable pub on : Axis → Bool → Signed
on a b = record { axis = a; against = b }

right_at : (a b c : Axis) (s t u : Bool) → parity a b c ≡ Some (differ s (differ t u))
    → IsRightHanded (record {
      x = record { axis = a; against = s };
      y = record { axis = b; against = t };
      z = record
          { axis = c; against = u };
    })
unfolding on
right_at X Y Z s t u h = let e : differ s (differ t u) ≡ false = cc in record { third = ap (on Z) (last s t u false e); apart = refl }
right_at Y Z X s t u h =
    let e : differ s (differ t u) ≡ false = cc in record { third = ap (on Y) (last u s t false (differ_comm u (differ s t) ∙ differ_assoc s t u ∙ e)); apart = refl }
right_at Z X Y s t u h =
    let e : differ s (differ t u) ≡ false = cc in record { third = ap (on X) (last t u s false (sym (differ_assoc t u s) ∙ differ_comm (differ t u) s ∙ e)); apart = refl }
right_at X Z Y s t u h =
    let e : differ s (differ t u) ≡ true = cc in record { third = ap (on Y) (last s u t true (ap (differ s) (differ_comm u t) ∙ e)); apart = refl }
right_at Y X Z s t u h =
    let e : differ s (differ t u) ≡ true = cc in
    record {
      third = ap (on Z) (last t s u true (sym (differ_assoc t s u)
          ∙ ap (λ (b : Bool). differ b u) (differ_comm t s) ∙ differ_assoc s t u ∙ e));
      apart = refl;
    }
right_at Z Y X s t u h =
    let e : differ s (differ t u) ≡ true = cc in
    record {
      third = ap (on X) (last u t s true (differ_comm u (differ t s)
          ∙ ap (λ (b : Bool). differ b u) (differ_comm t s) ∙ differ_assoc s t u ∙ e));
      apart = refl;
    }
right_at a b c s t u h = absurd (cc)

pub right_handed : (f : Frame) → IsFrame f → IsRightHanded f
right_handed f h = right_at f.x.axis f.y.axis f.z.axis f.x.against f.y.against f.z.against h.even

pub base_right_handed : (f : Frame) → f ≡ base_frame → IsRightHanded f
base_right_handed f e = rw e (record { third = refl; apart = refl })
