-- Turned frames are frames, and four quarter turns are none.
use Rattle.std.proofs.Common.{◌≡◌, refl, ap, Bool, true, false, Some}
use Rattle.cga_word.specs.declared.axis.Axis.{Axis}
use Rattle.cga_word.specs.declared.axis.Axis.TheVariants.{X, Y, Z}
use Rattle.cga_frame.specs.Axes.{Frame, IsFrame, IsQuarter, IsTurning, parity, differ, within, composed, turned, quarter, base_frame, axis_of, seen, rule_of}
use Rattle.cga_frame.specs.declared.signed.Signed.{Signed}
use Rattle.cga_frame.proofs.Frames.{differ_comm, on}

-- ---- turns

same_frame : (x y z a b c : Signed) → x ≡ a → y ≡ b → z ≡ c
    → ◌≡◌ {A = Frame} (record { x = x; y = y; z = z }) (record { x = a; y = b; z = c })
same_frame x y z a b c e f g = rw (e, f, g) refl

none_at : (j : Axis) (b : Bool)
    → within base_frame (record { axis = j; against = b }) ≡ record { axis = j; against = b }
none_at X true = refl
none_at X false = refl
none_at Y true = refl
none_at Y false = refl
none_at Z true = refl
none_at Z false = refl

half_at : (a j : Axis) (b : Bool)
    → within (composed (quarter a) (quarter a)) (record { axis = j; against = b }) ≡ within (quarter a)
    (within (quarter a) (record { axis = j; against = b }))
half_at X X true = refl
half_at X X false = refl
half_at X Y true = refl
half_at X Y false = refl
half_at X Z true = refl
half_at X Z false = refl
half_at Y X true = refl
half_at Y X false = refl
half_at Y Y true = refl
half_at Y Y false = refl
half_at Y Z true = refl
half_at Y Z false = refl
half_at Z X true = refl
half_at Z X false = refl
half_at Z Y true = refl
half_at Z Y false = refl
half_at Z Z true = refl
half_at Z Z false = refl

three_at : (a j : Axis) (b : Bool)
    → within (composed (composed (quarter a) (quarter a)) (quarter a)) (record { axis = j; against = b }) ≡ within
    (quarter a) (within (quarter a) (within (quarter a) (record { axis = j; against = b })))
three_at X X true = refl
three_at X X false = refl
three_at X Y true = refl
three_at X Y false = refl
three_at X Z true = refl
three_at X Z false = refl
three_at Y X true = refl
three_at Y X false = refl
three_at Y Y true = refl
three_at Y Y false = refl
three_at Y Z true = refl
three_at Y Z false = refl
three_at Z X true = refl
three_at Z X false = refl
three_at Z Y true = refl
three_at Z Y false = refl
three_at Z Z true = refl
three_at Z Z false = refl

four_at : (a j : Axis) (b : Bool)
    → within (quarter a) (within (quarter a)
    (within (quarter a) (within (quarter a) (record { axis = j; against = b })))) ≡ record { axis = j; against = b }
four_at X X true = refl
four_at X X false = refl
four_at X Y true = refl
four_at X Y false = refl
four_at X Z true = refl
four_at X Z false = refl
four_at Y X true = refl
four_at Y X false = refl
four_at Y Y true = refl
four_at Y Y false = refl
four_at Y Z true = refl
four_at Y Z false = refl
four_at Z X true = refl
four_at Z X false = refl
four_at Z Y true = refl
four_at Z Y false = refl
four_at Z Z true = refl
four_at Z Z false = refl

-- one axis after a quarter turn
quarter_at : (p q r : Axis) (s t u : Bool) (a b : Axis) → parity p q r ≡ Some (differ s (differ t u))
    → axis_of (composed (record {
      x = record { axis = p; against = s };
      y = record { axis = q; against = t };
      z = record
          { axis = r; against = u };
    }) (quarter a)) b ≡ seen
    (record {
      x = record { axis = p; against = s };
      y = record { axis = q; against = t };
      z = record
          { axis = r; against = u };
    }) (rule_of a b)
unfolding on
quarter_at X Y Z s t u X X h = ap (on X) (differ_comm s false)
quarter_at X Y Z s t u X Y h = ap (on Z) (differ_comm u false)
quarter_at X Y Z s t u X Z h = ap (on Y) (differ_comm t true)
quarter_at X Y Z s t u Y X h = ap (on Z) (differ_comm u true)
quarter_at X Y Z s t u Y Y h = ap (on Y) (differ_comm t false)
quarter_at X Y Z s t u Y Z h = ap (on X) (differ_comm s false)
quarter_at X Y Z s t u Z X h = ap (on Y) (differ_comm t false)
quarter_at X Y Z s t u Z Y h = ap (on X) (differ_comm s true)
quarter_at X Y Z s t u Z Z h = ap (on Z) (differ_comm u false)
quarter_at X Z Y s t u X X h = ap (on X) (differ_comm s false)
quarter_at X Z Y s t u X Y h = ap (on Y) (differ_comm t false)
quarter_at X Z Y s t u X Z h = ap (on Z) (differ_comm u true)
quarter_at X Z Y s t u Y X h = ap (on Y) (differ_comm t true)
quarter_at X Z Y s t u Y Y h = ap (on Z) (differ_comm u false)
quarter_at X Z Y s t u Y Z h = ap (on X) (differ_comm s false)
quarter_at X Z Y s t u Z X h = ap (on Z) (differ_comm u false)
quarter_at X Z Y s t u Z Y h = ap (on X) (differ_comm s true)
quarter_at X Z Y s t u Z Z h = ap (on Y) (differ_comm t false)
quarter_at Y X Z s t u X X h = ap (on Y) (differ_comm t false)
quarter_at Y X Z s t u X Y h = ap (on Z) (differ_comm u false)
quarter_at Y X Z s t u X Z h = ap (on X) (differ_comm s true)
quarter_at Y X Z s t u Y X h = ap (on Z) (differ_comm u true)
quarter_at Y X Z s t u Y Y h = ap (on X) (differ_comm s false)
quarter_at Y X Z s t u Y Z h = ap (on Y) (differ_comm t false)
quarter_at Y X Z s t u Z X h = ap (on X) (differ_comm s false)
quarter_at Y X Z s t u Z Y h = ap (on Y) (differ_comm t true)
quarter_at Y X Z s t u Z Z h = ap (on Z) (differ_comm u false)
quarter_at Y Z X s t u X X h = ap (on Z) (differ_comm u false)
quarter_at Y Z X s t u X Y h = ap (on Y) (differ_comm t false)
quarter_at Y Z X s t u X Z h = ap (on X) (differ_comm s true)
quarter_at Y Z X s t u Y X h = ap (on Y) (differ_comm t true)
quarter_at Y Z X s t u Y Y h = ap (on X) (differ_comm s false)
quarter_at Y Z X s t u Y Z h = ap (on Z) (differ_comm u false)
quarter_at Y Z X s t u Z X h = ap (on X) (differ_comm s false)
quarter_at Y Z X s t u Z Y h = ap (on Z) (differ_comm u true)
quarter_at Y Z X s t u Z Z h = ap (on Y) (differ_comm t false)
quarter_at Z X Y s t u X X h = ap (on Y) (differ_comm t false)
quarter_at Z X Y s t u X Y h = ap (on X) (differ_comm s false)
quarter_at Z X Y s t u X Z h = ap (on Z) (differ_comm u true)
quarter_at Z X Y s t u Y X h = ap (on X) (differ_comm s true)
quarter_at Z X Y s t u Y Y h = ap (on Z) (differ_comm u false)
quarter_at Z X Y s t u Y Z h = ap (on Y) (differ_comm t false)
quarter_at Z X Y s t u Z X h = ap (on Z) (differ_comm u false)
quarter_at Z X Y s t u Z Y h = ap (on Y) (differ_comm t true)
quarter_at Z X Y s t u Z Z h = ap (on X) (differ_comm s false)
quarter_at Z Y X s t u X X h = ap (on Z) (differ_comm u false)
quarter_at Z Y X s t u X Y h = ap (on X) (differ_comm s false)
quarter_at Z Y X s t u X Z h = ap (on Y) (differ_comm t true)
quarter_at Z Y X s t u Y X h = ap (on X) (differ_comm s true)
quarter_at Z Y X s t u Y Y h = ap (on Y) (differ_comm t false)
quarter_at Z Y X s t u Y Z h = ap (on Z) (differ_comm u false)
quarter_at Z Y X s t u Z X h = ap (on Y) (differ_comm t false)
quarter_at Z Y X s t u Z Y h = ap (on Z) (differ_comm u true)
quarter_at Z Y X s t u Z Z h = ap (on X) (differ_comm s false)
quarter_at p q r s t u a b h = absurd (cc)

is_quarter : (f : Frame) (a : Axis) → IsFrame f → IsQuarter a f (composed f (quarter a))
is_quarter f a h = record {
  x = quarter_at f.x.axis f.y.axis f.z.axis f.x.against f.y.against f.z.against a X h.even;
  y = quarter_at f.x.axis f.y.axis f.z.axis f.x.against f.y.against f.z.against a Y h.even;
  z = quarter_at f.x.axis f.y.axis f.z.axis f.x.against f.y.against f.z.against a Z h.even;
}

pub turning : (f : Frame) (a : Axis) → IsFrame f → IsTurning f a
unfolding turned
turning f a h = record {
  none = same_frame _ _ _ f.x f.y f.z (none_at f.x.axis f.x.against) (none_at f.y.axis f.y.against) (none_at f.z.axis f.z.against);
  quarter_turn = is_quarter f a h;
  half = same_frame _ _ _ _ _ _ (half_at a f.x.axis f.x.against) (half_at a f.y.axis f.y.against) (half_at a f.z.axis f.z.against);
  three_quarters = same_frame _ _ _ _ _ _ (three_at a f.x.axis f.x.against) (three_at a f.y.axis f.y.against) (three_at a f.z.axis f.z.against);
  whole = same_frame _ _ _ f.x f.y f.z (four_at a f.x.axis f.x.against) (four_at a f.y.axis f.y.against) (four_at a f.z.axis f.z.against);
}
