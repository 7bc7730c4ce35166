-- Tests of equality: of words, numbers and shapes.
use Rattle.std.specs.Prelude.{ℕ, List, Bool, true, false, ◌&&◌, nat_eq, Option, Some, None}
use Rattle.std.specs.Ordering.{int_eq}
use mathlib.Core.Bool.{beq}
use lib.Pointwise.{pointwise}
use Rattle.cga_fraction.specs.Rat.{Rat}
use Rattle.cga_word.specs.declared.answer.Answer.{Answer}
use Rattle.cga_word.specs.declared.answer.Answer.TheVariants.{Nothing, Part, Full}
use Rattle.cga_word.specs.declared.answers.Answers.{Answers}
use Rattle.cga_word.specs.declared.mode.Mode.{Mode}
use Rattle.cga_word.specs.declared.mode.Mode.TheVariants.{Breadth, Depth}
use Rattle.cga_frame.specs.Axes.{Frame, same_axis}
use Rattle.cga_frame.specs.Scope.{Scope}
use Rattle.cga_frame.specs.declared.point.Point.{Point}
use Rattle.cga_frame.specs.declared.signed.Signed.{Signed}
use Rattle.cga_check.specs.Uses.{same_name}
use Rattle.cga_shape.specs.declared.shape.Shape.{Shape}

-- by the test of values, where there are some
abbrev pub same_option : {X : Type 0} → (X → X → Bool) → Option X → Option X → Bool
same_option same None None = true
same_option same (Some x) (Some y) = same x y
same_option same a b = false

-- ---- words

abbrev pub same_mode : Mode → Mode → Bool
same_mode Breadth Breadth = true
same_mode Depth Depth = true
same_mode a b = false

abbrev pub same_answer : Answer → Answer → Bool
same_answer Nothing Nothing = true
same_answer Part Part = true
same_answer Full Full = true
same_answer a b = false

abbrev pub same_answers : Answers → Answers → Bool
same_answers a b = same_option same_answer a.noparent b.noparent && same_option same_answer a.active b.active

-- ---- numbers and scopes

abbrev pub same_rat : Rat → Rat → Bool
same_rat a b = int_eq a.num b.num && nat_eq a.above b.above

abbrev pub same_point : Point → Point → Bool
same_point a b = same_rat a.x b.x && (same_rat a.y b.y && same_rat a.z b.z)

abbrev pub same_signed : Signed → Signed → Bool
same_signed a b = same_axis a.axis b.axis && beq a.against b.against

abbrev pub same_frame : Frame → Frame → Bool
same_frame a b = same_signed a.x b.x && (same_signed a.y b.y && same_signed a.z b.z)

unfoldable pub same_scope : Scope → Scope → Bool
same_scope a b = same_point a.at b.at && (same_frame a.frame b.frame && same_point a.size b.size)

-- ---- shapes

abbrev pub same_path : List ℕ → List ℕ → Bool
same_path = pointwise nat_eq

unfoldable pub same_shape : Shape → Shape → Bool
same_shape a b =
    same_name a.lot b.lot && (same_path a.path b.path && (same_name a.symbol b.symbol
    && (pointwise same_rat a.args b.args && (same_scope a.scope b.scope && nat_eq a.seed b.seed))))
