-- In a lot no more is drawn than there are members.
use Rattle.std.proofs.Common.{◌≡◌, ℕ, ◌+◌, ◌≤◌, List, [], ◌∷◌, ◌++◌, length, Bool, inl, inr, refl, subst, sym, arith, length-append}
use Rattle.std.specs.List.{filter, flat_map}
use Rattle.cga_check.specs.Uses.{same_name}
use Rattle.cga_word.specs.declared.primitive.Primitive.{Primitive}
use Rattle.cga_order.specs.declared.placed.Kind.{Kind}
use Rattle.cga_order.specs.declared.placed.Kind.TheVariants.{Waiting, Done, Faulted, Instance}
use Rattle.cga_shape.specs.declared.drawn.Drawn.{Drawn}
use Rattle.cga_shape.specs.declared.shape.Shape.{Shape}
use Rattle.cga_shape.specs.declared.shape_fault.ShapeFault.{ShapeFault}
use Rattle.cga_expand.specs.Children.{Member}
use Rattle.cga_city.specs.Order.{comes_before, members_of, put, sorted}
use Rattle.cga_city.specs.Reports.{drawn_as, drawn_in, drawn_of}
use Rattle.cga_city.proofs.Reporting.{one_drawn}
use Rattle.cga_city.proofs.Sorting.{decide}

module _ {X : Type 0} where
  filter_few : (test : X → Bool) (xs : List X) → length (filter test xs) ≤ length xs
  filter_few test [] = omega arith
  filter_few test (x ∷ xs) =
      let more = filter_few test xs in elim (decide (test x)) [ inl t ↦ rw t (omega (arith, more)) | inr f ↦ rw f (omega (arith, more)) ]

  put_one : (before : X → X → Bool) (x : X) (ys : List X) → length (put before x ys) ≡ length ys + 1
  put_one before x [] = refl
  put_one before x (y ∷ ys) =
      let more = put_one before x ys in elim (decide (before y x)) [ inl t ↦ rw t (omega (arith, more)) | inr f ↦ rw f (omega arith) ]

  sorted_same : (before : X → X → Bool) (xs : List X) → length (sorted before xs) ≡ length xs
  unfolding sorted
  sorted_same before [] = refl
  sorted_same before (x ∷ xs) =
      let one = put_one before x (sorted before xs) in let more = sorted_same before xs in omega (arith, one, more)

one_each : (s : Shape) (k : Kind ShapeFault Primitive) → length (drawn_as s k) ≤ 1
one_each s Waiting = omega arith
one_each s Done = omega arith
one_each s (Faulted fault) = omega arith
one_each s (Instance p) = omega arith

drawn_few : (ms : List Member) → length (flat_map drawn_of ms) ≤ length ms
drawn_few [] = omega arith
drawn_few (m ∷ ms) =
    let both = length-append (drawn_of m) (flat_map drawn_of ms) in
    let one = one_each m.shape m.kind in
    let more = drawn_few ms in
    omega (arith, both, one, more)

pub few_in : (lot : List ℕ) (list : List Member) → length (drawn_in (lot ∷ []) list) ≤ length list
few_in lot list =
    let own : List Member = filter (λ m. same_name m.shape.lot lot) list in
    let a = drawn_few (members_of lot list) in
    let b = sorted_same comes_before own in
    let c = filter_few (λ (m : Member). same_name m.shape.lot lot) list in
    let few : length (flat_map drawn_of (members_of lot list)) ≤ length list = omega (arith, a, b, c) in
    subst (λ (drawn : List Drawn). length drawn ≤ length list) (sym (one_drawn lot list)) few
