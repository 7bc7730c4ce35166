-- Lots whose boxes don't touch have no shapes that meet.
use Rattle.std.proofs.Common.{◌≡◌, ℕ, List, [], ◌∷◌, true, false, sym, ap, ◌∙◌, subst}
use Rattle.cga_word.specs.declared.primitive.Primitive.{Primitive}
use Rattle.cga_frame.specs.Box.{Box, box_of, holds, meets, touches}
use Rattle.cga_frame.specs.Meeting.{Touches}
use Rattle.cga_frame.specs.Scope.{Scope}
use Rattle.cga_expand.proofs.Door.{sources_are_derivations}
use Rattle.cga_frame.proofs.Door.{box_of_boxed, holds_points, meets_touches, points_touch, touches_points}
use Rattle.cga_order.specs.declared.placed.Kind.{Kind}
use Rattle.cga_order.specs.World.{Has, Among}
use Rattle.cga_shape.specs.declared.lot.Lot.{Lot}
use Rattle.cga_shape.specs.declared.shape.Shape.{Shape}
use Rattle.cga_shape.specs.declared.shape_fault.ShapeFault.{ShapeFault}
use Rattle.cga_shape.specs.declared.sources.Sources.{Sources}
use Rattle.cga_derivation.specs.Derivation.{IsDerived, NothingWaits}
use Rattle.cga_expand.specs.Children.{Member}
use Rattle.cga_expand.specs.Derivation.{derivation_of, NamesDiffer}
use Rattle.cga_region.specs.Towns.{with_lots, MeetsNone}
use Rattle.cga_region.specs.TownParts.{AreDerived, MeetsNoOther, joined}
use Rattle.cga_region.specs.Hulls.{AllHeld, AreFar, AreHeld, HullsTellApart, IsFarFrom}
use Rattle.cga_region.proofs.Districts.{lot_in}
use Rattle.cga_region.proofs.TownRoots.{differ_left, differ_right, lot_of_root, name_of}
use Rattle.std.proofs.lemmas.Bool.{false_from_ne_true as no_point}

-- ---- boxes in boxes

module _ (h g : Box) (s t : Scope) (in_h : holds h (box_of s) ≡ true) (in_g : holds g (box_of t) ≡ true) where
  -- a point in which the two inner ones meet lies in both outer ones
  shared : meets (box_of s) (box_of t) ≡ true → Touches h g
  shared e =
      let p = touches_points (box_of s) (box_of t) (box_of_boxed s) (box_of_boxed t) (meets_touches (box_of s) (box_of t) (box_of_boxed s) e) in
      record { point = p.point; first = holds_points h (box_of s) in_h p.point p.first; second = holds_points g (box_of t) in_g p.point p.second }

  far_first : touches h g ≡ false → meets (box_of s) (box_of t) ≡ false
  far_first off = no_point (meets (box_of s) (box_of t)) (λ e. let on = points_touch h g (shared e) in let no : true ≡ false = sym on ∙ off in absurd (cc))

  pub far_second : touches g h ≡ false → meets (box_of s) (box_of t) ≡ false
  far_second off = no_point (meets (box_of s) (box_of t)) (λ e. let p = shared e in
      let on = points_touch g h (record { point = p.point; first = p.second; second = p.first }) in let no : true ≡ false = sym on ∙ off in absurd (cc))

-- ---- two parts

-- a member's lot is one of its part
pub lot_among : (sources : Sources) (lots : List Lot) → NamesDiffer lots → (list : List Member)
    → IsDerived (derivation_of (with_lots sources lots)) list
    → (n : Shape) (k : Kind ShapeFault Primitive) → Has list n k → (x : Lot) × Among x lots × (n.lot ≡ x.name)
lot_among sources lots differ list ends n k h =
    let laws = sources_are_derivations (with_lots sources lots) differ in
    let settled = subst (NothingWaits (derivation_of (with_lots sources lots))) ends.1 ends.2 in
    let r = lot_in (derivation_of (with_lots sources lots)) laws ends.0 settled n k (subst (λ (l : List Member). Has l n k) ends.1 h) in
    let x = lot_of_root lots r.0 r.1 in
    (x.0, x.1, r.2 ∙ name_of x.0 r.0 x.2)

module _ (hull : List ℕ → Box) (sources : Sources) (left right : List Lot) (left_differ : NamesDiffer left)
    (right_differ : NamesDiffer right) (xs ys : List Member)
    (left_ends : IsDerived (derivation_of (with_lots sources left)) xs)
    (right_ends : IsDerived (derivation_of (with_lots sources right)) ys) (left_held : AreHeld hull xs)
    (right_held : AreHeld hull ys) (far : AreFar hull left right) where
  off : (n m : Shape) (k j : Kind ShapeFault Primitive) → Has xs n k → Has ys m j
      → touches (hull n.lot) (hull m.lot) ≡ false
  off n m k j h g =
      let x = lot_among sources left left_differ xs left_ends n k h in
      let y = lot_among sources right right_differ ys right_ends m j g in
      ap (λ (l : List ℕ). touches (hull l) (hull m.lot)) x.2 ∙ (ap (λ (l : List ℕ). touches (hull x.0.name) (hull l)) y.2 ∙ far x.0 y.0 x.1 y.1)

  two_meet_none : MeetsNone sources.grammar xs ys × MeetsNone sources.grammar ys xs
  two_meet_none = (
    (λ n m k j target h p e g. far_second (hull m.lot) (hull n.lot) m.scope n.scope (right_held m j g) (left_held n k h) (off n m k j h g)),
    (λ n m k j target h p e g. far_first (hull m.lot) (hull n.lot) m.scope n.scope (left_held m j g) (right_held n k h) (off m n j k g h)),
  )

-- ---- any number

module _ (hull : List ℕ → Box) (sources : Sources) where
  one_far : (part : List Lot) (xs : List Member) → NamesDiffer part
      → IsDerived (derivation_of (with_lots sources part)) xs → AreHeld hull xs
      → (parts : List (List Lot)) (lists : List (List Member)) → NamesDiffer (joined parts)
      → AreDerived sources parts lists → AllHeld hull lists → IsFarFrom hull part parts
      → MeetsNoOther sources.grammar xs lists
  one_far part xs differ ends held [] [] apart derived all far = tt
  one_far part xs differ ends held [] (ys ∷ lists) apart derived all far = absurd derived
  one_far part xs differ ends held (other ∷ parts) [] apart derived all far = absurd derived
  one_far part xs differ ends held (other ∷ parts) (ys ∷ lists) apart derived all far =
      let two = two_meet_none hull sources part other differ (differ_left other (joined parts) apart) xs ys ends derived.0 held all.0 far.0 in
      (two.0, two.1, one_far part xs differ ends held parts lists (differ_right other (joined parts) apart) derived.1 all.1 far.1)

-- districts whose hulls don't touch have no shapes that meet
pub hulls_tell_apart : HullsTellApart
hulls_tell_apart sources [] differ [] derived hull held far = tt
hulls_tell_apart sources [] differ (ys ∷ lists) derived hull held far = absurd derived
hulls_tell_apart sources (part ∷ parts) differ [] derived hull held far = absurd derived
hulls_tell_apart sources (part ∷ parts) differ (xs ∷ lists) derived hull held far =
    let more = differ_right part (joined parts) differ in (
      one_far hull sources part xs (differ_left part (joined parts) differ) derived.0 held.0 parts lists more derived.1 held.1 far.0,
      hulls_tell_apart sources parts more lists derived.1 hull held.1 far.1,
    )
