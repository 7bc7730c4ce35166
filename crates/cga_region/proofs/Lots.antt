-- The members of a lot are those that its district derives, and stand by their paths in both lists.
use Rattle.std.proofs.Common.{◌≡◌, ℕ, List, [], ◌++◌, true, inl, inr, sym, ap, ◌∙◌, subst}
use Rattle.std.specs.List.{filter, flat_map}
use Rattle.std.proofs.lemmas.Slice.Eq.{bytes_eq-Decides}
use Rattle.cga_word.specs.declared.primitive.Primitive.{Primitive}
use Rattle.cga_order.specs.declared.placed.Kind.{Kind}
use Rattle.cga_order.specs.World.{Has}
use Rattle.cga_city.proofs.Door.{among_has, before_strict, filter_from, filter_to, has_among, is_of, lot_differs, sorted_from, sorted_is, sorted_rises, sorted_to}
use Rattle.cga_derivation.proofs.Door.{derived_consistent}
use Rattle.cga_region.proofs.TownRoots.{differ_left, differ_right, two_names}
use Rattle.cga_region.proofs.Hulls.{lot_among}
use Rattle.cga_expand.proofs.Door.{sources_are_derivations}
use Rattle.cga_order.proofs.Door.{Has-append, Has-left, Has-right}
use Rattle.cga_shape.specs.declared.shape.Shape.{Shape}
use Rattle.cga_shape.specs.declared.shape_fault.ShapeFault.{ShapeFault}
use Rattle.cga_shape.specs.declared.sources.Sources.{Sources}
use Rattle.cga_derivation.specs.Derivation.{AllApart, IsDerived, NothingWaits}
use Rattle.cga_expand.specs.Children.{Member}
use Rattle.cga_expand.specs.Derivation.{derivation_of, NamesDiffer}
use Rattle.cga_region.specs.Towns.{with_lots, LotsAreApart}
use Rattle.cga_city.specs.Nodes.{AreApart}
use Rattle.cga_city.specs.Order.{comes_before, members_of}
use Rattle.cga_city.specs.Reports.{drawn_in, drawn_of, faults_in, fault_of}
use Rattle.cga_region.specs.Lots.{LotsAreTheirDistricts, TellAlike}

-- ---- lists that have the same of a lot

module _ (lot : List ℕ) (list other : List Member) (apart : AreApart list) (other_apart : AreApart other)
    (into : (s : Shape) (k : Kind ShapeFault Primitive) → Has list s k → s.lot ≡ lot → Has other s k)
    (back : (s : Shape) (k : Kind ShapeFault Primitive) → Has other s k → s.lot ≡ lot → Has list s k) where
  own : (m : Member) → is_of lot m ≡ true → m.shape.lot ≡ lot
  own m t = (bytes_eq-Decides m.shape.lot lot).0 t

  same_members : members_of lot list ≡ members_of lot other
  same_members =
      sorted_is comes_before before_strict (filter (is_of lot) list) (members_of lot other) (lot_differs lot list apart)
      (sorted_rises comes_before before_strict (filter (is_of lot) other) (lot_differs lot other other_apart))
      (λ m i.
      let w = filter_to (is_of lot) list m i in
      let has = has_among other m.shape m.kind (into m.shape m.kind (among_has list m w.0) (own m w.1)) in
      sorted_to comes_before (filter (is_of lot) other) m (filter_from (is_of lot) other m has w.1))
      (λ m i.
      let w = filter_to (is_of lot) other m (sorted_from comes_before (filter (is_of lot) other) m i) in
      filter_from (is_of lot) list m (has_among list m.shape m.kind (back m.shape m.kind (among_has other m w.0) (own m w.1))) w.1)

  pub tell_alike : TellAlike lot list other
  unfolding drawn_in faults_in
  tell_alike = (ap (λ (ms : List Member). flat_map drawn_of ms ++ []) same_members, ap (λ (ms : List Member). flat_map fault_of ms ++ []) same_members)

-- ---- two districts

-- places stand once in what is derived
pub places_differ : (s : Sources) → NamesDiffer s.lots → (list : List Member) → IsDerived (derivation_of s) list
    → AreApart list
places_differ s differ list ends =
    subst (AllApart (derivation_of s)) (sym ends.1) (derived_consistent (derivation_of s) (sources_are_derivations s differ) ends.0 (subst (NothingWaits (derivation_of s)) ends.1 ends.2)).apart

pub lots_are_their_districts : LotsAreApart → LotsAreTheirDistricts
lots_are_their_districts towns sources differ left right lots xs ys left_ends right_ends far =
    let w = towns sources differ left right lots xs ys left_ends right_ends far in
    let left_differ = differ_left left right lots.differ in
    let right_differ = differ_right left right lots.differ in
    let apart = places_differ sources differ w.0 w.1 in (
      w.0,
      w.1,
      (λ x h. tell_alike x.name w.0 xs apart (places_differ (with_lots sources left) left_differ xs left_ends)
          (λ s k i e. elim (Has-append xs ys s k ((w.2 s k).1 i)) [
            | inl l ↦ l
            | inr r ↦ (let y = lot_among sources right right_differ ys right_ends s k r in absurd (two_names left right lots.differ x y.0 h y.1 (sym e ∙ y.2)))
          ])
          (λ s k i e. (w.2 s k).0 (Has-left xs ys s k i))),
      (λ x h. tell_alike x.name w.0 ys apart (places_differ (with_lots sources right) right_differ ys right_ends)
          (λ s k i e. elim (Has-append xs ys s k ((w.2 s k).1 i)) [
            | inl l ↦ (let y = lot_among sources left left_differ xs left_ends s k l in absurd (two_names left right lots.differ y.0 x y.1 h (sym y.2 ∙ e)))
            | inr r ↦ r
          ])
          (λ s k i e. (w.2 s k).0 (Has-right xs ys s k i))),
    )
