-- A region in any number of parts, one part more at a time.
use Rattle.std.proofs.Common.{◌≡◌, ◌+◌, List, [], ◌∷◌, Bool, ◌⊎◌, inl, inr, refl, sym, ap, ◌∙◌}
use Rattle.std.specs.Prelude.{count_by}
use Rattle.cga_word.specs.declared.primitive.Primitive.{Primitive}
use Rattle.cga_order.specs.declared.placed.Kind.{Kind}
use Rattle.cga_order.specs.Once.{Once}
use Rattle.cga_order.specs.World.{Among, Has}
use Rattle.cga_order.specs.Consistent.{SameMembers}
use Rattle.cga_order.proofs.Door.{Has-append, Has-left, Has-right, Once-append, Once-index, count-once}
use Rattle.cga_agenda.proofs.Door.{count_append}
use Rattle.cga_shape.specs.declared.lot.Lot.{Lot}
use Rattle.cga_shape.specs.declared.shape.Shape.{Shape}
use Rattle.cga_shape.specs.declared.shape_fault.ShapeFault.{ShapeFault}
use Rattle.cga_shape.specs.declared.sources.Sources.{Sources}
use Rattle.cga_expand.specs.Children.{Member}
use Rattle.cga_expand.specs.Derivation.{NamesDiffer}
use Rattle.cga_city.proofs.Door.{among_has, has_among}
use Rattle.cga_city.specs.Nodes.{AreApart}
use Rattle.cga_region.proofs.TownRoots.{differ_left, differ_right, two_names}
use Rattle.cga_region.proofs.Hulls.{hulls_tell_apart, lot_among}
use Rattle.cga_region.specs.TownParts.{AllMeetNone, AreDerived, PartsAreApart, joined}
use Rattle.cga_region.specs.Towns.{NoneAsks, with_lots}
use Rattle.cga_region.specs.Parts.{AllTellAlike, AreSums, HullsAreApart, RegionIsItsParts, total_by}
use Rattle.cga_region.proofs.Bills.{bills_are_sums}
use Rattle.cga_region.proofs.Lots.{places_differ, tell_alike}
use Rattle.cga_order.proofs.Door.{Among-left, Among-right}

-- a member's lot is one of all lots
lot_of_joined : (sources : Sources) (parts : List (List Lot)) → NamesDiffer (joined parts)
    → (lists : List (List Member))
    → AreDerived sources parts lists → (s : Shape) (k : Kind ShapeFault Primitive) → Has (joined lists) s k
    → (y : Lot) × Among y (joined parts) × (s.lot ≡ y.name)
lot_of_joined sources [] differ [] derived s k h = absurd h
lot_of_joined sources [] differ (xs ∷ lists) derived s k h = absurd derived
lot_of_joined sources (part ∷ parts) differ [] derived s k h = absurd derived
lot_of_joined sources (part ∷ parts) differ (xs ∷ lists) derived s k h = elim (Has-append xs (joined lists) s k h) [
  | inl l ↦ let y = lot_among sources part (differ_left part (joined parts) differ) xs derived.0 s k l in (y.0, Among-left part (joined parts) y.0 y.1, y.2)
  | inr r ↦ let y = lot_of_joined sources parts (differ_right part (joined parts) differ) lists derived.1 s k r in (y.0, Among-right part (joined parts) y.0 y.1, y.2)
]

module _ (sources : Sources) (list : List Member) (apart : AreApart list) where
  each_tells : (parts : List (List Lot)) → NamesDiffer (joined parts) → (lists : List (List Member))
      → AreDerived sources parts lists
      → ((s : Shape) (k : Kind ShapeFault Primitive) (x : Lot) → Has list s k → Among x (joined parts)
      → s.lot ≡ x.name → Has (joined lists) s k)
      → ((s : Shape) (k : Kind ShapeFault Primitive) → Has (joined lists) s k → Has list s k)
      → AllTellAlike parts lists list
  each_tells [] differ lists derived into back = tt
  each_tells (part ∷ parts) differ [] derived into back = absurd derived
  each_tells (part ∷ parts) differ (xs ∷ lists) derived into back =
      let own = differ_left part (joined parts) differ in
      let rest = differ_right part (joined parts) differ in (
        (λ x h. tell_alike x.name list xs apart (places_differ (with_lots sources part) own xs derived.0)
            (λ s k i e. elim (Has-append xs (joined lists) s k (into s k x i (Among-left part (joined parts) x h) e)) [
              | inl l ↦ l
              | inr r ↦ (let y = lot_of_joined sources parts rest lists derived.1 s k r in absurd (two_names part (joined parts) differ x y.0 h y.1 (sym e ∙ y.2)))
            ])
            (λ s k i e. back s k (Has-left xs (joined lists) s k i))),
        each_tells parts rest lists derived.1
            (λ s k x i h e. elim (Has-append xs (joined lists) s k (into s k x i (Among-right part (joined parts) x h) e)) [
              | inl l ↦ (let y = lot_among sources part own xs derived.0 s k l in absurd (two_names part (joined parts) differ y.0 x y.1 h (sym y.2 ∙ e)))
              | inr r ↦ r
            ])
            (λ s k i. back s k (Has-right xs (joined lists) s k i)),
      )

-- what is derived stands once in the list
pub once_of : (list : List Member) → AreApart list → Once list
once_of list apart = Once-index list (λ m i j e f. apart i j m m e f refl)

-- no member stands in the lists of two parts
once_joined : (sources : Sources) (parts : List (List Lot)) → NamesDiffer (joined parts) → (lists : List (List Member))
    → AreDerived sources parts lists → Once (joined lists)
once_joined sources [] differ [] derived = tt
once_joined sources [] differ (xs ∷ lists) derived = absurd derived
once_joined sources (part ∷ parts) differ [] derived = absurd derived
once_joined sources (part ∷ parts) differ (xs ∷ lists) derived =
    let own = differ_left part (joined parts) differ in
    let rest = differ_right part (joined parts) differ in
    Once-append xs (joined lists) (once_of xs (places_differ (with_lots sources part) own xs derived.0))
    (once_joined sources parts rest lists derived.1)
    (λ m h g.
    let x = lot_among sources part own xs derived.0 m.shape m.kind (among_has xs m h) in
    let y = lot_of_joined sources parts rest lists derived.1 m.shape m.kind (among_has (joined lists) m g) in
    two_names part (joined parts) differ x.0 y.0 x.1 y.1 (sym x.2 ∙ y.2))

count_joined : (test : Member → Bool) (lists : List (List Member)) → count_by test (joined lists) ≡ total_by test lists
count_joined test [] = refl
count_joined test (xs ∷ lists) = count_append test xs (joined lists) ∙ ap (λ n. count_by test xs + n) (count_joined test lists)

pub sums : (lists : List (List Member)) (list : List Member) → Once (joined lists) → Once list
    → SameMembers (joined lists) list → AreSums lists list
sums lists list one other same test =
    count-once test list (joined lists) other one
    (λ m h. has_among (joined lists) m.shape m.kind ((same m.shape m.kind).1 (among_has list m h)))
    (λ m h. has_among list m.shape m.kind ((same m.shape m.kind).0 (among_has (joined lists) m h)))
    ∙ count_joined test lists

-- told boxes that don't touch tell the parts apart
far_by : (sources : Sources) (parts : List (List Lot)) → NamesDiffer (joined parts) → (lists : List (List Member))
    → AreDerived sources parts lists → NoneAsks sources.grammar ⊎ HullsAreApart parts lists
    → NoneAsks sources.grammar ⊎ AllMeetNone sources.grammar lists
far_by sources parts differ lists derived (inl quiet) = inl quiet
far_by sources parts differ lists derived (inr (hull, held, far)) = inr (hulls_tell_apart sources parts differ lists derived hull held far)

pub region_is_its_parts : PartsAreApart → RegionIsItsParts
region_is_its_parts apart_parts sources differ parts all lists derived far =
    let w = apart_parts sources differ parts all lists derived (far_by sources parts all.differ lists derived far) in
    let apart = places_differ sources differ w.0 w.1 in
    let tell = each_tells sources w.0 apart parts all.differ lists derived (λ s k x h g e. (w.2 s k).1 h) (λ s k h. (w.2 s k).0 h) in (
      w.0,
      w.1,
      tell,
      sums lists w.0 (once_joined sources parts all.differ lists derived) (once_of w.0 apart) w.2,
      bills_are_sums sources differ parts all lists w.0 tell,
    )
