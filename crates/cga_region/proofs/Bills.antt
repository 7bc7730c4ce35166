-- The bill of a region in any number of parts: what is drawn, each as often.
use Rattle.std.proofs.Common.{◌≡◌, ℕ, ◌+◌, List, [], ◌∷◌, ◌++◌, inl, inr, refl, sym, ap, ◌∙◌, Bool}
use Rattle.std.specs.Prelude.{count_by, flat_map, sum_by}
use Rattle.std.proofs.lemmas.Grind.{flat_map-append}
use Rattle.std.proofs.lemmas.List.{append-nil, map-append}
use Rattle.std.proofs.lemmas.List.Concat.{flat_map-cons}
use Rattle.std.proofs.lemmas.List.Sums.{sum_by-cons}
use Rattle.cga_order.specs.Once.{Once}
use Rattle.cga_order.specs.World.{Among}
use Rattle.cga_order.proofs.Door.{Once-index, count-once}
use Rattle.cga_agenda.proofs.Door.{count_append}
use Rattle.cga_shape.specs.declared.drawn.Drawn.{Drawn}
use Rattle.cga_shape.specs.declared.lot.Lot.{Lot}
use Rattle.cga_shape.specs.declared.sources.Sources.{Sources}
use Rattle.cga_bill.proofs.Door.{SameCounts, sum_of_bills, sum_same}
use Rattle.cga_expand.specs.Children.{Member}
use Rattle.cga_expand.specs.Derivation.{NamesDiffer}
use Rattle.cga_city.specs.Lots.{names_of}
use Rattle.cga_city.specs.Order.{members_of}
use Rattle.cga_city.specs.Reports.{drawn_in, drawn_of}
use Rattle.cga_region.specs.TownParts.{ArePartsOf, joined}
use Rattle.cga_region.specs.Lots.{TellAlikeOf}
use Rattle.cga_region.specs.Parts.{AllTellAlike, BillsAreSums, drawn_apart}

-- ---- what is drawn, lot by lot

module _ (list : List Member) where
  pub nothing : drawn_in [] list ≡ []
  unfolding drawn_in
  nothing = refl

  pub first : (lot : Lot) (lots : List Lot)
      → drawn_in (names_of (lot ∷ lots)) list ≡ drawn_in (lot.name ∷ []) list ++ drawn_in (names_of lots) list
  unfolding drawn_in
  first lot lots =
      let own : List Drawn = flat_map drawn_of (members_of lot.name list) in
      ap (λ (drawn : List Drawn). drawn ++ drawn_in (names_of lots) list) (sym (append-nil own))

  pub both : (lots others : List Lot)
      → drawn_in (names_of (lots ++ others)) list ≡ drawn_in (names_of lots) list ++ drawn_in (names_of others) list
  unfolding drawn_in
  both lots others =
      let by : List ℕ → List Drawn = λ lot. flat_map drawn_of (members_of lot list) in
      ap (flat_map by) (map-append (λ (lot : Lot). lot.name) lots others) ∙ flat_map-append by (names_of lots) (names_of others)

-- lists that tell the same of lots draw the same for them
pub same_drawn : (lots : List Lot) (list other : List Member) → TellAlikeOf lots list other
    → drawn_in (names_of lots) list ≡ drawn_in (names_of lots) other
same_drawn [] list other h = nothing list ∙ sym (nothing other)
same_drawn (lot ∷ lots) list other h =
    first list lot lots
    ∙ ((λ i. (h lot (inl refl)).0 i ++ same_drawn lots list other (λ x k. h x (inr k)) i) ∙ sym (first other lot lots))

-- for the lots of all parts is drawn what each part draws for its own
drawn_parts : (parts : List (List Lot)) (lists : List (List Member)) (list : List Member)
    → AllTellAlike parts lists list
    → drawn_in (names_of (joined parts)) list ≡ flat_map (λ (drawn : List Drawn). drawn) (drawn_apart parts lists)
drawn_parts [] lists list h = nothing list
drawn_parts (part ∷ parts) [] list h = absurd h
drawn_parts (part ∷ parts) (xs ∷ lists) list h =
    both list part (joined parts)
    ∙ ((λ i. same_drawn part list xs h.0 i ++ drawn_parts parts lists list h.1 i)
    ∙ sym (flat_map-cons (λ (drawn : List Drawn). drawn) (drawn_in (names_of part) xs) (drawn_apart parts lists)))

-- ---- how often, whatever the order of the lots

module _ (test : Drawn → Bool) (list : List Member) where
  of_lot : Lot → ℕ
  of_lot lot = count_by test (drawn_in (lot.name ∷ []) list)

  count_lots : (lots : List Lot) → count_by test (drawn_in (names_of lots) list) ≡ sum_by of_lot lots
  unfolding of_lot
  count_lots [] = ap (count_by test) (nothing list)
  count_lots (lot ∷ lots) =
      let one : List Drawn = drawn_in (lot.name ∷ []) list in
      let rest : List Drawn = drawn_in (names_of lots) list in
      let a = ap (count_by test) (first list lot lots) ∙ count_append test one rest in
      a ∙ (ap (λ (n : ℕ). count_by test one + n) (count_lots lots) ∙ sym (sum_by-cons of_lot lot lots))

pub once_lots : (lots : List Lot) → NamesDiffer lots → Once lots
once_lots lots differ = Once-index lots (λ x i j h g. differ i j x x h g refl)

-- for the same lots, in whatever order, is drawn the same, each instance as often
pub same_lots : (test : Drawn → Bool) (list : List Member) (lots others : List Lot) → Once lots → Once others
    → ((x : Lot) → Among x lots → Among x others) → ((x : Lot) → Among x others → Among x lots)
    → count_by test (drawn_in (names_of lots) list) ≡ count_by test (drawn_in (names_of others) list)
same_lots test list lots others one other to from =
    let same : SameCounts lots others = λ t. count-once t lots others one other to from in
    count_lots test list lots ∙ (sum_same (of_lot test list) lots others same ∙ sym (count_lots test list others))

pub bills_are_sums : (sources : Sources) → NamesDiffer sources.lots
    → (parts : List (List Lot)) → ArePartsOf sources parts
    → (lists : List (List Member)) (list : List Member) → AllTellAlike parts lists list
    → BillsAreSums sources parts lists list
bills_are_sums sources differ parts all lists list tell =
    sum_of_bills (drawn_in (names_of sources.lots) list) (drawn_apart parts lists)
    (λ test.
    same_lots test list sources.lots (joined parts) (once_lots sources.lots differ) (once_lots (joined parts) all.differ) (λ x. (all.same x).0) (λ x. (all.same x).1)
    ∙ ap (count_by test) (drawn_parts parts lists list tell))
