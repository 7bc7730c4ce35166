-- What programs draw of the lots that their jobs answer for, and what the region's print draws of all.
use Rattle.std.proofs.Common.{◌≡◌, ℕ, ◌+◌, List, [], ◌∷◌, Bool, true, false, cond, ◌&&◌, inl, inr, refl, sym, ap, ◌∙◌, subst, arith, Some}
use Rattle.std.specs.Prelude.{◌↔◌, bytes_eq, count_by, filter, flat_map, slice_get, sum_by}
use Rattle.std.proofs.lemmas.Bool.{cases_Bool as decide}
use Rattle.std.proofs.lemmas.List.{append-nil}
use Rattle.std.proofs.lemmas.List.Sums.{sum_by-cons}
use Rattle.std.proofs.lemmas.Slice.Eq.{bytes_eq-Decides}
use Rattle.cga_agenda.proofs.Door.{count_append}
use Rattle.cga_city.proofs.Door.{filter_from, filter_to, is_of, sorted_from}
use Rattle.cga_city.specs.Lots.{names_of}
use Rattle.cga_city.specs.Order.{comes_before, members_of}
use Rattle.cga_city.specs.Reports.{drawn_as, drawn_in, drawn_of}
use Rattle.cga_derivation.proofs.Door.{one}
use Rattle.cga_derivation.specs.Derivation.{IsDerived}
use Rattle.cga_region.specs.TownJobs.{AreJobsOf, AreSettled, JobsAreTheTown, LotJob, lots_of}
use Rattle.cga_region.specs.Towns.{with_lots}
use Rattle.cga_expand.proofs.Door.{sources_are_derivations}
use Rattle.cga_expand.specs.Children.{Member}
use Rattle.cga_expand.specs.Derivation.{derivation_of, NamesDiffer}
use Rattle.cga_order.proofs.Door.{Among-append, Among-index, Among-left, Among-right}
use Rattle.cga_order.specs.Once.{Once}
use Rattle.cga_order.specs.World.{Among}
use Rattle.cga_order.specs.declared.placed.Kind.{Kind}
use Rattle.cga_order.specs.declared.placed.Kind.TheVariants.{Waiting, Done, Faulted, Instance}
use Rattle.cga_shape.specs.declared.drawn.Drawn.{Drawn}
use Rattle.cga_shape.specs.declared.lot.Lot.{Lot}
use Rattle.cga_shape.specs.declared.shape.Shape.{Shape}
use Rattle.cga_shape.specs.declared.shape_fault.ShapeFault.{ShapeFault}
use Rattle.cga_shape.specs.declared.sources.Sources.{Sources}
use Rattle.cga_word.specs.declared.primitive.Primitive.{Primitive}
use Rattle.cga_region.specs.Changes.{drawn_for, Draws, is_named}
use Rattle.cga_region.specs.Jobs.{AllTellAs}
use Rattle.cga_region.specs.Kept.{all_of, own_of}
use Rattle.cga_region.proofs.Bills.{both, first, nothing, once_lots, same_drawn, same_lots}
use Rattle.cga_region.proofs.Changes.{count_filter}
use Rattle.cga_region.proofs.Jobs.{by_settled}
use Rattle.cga_region.proofs.Lots.{places_differ, tell_alike}
use Rattle.cga_region.proofs.Reordered.{reordered}

-- ---- counts

count_alike : {X : Type 0} (t u : X → Bool) (xs : List X) → ((x : X) → Among x xs → t x ≡ u x)
    → count_by t xs ≡ count_by u xs
count_alike t u [] h = refl
count_alike {X} t u (x ∷ xs) h =
    let a = sum_by-cons (λ (y : X). cond (t y) 1 0) x xs in
    let b = sum_by-cons (λ (y : X). cond (u y) 1 0) x xs in
    let e = count_alike t u xs (λ y k. h y (inr k)) in
    let number : Bool → ℕ = λ c. cond c 1 0 in
    let f : number (t x) ≡ number (u x) = ap number (h x (inl refl)) in
    omega (arith, a, b, e, f)

count_none : {X : Type 0} (xs : List X) → count_by (λ (x : X). false) xs ≡ 0
count_none [] = refl
count_none {X} (x ∷ xs) =
    let a = sum_by-cons (λ (y : X). cond false 1 0) x xs in
    let b = count_none xs in
    omega (arith, a, b)

-- ---- an instance is of its lot

drawn_lot : (s : Shape) (k : Kind ShapeFault Primitive) (d : Drawn) → Among d (drawn_as s k) → d.lot ≡ s.lot
drawn_lot s Waiting d h = absurd h
drawn_lot s Done d h = absurd h
drawn_lot s (Faulted fault) d h = absurd h
drawn_lot s (Instance p) d h = elim h [ inl e ↦ ap (λ (x : Drawn). x.lot) (sym e) | inr r ↦ absurd r ]

drawn_from : (list : List Member) (d : Drawn) → Among d (flat_map drawn_of list)
    → (m : Member) × Among m list × Among d (drawn_of m)
drawn_from [] d h = absurd h
drawn_from (m ∷ list) d h = elim (Among-append (drawn_of m) (flat_map drawn_of list) d h) [
  | inl l ↦ (m, inl refl, l)
  | inr r ↦ let w = drawn_from list d r in (w.0, inr w.1, w.2)
]

lot_drawn : (name : List ℕ) (list : List Member) (d : Drawn) → Among d (drawn_in (name ∷ []) list) → d.lot ≡ name
unfolding drawn_in
lot_drawn name list d h = elim (Among-append (flat_map drawn_of (members_of name list)) [] d h) [
  | inl l ↦
      let w = drawn_from (members_of name list) d l in
      let of = filter_to (is_of name) list w.0 (sorted_from comes_before (filter (is_of name) list) w.0 w.1) in
      drawn_lot w.0.shape w.0.kind d w.2 ∙ (bytes_eq-Decides w.0.shape.lot name).0 of.1
  | inr r ↦ absurd r
]

-- ---- some of the lots

module _ (test : Drawn → Bool) (names : List (List ℕ)) (list : List Member) where
  abbrev own_lots : List Lot → List Lot
  own_lots lots = filter (λ (x : Lot). is_named names x.name) lots

  abbrev passes : Drawn → Bool
  passes d = is_named names d.lot && test d

  one_lot_more : (x : Lot) (lots : List Lot) (b : Bool) → is_named names x.name ≡ b
      → count_by passes (drawn_in (names_of lots) list) ≡ count_by test (drawn_in (names_of (own_lots lots)) list)
      → count_by passes (drawn_in (x.name ∷ []) list) + count_by passes (drawn_in (names_of lots) list)
      ≡ count_by test (drawn_in (names_of (cond b (x ∷ own_lots lots) (own_lots lots))) list)
  one_lot_more x lots true e rest =
      let same : count_by passes (drawn_in (x.name ∷ []) list) ≡ count_by test (drawn_in (x.name ∷ []) list)
      = count_alike passes test (drawn_in (x.name ∷ []) list) (λ d h. ap (λ (name : List ℕ). is_named names name && test d) (lot_drawn x.name list d h) ∙ ap (λ (b : Bool). b && test d) e) in
      let all = ap (count_by test) (first list x (own_lots lots)) in
      let parts = count_append test (drawn_in (x.name ∷ []) list) (drawn_in (names_of (own_lots lots)) list) in
      omega (arith, same, all, parts, rest)
  one_lot_more x lots false e rest =
      let same : count_by passes (drawn_in (x.name ∷ []) list) ≡ count_by (λ (d : Drawn). false) (drawn_in (x.name ∷ []) list)
      = count_alike passes (λ (d : Drawn). false) (drawn_in (x.name ∷ []) list)
      (λ d h. ap (λ (name : List ℕ). is_named names name && test d) (lot_drawn x.name list d h) ∙ ap (λ (b : Bool). b && test d) e) in
      let none = count_none (drawn_in (x.name ∷ []) list) in
      omega (arith, same, none, rest)

  some_lots : (lots : List Lot)
      → count_by passes (drawn_in (names_of lots) list) ≡ count_by test (drawn_in (names_of (own_lots lots)) list)
  some_lots [] = ap (count_by passes) (nothing list) ∙ ap (count_by test) (sym (nothing list))
  some_lots (x ∷ lots) =
      ap (count_by passes) (first list x lots)
      ∙ (count_append passes (drawn_in (x.name ∷ []) list) (drawn_in (names_of lots) list)
      ∙ one_lot_more x lots (is_named names x.name) refl (some_lots lots))

  pub of_names : (lots : List Lot)
      → count_by test (drawn_for names (drawn_in (names_of lots) list))
      ≡ count_by test (drawn_in (names_of (own_lots lots)) list)
  of_names lots = count_filter (λ (d : Drawn). is_named names d.lot) test (drawn_in (names_of lots) list) ∙ some_lots lots

-- ---- names of lots

named : (own : List Lot) (x : Lot) → Among x own → is_named (names_of own) x.name ≡ true
named [] x h = absurd h
named (y ∷ own) x h = elim (decide (bytes_eq y.name x.name)) [
  | inl t ↦ rw t refl
  | inr f ↦ rw f (elim h [ inl e ↦ absurd (let bad : false ≡ true = sym f ∙ (bytes_eq-Decides y.name x.name).1 (ap (λ (l : Lot). l.name) e) in cc) | inr r ↦ named own x r ])
]

of_name : (own : List Lot) (name : List ℕ) → is_named (names_of own) name ≡ true
    → (y : Lot) × Among y own × (y.name ≡ name)
of_name [] name h = absurd (let bad : false ≡ true = h in cc)
of_name (y ∷ own) name h = elim (decide (bytes_eq y.name name)) [
  | inl t ↦ (y, inl refl, (bytes_eq-Decides y.name name).0 t)
  | inr f ↦ let w = of_name own name (rw f at h) in (w.0, inr w.1, w.2)
]

-- lots of one name are one
same_lot : (lots : List Lot) → NamesDiffer lots → (x y : Lot) → Among x lots → Among y lots → x.name ≡ y.name → x ≡ y
same_lot lots differ x y h g e =
    let i = Among-index lots x h in
    let j = Among-index lots y g in
    let at : i.0 ≡ j.0 = differ i.0 j.0 x y i.1 j.1 e in
    let both_at : Some x ≡ Some y = sym i.1 ∙ (ap (slice_get lots) at ∙ j.1) in
    cc

once_filter : {X : Type 0} (p : X → Bool) (xs : List X) → Once xs → Once (filter p xs)
once_filter p [] o = tt
once_filter p (x ∷ xs) o = elim (decide (p x)) [
  | inl t ↦ rw t ((λ h. o.0 (filter_to p xs x h).0), once_filter p xs o.1)
  | inr f ↦ rw f (once_filter p xs o.1)
]

-- ---- a list of which each part's lots tell what the part does

module _ (test : Drawn → Bool) where
  -- of a part's own lots
  abbrev pub own_number : LotJob → ℕ
  own_number part = count_by test (drawn_in (names_of part.own) part.members)

module _ (test : Drawn → Bool) (list : List Member) where
  pub all_parts : (parts : List LotJob) → AllTellAs parts list
      → count_by test (drawn_in (names_of (own_of parts)) list) ≡ sum_by (own_number test) parts
  all_parts [] tell = ap (count_by test) (nothing list)
  all_parts (part ∷ parts) tell =
      let own = drawn_in (names_of part.own) list in
      let a = ap (count_by test) (both list part.own (own_of parts)) in
      let b = count_append test own (drawn_in (names_of (own_of parts)) list) in
      let c = ap (count_by test) (same_drawn part.own list part.members (tell part (inl refl))) in
      let d = all_parts parts (λ j h. tell j (inr h)) in
      let e = sum_by-cons (own_number test) part parts in
      omega (arith, a, b, c, d, e)

  pub region_drawn : (sources : Sources) → NamesDiffer sources.lots → (parts : List LotJob) → AreJobsOf sources parts
      → AllTellAs parts list → count_by test (drawn_in (names_of sources.lots) list) ≡ sum_by (own_number test) parts
  region_drawn sources names parts are tell =
      same_lots test list sources.lots (own_of parts) (once_lots sources.lots names) (once_lots (own_of parts) are.parts.differ) (λ x. (are.parts.same x).0) (λ x. (are.parts.same x).1)
      ∙ all_parts parts tell

-- ---- a job's program

own_in_all : (parts : List LotJob) (x : Lot) → Among x (own_of parts) → Among x (all_of parts)
own_in_all [] x h = h
own_in_all (part ∷ parts) x h = elim (Among-append part.own (own_of parts) x h) [
  | inl o ↦ Among-left (lots_of part) (all_of parts) x (Among-left part.own part.ring x o)
  | inr r ↦ Among-right (lots_of part) (all_of parts) x (own_in_all parts x r)
]

all_in_own : (parts : List LotJob) → ((part : LotJob) → Among part parts → part.ring ≡ []) → (x : Lot)
    → Among x (all_of parts) → Among x (own_of parts)
all_in_own [] alone x h = h
all_in_own (part ∷ parts) alone x h = elim (Among-append (lots_of part) (all_of parts) x h) [
  | inl l ↦ elim (Among-append part.own part.ring x l) [
    | inl o ↦ Among-left part.own (own_of parts) x o
    | inr r ↦ absurd (subst (Among x) (alone part (inl refl)) r)
  ]
  | inr r ↦ Among-right part.own (own_of parts) x (all_in_own parts (λ p k. alone p (inr k)) x r)
]

module _ (town : JobsAreTheTown) (sources : Sources) (parts : List LotJob)
    (own_differ : NamesDiffer (own_of parts)) (differ : (part : LotJob) → Among part parts
    → NamesDiffer (lots_of part)) (derived : (part : LotJob) → Among part parts
    → IsDerived (derivation_of (with_lots sources (lots_of part))) part.members)
    (settled : AreSettled sources.grammar parts) (drawn : List Drawn) (draws : Draws sources parts drawn) where
  abbrev Town : Sources
  Town = with_lots sources draws.lots

  -- one part, with its neighbours
  of_one : (only : LotJob) → parts ≡ only ∷ [] → AllTellAs parts draws.members
  of_one only are part h x own =
      let is : only ≡ part = elim (subst (Among part) are h) [ inl e ↦ e | inr r ↦ absurd r ] in
      let lots : all_of parts ≡ lots_of part = ap all_of are ∙ (append-nil (lots_of only) ∙ ap lots_of is) in
      let same = reordered town sources (lots_of part) draws.lots (differ part h) draws.differ
      (λ y. subst (λ (l : List Lot). Among y draws.lots ↔ Among y l) lots (draws.same y)) part.members draws.members (derived part h) draws.derived in
      tell_alike x.name draws.members part.members (places_differ Town draws.differ draws.members draws.derived)
      (places_differ (with_lots sources (lots_of part)) (differ part h) part.members (derived part h)) (λ s k i e. (same s k).1 i) (λ s k i e. (same s k).0 i)

  -- several parts without neighbours: they are the program's town
  of_some : ((part : LotJob) → Among part parts → part.ring ≡ []) → AllTellAs parts draws.members
  of_some alone =
      let are : AreJobsOf Town parts = record {
        parts = record {
          same = λ x. ((λ h. all_in_own parts alone x ((draws.same x).0 h)), (λ h. (draws.same x).1 (own_in_all parts x h)));
          differ = own_differ;
        };
        rings = λ part x j h. absurd (subst (Among x) (alone part j) h);
        differ = differ;
        derived = derived;
      } in
      let w = by_settled town Town draws.differ parts are settled in
      subst (AllTellAs parts) (one (derivation_of Town) (sources_are_derivations Town draws.differ) w.0 draws.members w.1 draws.derived) w.2

  tells : AllTellAs parts draws.members
  tells = elim draws.are [ inl w ↦ of_one w.0 w.1 | inr alone ↦ of_some alone ]

  -- of its own lots it draws what the parts do
  pub own_drawn : (test : Drawn → Bool)
      → count_by test (drawn_for (names_of (own_of parts)) drawn) ≡ sum_by (own_number test) parts
  own_drawn test =
      let names = names_of (own_of parts) in
      let own = filter (λ (x : Lot). is_named names x.name) draws.lots in
      ap (λ (list : List Drawn). count_by test (drawn_for names list)) draws.all
      ∙ (of_names test names draws.members draws.lots
      ∙ (same_lots test draws.members own (own_of parts) (once_filter (λ (x : Lot). is_named names x.name) draws.lots (once_lots draws.lots draws.differ)) (once_lots (own_of parts) own_differ)
      (λ x h.
      let w = filter_to (λ (y : Lot). is_named names y.name) draws.lots x h in
      let y = of_name (own_of parts) x.name w.1 in
      subst (λ (z : Lot). Among z (own_of parts)) (same_lot draws.lots draws.differ y.0 x ((draws.same y.0).1 (own_in_all parts y.0 y.1)) w.0 y.2) y.1)
      (λ x h. filter_from (λ (y : Lot). is_named names y.name) draws.lots x ((draws.same x).1 (own_in_all parts x h)) (named (own_of parts) x h))
      ∙ all_parts test draws.members parts tells))
