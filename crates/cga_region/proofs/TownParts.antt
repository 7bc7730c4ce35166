-- Any number of districts of a town are derived apart: by two at a time.
use Rattle.std.proofs.Common.{◌≡◌, List, [], ◌∷◌, ◌++◌, length, refl, sym, subst, ◌⊎◌, inl, inr, arith}
use Rattle.cga_order.specs.World.{Among}
use Rattle.cga_order.specs.Consistent.{SameMembers}
use Rattle.cga_order.proofs.Door.{Among-append, Has-append, Has-left, Has-right}
use Rattle.cga_rule.specs.declared.grammar.Grammar.{Grammar}
use Rattle.cga_shape.specs.declared.lot.Lot.{Lot}
use Rattle.cga_shape.specs.declared.sources.Sources.{Sources}
use Rattle.cga_derivation.specs.Derivation.{IsDerived, reached}
use Rattle.cga_expand.specs.Children.{Member}
use Rattle.cga_expand.specs.Derivation.{derivation_of}
use Rattle.cga_region.specs.Towns.{with_lots, AreLots, LotsAreApart, NoneAsks, MeetsNone}
use Rattle.cga_region.specs.TownParts.{joined, total, ArePartsOf, AreDerived, MeetsNoOther, AllMeetNone, PartsAreApart}
use Rattle.cga_order.proofs.Door.{Among-left, Among-right}
use Rattle.cga_region.proofs.TownRoots.{differ_right}

-- a town without lots
empty : (lots : List Lot) → ((x : Lot) → Among x lots → ⊥) → lots ≡ []
empty [] h = refl
empty (x ∷ lots) h = absurd (h x (inl refl))

derived-empty : (sources : Sources) → sources.lots ≡ [] → IsDerived (derivation_of sources) []
unfolding reached
derived-empty sources is = subst (λ lots. IsDerived (derivation_of (with_lots sources lots)) []) (sym is) (0, refl, λ n h. h)

-- ---- far from each, far from all

module _ (grammar : Grammar) (xs : List Member) where
  -- what is far from each list is far from a list of their members
  from_all : (lists : List (List Member)) → MeetsNoOther grammar xs lists → MeetsNone grammar xs (joined lists)
  from_all [] far n m k j target h p e g = absurd g
  from_all (ys ∷ lists) far n m k j target h p e g = elim (Has-append ys (joined lists) m j g) [
    | inl q ↦ far.0 n m k j target h p e q
    | inr q ↦ from_all lists far.2 n m k j target h p e q
  ]

  to_all : (lists : List (List Member)) → MeetsNoOther grammar xs lists → MeetsNone grammar (joined lists) xs
  to_all [] far n m k j target h p e g = absurd h
  to_all (ys ∷ lists) far n m k j target h p e g = elim (Has-append ys (joined lists) n k h) [
    | inl q ↦ far.1 n m k j target q p e g
    | inr q ↦ to_all lists far.2 n m k j target q p e g
  ]

  from_same : (ys zs : List Member) → SameMembers ys zs → MeetsNone grammar xs ys → MeetsNone grammar xs zs
  from_same ys zs same far n m k j target h p e g = far n m k j target h p e ((same m j).1 g)

  to_same : (ys zs : List Member) → SameMembers ys zs → MeetsNone grammar ys xs → MeetsNone grammar zs xs
  to_same ys zs same far n m k j target h p e g = far n m k j target ((same n k).1 h) p e g

-- ---- by one part more

abbrev Whole : Sources → List (List Member) → Type 0
Whole sources lists =
    (list : List Member) × IsDerived (derivation_of sources) list × SameMembers (joined lists) list
    × (length list ≡ total lists)

both_same : (xs ys zs list : List Member) → SameMembers ys zs → SameMembers (xs ++ zs) list
    → SameMembers (xs ++ ys) list
both_same xs ys zs list one all n k = (
  λ h. elim (Has-append xs ys n k h) [ inl q ↦ (all n k).0 (Has-left xs zs n k q) | inr q ↦ (all n k).0 (Has-right xs zs n k ((one n k).0 q)) ],
  λ h. elim (Has-append xs zs n k ((all n k).1 h)) [ inl q ↦ Has-left xs ys n k q | inr q ↦ Has-right xs ys n k ((one n k).1 q) ],
)

behind : (grammar : Grammar) (xs : List Member) (lists : List (List Member))
    → NoneAsks grammar ⊎ AllMeetNone grammar (xs ∷ lists) → NoneAsks grammar ⊎ AllMeetNone grammar lists
behind grammar xs lists (inl quiet) = inl quiet
behind grammar xs lists (inr far) = inr far.1

-- any number of districts that are apart are derived apart
pub parts_are_apart : LotsAreApart → PartsAreApart
parts_are_apart towns sources differ [] all [] derived far =
    let none = empty sources.lots (λ x h. (all.same x).0 h) in
    ([], derived-empty sources none, (λ n k. ((λ h. h), (λ h. h))), refl)
parts_are_apart towns sources differ [] all (xs ∷ lists) derived far = absurd derived
parts_are_apart towns sources differ (part ∷ parts) all [] derived far = absurd derived
parts_are_apart towns sources differ (part ∷ parts) all (xs ∷ lists) derived far =
    let rest = differ_right part (joined parts) all.differ in
    let own : ArePartsOf (with_lots sources (joined parts)) parts = record { same = λ x. ((λ h. h), (λ h. h)); differ = rest } in
    let others : Whole (with_lots sources (joined parts)) lists = parts_are_apart towns
    (with_lots sources (joined parts)) rest parts own lists (with_parts parts lists derived.1) (behind sources.grammar xs lists far) in
    let lots : AreLots sources part (joined parts) = record {
      each = λ x h. Among-append part (joined parts) x ((all.same x).0 h);
      left_lots = λ x h. (all.same x).1 (Among-left part (joined parts) x h);
      right_lots = λ x h. (all.same x).1 (Among-right part (joined parts) x h);
      differ = all.differ;
    } in
    let apart : NoneAsks sources.grammar ⊎ (MeetsNone sources.grammar xs others.0 × MeetsNone sources.grammar others.0 xs) = elim far [
      | inl quiet ↦ inl quiet
      | inr f ↦ inr (
        from_same sources.grammar xs (joined lists) others.0 others.2
            (from_all sources.grammar xs lists f.0),
        to_same sources.grammar xs (joined lists) others.0 others.2 (to_all sources.grammar xs lists f.0),
      )
    ] in
    let both = towns sources differ part (joined parts) lots xs others.0 derived.0 others.1 apart in
    (both.0, both.1, both_same xs (joined lists) others.0 both.0 others.2 both.2, omega (arith, both.3, others.3))
  where
    -- the lots of the whole don't count where each part has its own
    with_parts : (ps : List (List Lot)) (ls : List (List Member)) → AreDerived sources ps ls
        → AreDerived (with_lots sources (joined parts)) ps ls
    with_parts [] [] d = tt
    with_parts [] (l ∷ ls) d = absurd d
    with_parts (p ∷ ps) [] d = absurd d
    with_parts (p ∷ ps) (l ∷ ls) d = (d.0, with_parts ps ls d.1)
