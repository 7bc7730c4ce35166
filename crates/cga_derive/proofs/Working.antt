-- One turn in code is one step of the definition, and where the loop stops the list is the derivation.
use Rattle.std.proofs.Common.{◌≡◌, ℕ, suc, ◌<◌, ◌≤◌, List, [], ◌∷◌, ◌++◌, length, map, not, refl, sym, ap, ◌∙◌, subst, Result, Ok, Err, Some, None, arith, get_or}
use Rattle.std.specs.Prelude.{slice_get, slice_set, count_by}
use Rattle.std.specs.List.{All}
use Rattle.std.specs.Map.{keys_of}
use Rattle.std.specs.BTreeMap.Range.{IsLtBy}
use Rattle.std.proofs.Math.ListN.{length-set}
use Rattle.cga_word.specs.declared.answers.Answers.{Answers}
use Rattle.cga_order.specs.declared.placed.Kind.TheVariants.{Waiting, Done, Faulted}
use Rattle.cga_order.specs.World.{is_instance}
use Rattle.cga_derivation.specs.Derivation.{asked, derive}
use Rattle.cga_derivation.specs.Sites.{sited, sites}
use Rattle.cga_derivation.specs.Turns.{expanded_in}
use Rattle.cga_derivation.specs.Sites.{SitesApart}
use Rattle.cga_derivation.specs.Stamps.{StandsInOrder, RisesIn}
use Rattle.cga_derivation.specs.Derivation.{expanded}
use Rattle.cga_derivation.proofs.Door.{derived-reached, in_order, rises}
use Rattle.cga_expand.proofs.Door.{sources_are_derivations}
use Rattle.cga_fraction.proofs.Door.{lt-length_from_slice_get as within, same_Some as some_same}
use Rattle.cga_order.proofs.Door.{agrees}
use Rattle.cga_derivation.proofs.Door as turns
use Rattle.cga_shape.specs.declared.sources.Sources.{Sources}
use Rattle.cga_order.specs.declared.stamp_key.StampKey.{StampKey}
use Rattle.cga_shape.specs.declared.shape_fault.ShapeFault.{ShapeFault}
use Rattle.cga_shape.specs.declared.emitted.Emitted.{Emitted}
use Rattle.cga_expand.specs.Expand.{expand_of}
use Rattle.cga_expand.specs.Children.{Member, placed_from, placed_by}
use Rattle.cga_expand.specs.Derivation.{children_of, derivation_of, NamesDiffer}
use Rattle.cga_order.specs.Key.{chain_of_key, key_cmp}
use Rattle.cga_derive.specs.Run.{Sites, HasKeys, KeepsKeys, sited_children, IsAfter, IsInTurnOf}
use Rattle.cga_check.specs.Said.{said}
use Rattle.cga_check.specs.declared.said.Said.{Said}
use Rattle.cga_derive.specs.Compared.{answers_with}
use Rattle.cga_derive.proofs.Compared.{answers-are}
pub use Rattle.cga_fraction.proofs.Door.{slice_get_from_get_or as stands_there}
use Rattle.std.proofs.lemmas.Option.{get_or_from_slice_get as read}

pub none-left : {X : Type 0} (xs : List X) → (0 < length xs → ⊥) → xs ≡ []
none-left [] h = refl
none-left (x ∷ xs) h = absurd (h (omega arith))

-- two reads of one index
pub same_read : {X : Type 0} (xs : List X) (i : ℕ) (x y : X) → i < length xs → x ≡ get_or xs i x → y ≡ get_or xs i y
    → x ≡ y
same_read xs i x y h e f = some_same x y (sym (stands_there xs i x h e) ∙ stands_there xs i y h f)

-- the answers by what was read of the symbol of the shape at an index
pub asks-are : (sources : Sources) (list lent : List Member) (first second : Member) (read : Said)
    (answers : Answers)
    → first ≡ second → read ≡ said sources.grammar first.shape.symbol → lent ≡ list
    → answers ≡ answers_with read lent second.shape → answers ≡ asked (derivation_of sources) list second.shape
asks-are sources list lent first second read answers same reads is given =
    given ∙ (ap (λ l. answers_with read l second.shape) is ∙ answers-are sources read list second.shape (reads ∙ ap (λ (m : Member). said sources.grammar m.shape.symbol) same))

-- the least key was taken off
pub in-turn : (sources : Sources) (n : ℕ) (key : StampKey) (place : ℕ) (list : List Member)
    (old new : List (StampKey × ℕ))
    → IsAfter sources n list old → old ≡ (key, place) ∷ new → All (IsLtBy key_cmp key) (keys_of new)
    → IsInTurnOf sources n key place list new
in-turn sources n key place list old new at removal above = record {
  list_is = at.list_is;
  keys = subst (λ es. HasKeys sources (sites (derivation_of sources) n) es) removal at.keys;
  above = above;
  count = at.count;
}

module _ (sources : Sources) (differ : NamesDiffer sources.lots) where
  module _ (n : ℕ) (key : StampKey) (place : ℕ) (list : List Member) (es : List (StampKey × ℕ)) (turn : IsInTurnOf sources n key place list es) where
    pub there : (x : Member) × (slice_get list place ≡ Some x) × (x.kind ≡ Waiting) × (key.lot ≡ x.shape.lot)
        × (key.path ≡ x.shape.path)
    there = turns.member (derivation_of sources) (sources_are_derivations sources differ) (λ k. k.mode) chain_of_key key_cmp (agrees sources.mode) n key place list es turn

    pub place_within : place < length list
    place_within = within list place there.0 there.1

    pub result : (y : Member) (answers : Answers) (r : Result (List Emitted) ShapeFault) → y ≡ get_or list place y
        → answers ≡ asked (derivation_of sources) list y.shape → r ≡ expand_of sources.grammar y.shape answers
        → children_of sources.grammar there.0.shape (asked (derivation_of sources) list there.0.shape) ≡ placed_by
        there.0.shape r
    unfolding children_of
    result y answers r is asks gives =
        let same : y ≡ there.0 = is ∙ read list place there.0 y there.1 in
        ap (placed_by there.0.shape) (sym
        (gives ∙ ((λ i. expand_of sources.grammar y.shape (asks i))
        ∙ ap (λ (m : Member). expand_of sources.grammar m.shape (asked (derivation_of sources) list m.shape)) same)))

    pub working-fault : (x y : Member) (answers : Answers) (r : Result (List Emitted) ShapeFault) (f : ShapeFault)
        → x ≡ get_or list place x → y ≡ get_or list place y → answers ≡ asked (derivation_of sources) list y.shape
        → r ≡ expand_of sources.grammar y.shape answers → r ≡ Err f
        → IsAfter sources (suc n) (slice_set list place (record { shape = x.shape; kind = Faulted f })) es
    working-fault x y answers r f here is asks gives fault =
        let same : there.0 ≡ x = sym (here ∙ read list place there.0 x there.1) in
        let removed = turns.turn-fault (derivation_of sources) (sources_are_derivations sources differ)
        (λ k. k.mode) chain_of_key key_cmp (agrees sources.mode) n key place list es turn there.0 there.1 f
        (result y answers r is asks gives ∙ ap (placed_by there.0.shape) fault) in
        subst (λ (m : Member). IsAfter sources (suc n) (slice_set list place (record { shape = m.shape; kind = Faulted f })) es) same removed

    pub working-done : (x y : Member) (answers : Answers) (r : Result (List Emitted) ShapeFault)
        (emitted : List Emitted) (new_list : List Member) (new_es : List (StampKey × ℕ))
        → x ≡ get_or list place x → y ≡ get_or list place y → answers ≡ asked (derivation_of sources) list y.shape
        → r ≡ expand_of sources.grammar y.shape answers → r ≡ Ok emitted
        → new_list ≡ slice_set list place (record { shape = x.shape; kind = Done }) ++ placed_from key.lot key.path y.shape.symbol 0 emitted
        → KeepsKeys sources key (sited_children key y.shape.symbol 0 emitted) (slice_set list place (record { shape = x.shape; kind = Done })) es new_es
        → IsAfter sources (suc n) new_list new_es
    working-done x y answers r emitted new_list new_es here is asks gives done created keeps =
        let same_x : x ≡ there.0 = here ∙ read list place there.0 x there.1 in
        let same_y : y ≡ there.0 = is ∙ read list place there.0 y there.1 in
        let cs = placed_from there.0.shape.lot there.0.shape.path there.0.shape.symbol 0 emitted in
        let children : placed_from key.lot key.path y.shape.symbol 0 emitted ≡ cs = λ i. placed_from (there.3 i) (there.4 i) (same_y i).shape.symbol 0 emitted in
        let removed = turns.turn-done (derivation_of sources) (sources_are_derivations sources differ)
        (λ k. k.mode) chain_of_key key_cmp (agrees sources.mode) n key place list es turn there.0 there.1 cs
        (result y answers r is asks gives ∙ ap (placed_by there.0.shape) done) in
        let mode = turns.mode_is (derivation_of sources) (sources_are_derivations sources differ) (λ k. k.mode) chain_of_key key_cmp (agrees sources.mode) n key place list es turn in
        let size = removed.1 ∙ sym (length-set list place (record { shape = x.shape; kind = Done })) in
        let kept = subst (λ l. (C : Sites) → key.mode ≡ sources.mode
        → length C ≡ length (slice_set list place (record { shape = x.shape; kind = Done }))
        → SitesApart (derivation_of sources) (C ++ map (sited key.priorities) l) → HasKeys sources C es
        → HasKeys sources (C ++ map (sited key.priorities) l) new_es) children keeps in
        let ended = removed.4 new_es (kept removed.0 mode size removed.3 removed.2) in
        subst (λ l. IsAfter sources (suc n) l new_es) (sym (created ∙ (λ i. slice_set list place (record { shape = (same_x i).shape; kind = Done }) ++ children i))) ended

  -- a derivation stands in order
  pub stands : (budget : ℕ) (list : List Member) → derive (derivation_of sources) budget ≡ Some list
      → StandsInOrder (derivation_of sources) list
  stands budget list e = subst (StandsInOrder (derivation_of sources))
      (derived-reached (derivation_of sources) budget list e) (in_order (derivation_of sources) (sources_are_derivations sources differ) budget)

  -- and its shapes were expanded by rising stamps
  pub rises_to : (budget : ℕ) (list : List Member) → derive (derivation_of sources) budget ≡ Some list
      → RisesIn (derivation_of sources) list (expanded (derivation_of sources) budget)
  rises_to budget list e = subst (λ l. RisesIn (derivation_of sources) l (expanded (derivation_of sources) budget))
      (derived-reached (derivation_of sources) budget list e) (rises (derivation_of sources) (sources_are_derivations sources differ) budget)

  module _ (budget n : ℕ) (list : List Member) (es : List (StampKey × ℕ)) (at : IsAfter sources n list es) where
    pub over : n ≤ budget → budget < length list → derive (derivation_of sources) budget ≡ None
    over turned big = turns.ends-over (derivation_of sources) (sources_are_derivations sources differ) (λ k. k.mode) chain_of_key key_cmp (agrees sources.mode) budget n list es at turned big

    pub ended-full : n ≡ budget → length list ≤ budget
        → (derive (derivation_of sources) budget ≡ Some list)
        × (expanded_in list ≡ count_by (λ m. not (is_instance m.kind)) list)
    ended-full same fits = turns.ends-full (derivation_of sources) (sources_are_derivations sources differ)
        (λ k. k.mode) chain_of_key key_cmp (agrees sources.mode) budget list es (subst (λ k. IsAfter sources k list es) same at) fits
