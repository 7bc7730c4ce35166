-- What a turn tells, and whether one comes.
use Rattle.std.proofs.Common.{◌≡◌, ℕ, zero, suc, ◌<◌, ◌≤◌, List, [], ◌∷◌, length, Bool, not, refl, sym, ap, ◌∙◌, subst, inl, arith, Result, Ok, Err, Option, Some, None, true, false, get_or}
use Rattle.std.specs.Prelude.{slice_get, count_by, is_some, ◌↔◌}
use Rattle.cga_word.specs.declared.answers.Answers.{Answers}
use Rattle.cga_order.specs.declared.placed.Kind.TheVariants.{Waiting}
use Rattle.cga_order.specs.World.{Has, is_instance}
use Rattle.cga_order.proofs.Door as steps
use Rattle.cga_derivation.proofs.Door.{Has-erased, derive-some, erase-sites, expanded-settled, key-next, next-along, option_of, reached-sites, world}
use Rattle.cga_expand.proofs.Door.{length-placed_from, sources_are_derivations}
use Rattle.cga_fraction.proofs.Door.{None-not-Some as none_some, same_Some as some_same, slice_get-map_Some}
use Rattle.cga_order.proofs.Door.{agrees, Has-index, slice_get-Has}
use Rattle.cga_derivation.specs.Derivation.{asked, derive, next_of, reached, NothingWaits}
use Rattle.cga_derivation.specs.Sites.{erased, erase, sites, taken, world_of}
use Rattle.cga_derivation.specs.Turns.{expanded_in}
use Rattle.cga_shape.specs.declared.emitted.Emitted.{Emitted}
use Rattle.cga_shape.specs.declared.shape.Shape.{Shape}
use Rattle.cga_shape.specs.declared.shape_fault.ShapeFault.{ShapeFault}
use Rattle.cga_shape.specs.declared.sources.Sources.{Sources}
use Rattle.cga_shape.specs.declared.trace_step.Outcome.{Outcome}
use Rattle.cga_shape.specs.declared.trace_step.Outcome.TheVariants.{Grew, Faulted}
use Rattle.cga_order.specs.declared.stamp_key.StampKey.{StampKey}
use Rattle.cga_order.specs.Key.{chain_of_key, key_cmp}
use Rattle.cga_expand.specs.Children.{Member, placed_by}
use Rattle.cga_expand.specs.Derivation.{derivation_of, NamesDiffer}
use Rattle.cga_expand.specs.Expand.{expand_of}
use Rattle.cga_expand.specs.Run.{outcome_of, traced}
use Rattle.cga_derive.specs.Run.{HasKeys, IsAfter, IsInTurnOf}
use Rattle.cga_derive.specs.Underway.{IsStepAfter}
use Rattle.cga_derive.proofs.Working.{there, result, none-left}
pub use Rattle.cga_fraction.proofs.Door.{None-not-positive as none_left}

-- what an expansion tells
abbrev pub told_by : Result (List Emitted) ShapeFault → Outcome
told_by (Ok emitted) = Grew (length emitted)
told_by (Err fault) = Faulted fault

told-is : (s : Shape) (r : Result (List Emitted) ShapeFault) → outcome_of (placed_by s r) ≡ told_by r
told-is s (Ok es) = ap Grew (length-placed_from s.lot s.path s.symbol 0 es)
told-is s (Err f) = refl

reads : {X : Type 0} (xs : List X) (i : ℕ) (m d : X) → slice_get xs i ≡ Some m → d ≡ get_or xs i d → d ≡ m
reads [] i m d e f = none_some m e
reads (x ∷ xs) zero m d e f = f ∙ some_same x m e
reads (x ∷ xs) (suc i) m d e f = reads xs i m d e f

-- what is_none tells
pub none_by : {X : Type 0} (o : Option X) (none : Bool) → is_some o ≡ not none → none ≡ true → o ≡ None
none_by None none is t = refl
none_by (Some x) none is t = let q : true ≡ false = is ∙ ap not t in cc

pub some_by : {X : Type 0} (o : Option X) (none : Bool) → is_some o ≡ not none → none ≡ false → (x : X) × (o ≡ Some x)
some_by None none is f = let q : false ≡ true = is ∙ ap not f in cc
some_by (Some x) none is f = (x, refl)

module _ (sources : Sources) (differ : NamesDiffer sources.lots) where
  module _ (n : ℕ) (key : StampKey) (place : ℕ) (list : List Member) (es : List (StampKey × ℕ)) (turn : IsInTurnOf sources n key place list es) where
    -- the member of the least key is the next
    is_next : next_of (derivation_of sources) list ≡ Some (there sources differ n key place list es turn).0
    is_next =
        let d = derivation_of sources in
        let laws = sources_are_derivations sources differ in
        let good = steps.in_order (world_of d) (world d laws) (taken d n) (sites d n) (reached-sites d n) in
        let m = key-next d (λ k. k.mode) chain_of_key key_cmp (agrees sources.mode) (sites d n) good key place es turn.keys turn.above in
        let whole : erase (sites d n) ≡ list = erase-sites d n ∙ sym turn.list_is in
        let found : next_of d list ≡ Some (erased m.0) = ap (next_of d) (sym whole) ∙ (next-along d (sites d n) ∙ ap (option_of erased) m.4) in
        let here : slice_get list place ≡ Some (erased m.0) = subst (λ l. slice_get l place ≡ Some (erased m.0)) whole (slice_get-map_Some erased (sites d n) place m.0 m.1) in
        let x = there sources differ n key place list es turn in
        found ∙ (sym here ∙ x.1)

    -- and what its expansion told is the step
    pub step-told : (y : Member) (own : List ℕ) (answers : Answers) (r : Result (List Emitted) ShapeFault)
        (outcome : Outcome)
        → y ≡ get_or list place y → own ≡ y.shape.symbol → answers ≡ asked (derivation_of sources) list y.shape
        → r ≡ expand_of sources.grammar y.shape answers → outcome ≡ told_by r
        → IsStepAfter sources n (record { lot = key.lot; path = key.path; symbol = own; answers = answers; outcome = outcome })
    step-told y own answers r outcome is symbol asks gives tells =
        let d = derivation_of sources in
        let x = there sources differ n key place list es turn in
        let same : y ≡ x.0 = reads list place x.0 y x.1 is in
        let made = result sources differ n key place list es turn y answers r is asks gives in
        let final : outcome ≡ (traced sources list x.0.shape).outcome = tells ∙ (sym (told-is x.0.shape r) ∙ ap outcome_of (sym made)) in
        let step : record { lot = key.lot; path = key.path; symbol = own; answers = answers; outcome = outcome } ≡ traced sources list x.0.shape = λ i. record {
          lot = x.3 i;
          path = x.4 i;
          symbol = (symbol ∙ ap (λ (m : Member). m.shape.symbol) same) i;
          answers = (asks ∙ ap (λ (m : Member). asked d list m.shape) same) i;
          outcome = final i;
        } in
        subst (λ l. (m : Member) × (next_of d l ≡ Some m)
        × (record { lot = key.lot; path = key.path; symbol = own; answers = answers; outcome = outcome }
        ≡ traced sources l m.shape)) turn.list_is (x.0, is_next, step)

module _ (sources : Sources) (n : ℕ) (list : List Member) (es : List (StampKey × ℕ)) (at : IsAfter sources n list es) where
  none-waits : (e : List (StampKey × ℕ)) → IsAfter sources n list e → e ≡ [] → NothingWaits (derivation_of sources) list
  none-waits e now empty s h =
      let d = derivation_of sources in
      let has = subst (λ l. IsAfter sources n list l) empty now in
      let w = Has-erased (sites d n) s Waiting (subst (λ l. Has l s Waiting) (has.list_is ∙ sym (erase-sites d n)) h) in
      let i = Has-index (sites d n) w.0 Waiting w.1 in
      (has.keys.waits i.0 i.1 i.2 i.4).1

  -- where no key is left nothing waits
  pub nothing-waits : (0 < length es → ⊥) → NothingWaits (derivation_of sources) (reached (derivation_of sources) n)
  nothing-waits none = subst (NothingWaits (derivation_of sources)) at.list_is (none-waits es at (none-left es none))

  some-waits : (e : List (StampKey × ℕ)) → HasKeys sources (sites (derivation_of sources) n) e → 0 < length e
      → NothingWaits (derivation_of sources) (reached (derivation_of sources) n) → ⊥
  some-waits [] keys some quiet = absurd (omega (arith, some))
  some-waits ((key, place) ∷ e) keys some quiet =
      let d = derivation_of sources in
      let m = (keys.entry key place (inl refl)).1 in
      let here = slice_get-Has (erase (sites d n)) place (erased m.0) (slice_get-map_Some erased (sites d n) place m.0 m.1) in
      quiet (erased m.0).shape (subst (λ l. Has l (erased m.0).shape Waiting) (erase-sites d n) (subst (Has (erase (sites d n)) (erased m.0).shape) m.2 here))

  -- no key is left exactly where nothing waits
  pub over : (length es ≡ 0) ↔ NothingWaits (derivation_of sources) (reached (derivation_of sources) n)
  over = (λ none. nothing-waits (λ some. omega (arith, none, some)), λ quiet. empty es (λ some. some-waits es at.keys some quiet))
    where
      empty : (e : List (StampKey × ℕ)) → (0 < length e → ⊥) → length e ≡ 0
      empty [] none = refl
      empty (x ∷ e) none = absurd (none (omega arith))

  -- and the list is the derivation
  pub ended : NothingWaits (derivation_of sources) (reached (derivation_of sources) n) → (budget : ℕ) → n ≤ budget
      → length list ≤ budget
      → (derive (derivation_of sources) budget ≡ Some list)
      × (expanded_in list ≡ count_by (λ m. not (is_instance m.kind)) list)
  ended quiet budget turned fits = (
    derive-some (derivation_of sources) budget n turned quiet (subst (λ l. length l ≤ budget) at.list_is fits) ∙ ap Some (sym at.list_is),
    expanded-settled list (subst (NothingWaits (derivation_of sources)) (sym at.list_is) quiet),
  )
