-- How the run grows with the turns, and where it ends.
use Rattle.std.proofs.Common.{◌≡◌, ℕ, zero, suc, ◌+◌, ◌-◌, ◌<◌, ◌≤◌, List, [], ◌∷◌, ◌++◌, length, take, refl, sym, ap}
use Rattle.std.proofs.Common.{◌∙◌, subst, inl, inr, Option, Some, None, true, false, get_or, arith, length-append}
use Rattle.std.specs.Prelude.{slice_get, nat_lt, IsSome, MatchOption}
use Rattle.std.proofs.lemmas.List.{append-nil}
use Rattle.std.proofs.lemmas.Bool.Decides.{nat_tests}
use Rattle.cga_order.specs.World.{Has}
use Rattle.cga_derivation.proofs.Door.{derive-some, first_of-Has, first_of-passes, says, settled-reached, waiting_kind}
use Rattle.cga_expand.proofs.Door.{sources_are_derivations}
use Rattle.cga_fraction.proofs.Door.{None-not-Some as none_some, same_Some as some_same}
use Rattle.std.proofs.Common.{append_assoc as append_assoc_one}
use Rattle.std.proofs.lemmas.Bool.{and_parts as both, cases_Bool as either}
use Rattle.cga_derivation.specs.Derivation.{derive, is_next, next_of, reached, step, step_by, NothingWaits}
use Rattle.cga_shape.specs.declared.sources.Sources.{Sources}
use Rattle.cga_shape.specs.declared.trace_step.TraceStep.{TraceStep}
use Rattle.cga_expand.specs.Children.{Member}
use Rattle.cga_expand.specs.Derivation.{derivation_of, NamesDiffer}
use Rattle.cga_expand.specs.Run.{traced, step_of, run_to, IsRun}
use Rattle.cga_derive.specs.Underway.{IsStepAfter}
use Rattle.cga_judge.specs.Judged.{DifferFirstAt}
pub use Rattle.std.proofs.lemmas.Option.{slice_get_past as get-end}
pub use Rattle.cga_fraction.proofs.Door.{Some_from_IsSome as some_of, slice_get_from_get_or as get-there, take-all as take-end}

-- ---- lists

take-append : {X : Type 0} (xs ys : List X) → take (length xs) (xs ++ ys) ≡ xs
take-append [] [] = refl
take-append [] (y ∷ ys) = refl
take-append (x ∷ xs) ys = ap (λ l. x ∷ l) (take-append xs ys)

get-append : {X : Type 0} (xs ys : List X) (y : X) → slice_get (xs ++ y ∷ ys) (length xs) ≡ Some y
get-append [] ys y = refl
get-append (x ∷ xs) ys y = get-append xs ys y

length-take : {X : Type 0} (xs : List X) (i : ℕ) → i ≤ length xs → length (take i xs) ≡ i
length-take [] zero h = refl
length-take [] (suc i) h = absurd (omega (arith, h))
length-take (x ∷ xs) zero h = refl
length-take (x ∷ xs) (suc i) h = ap suc (length-take xs i (omega (arith, h)))

-- one more
pub take-more : {X : Type 0} (xs : List X) (i : ℕ) (x : X) → slice_get xs i ≡ Some x
    → take (suc i) xs ≡ take i xs ++ x ∷ []
take-more [] i x e = none_some x e
take-more (y ∷ xs) zero x e = ap (λ z. z ∷ []) (some_same y x e)
take-more (y ∷ xs) (suc i) x e = ap (λ l. y ∷ l) (take-more xs i x e)

pub some_apart : {X : Type 0} (x : X) (o : Option X) → o ≡ None → o ≡ Some x → ⊥
some_apart x o e f = let q : ◌≡◌ {A = Option _} None (Some x) = sym e ∙ f in cc

module _ (sources : Sources) where
  -- nothing is next where nothing waits
  waits-next : (n : ℕ) (m : Member) → next_of (derivation_of sources) (reached (derivation_of sources) n) ≡ Some m
      → NothingWaits (derivation_of sources) (reached (derivation_of sources) n) → ⊥
  waits-next n m e quiet =
      let list = reached (derivation_of sources) n in
      let kind = waiting_kind m.kind (both _ _ (first_of-passes (is_next (derivation_of sources) list) list m e)).0 in
      quiet m.shape (subst (Has list m.shape) kind (first_of-Has (is_next (derivation_of sources) list) list m e))

  none-next : (n : ℕ) → NothingWaits (derivation_of sources) (reached (derivation_of sources) n)
      → next_of (derivation_of sources) (reached (derivation_of sources) n) ≡ None
  none-next n quiet = by (next_of (derivation_of sources) (reached (derivation_of sources) n)) refl
    where
      by : (o : Option Member) → next_of (derivation_of sources) (reached (derivation_of sources) n) ≡ o → o ≡ None
      by None e = refl
      by (Some m) e = absurd (waits-next n m e quiet)

  -- what more turns add
  run-more : (n k : ℕ) → (rest : List TraceStep) × (run_to sources (k + n) ≡ run_to sources n ++ rest)
  unfolding run_to
  run-more n zero = let e : 0 + n ≡ n = omega arith in ([], ap (run_to sources) e ∙ sym (append-nil (run_to sources n)))
  run-more n (suc k) =
      let e : suc k + n ≡ suc (k + n) = omega arith in
      let before = run-more n k in
      let step = step_of sources (reached (derivation_of sources) (k + n)) (next_of (derivation_of sources) (reached (derivation_of sources) (k + n))) in
      (before.0 ++ step, ap (run_to sources) e ∙ (ap (λ l. l ++ step) before.1 ∙ append_assoc_one (run_to sources n) before.0 step))

  -- no turn adds a step where nothing waits
  run-settled : (n k : ℕ) → NothingWaits (derivation_of sources) (reached (derivation_of sources) n)
      → run_to sources (k + n) ≡ run_to sources n
  unfolding run_to
  run-settled n zero quiet = let e : 0 + n ≡ n = omega arith in ap (run_to sources) e
  run-settled n (suc k) quiet =
      let e : suc k + n ≡ suc (k + n) = omega arith in
      let still = subst (NothingWaits (derivation_of sources)) (sym (settled-reached (derivation_of sources) n k quiet)) quiet in
      ap (run_to sources) e ∙ (ap (λ o. run_to sources (k + n)
      ++ step_of sources (reached (derivation_of sources) (k + n)) o) (none-next (k + n) still)
      ∙ (append-nil (run_to sources (k + n)) ∙ run-settled n k quiet))

  -- the turn after n turns adds its step
  pub run-next : (n : ℕ) (m : Member) → next_of (derivation_of sources) (reached (derivation_of sources) n) ≡ Some m
      → run_to sources (suc n) ≡ run_to sources n ++ traced sources (reached (derivation_of sources) n) m.shape ∷ []
  unfolding run_to
  run-next n m e = ap (λ o. run_to sources n ++ step_of sources (reached (derivation_of sources) n) o) e

  pub run-step : (n : ℕ) (step : TraceStep) → IsStepAfter sources n step
      → run_to sources (suc n) ≡ run_to sources n ++ step ∷ []
  run-step n step (m, e, is) = run-next n m e ∙ ap (λ s. run_to sources n ++ s ∷ []) (sym is)

  pub run-begins : (steps : List TraceStep) → run_to sources 0 ≡ take 0 steps
  unfolding run_to
  run-begins [] = refl
  run-begins (x ∷ steps) = refl

  -- sources have one run
  pub one : (n m : ℕ) → NothingWaits (derivation_of sources) (reached (derivation_of sources) n)
      → NothingWaits (derivation_of sources) (reached (derivation_of sources) m) → run_to sources n ≡ run_to sources m
  one n m quiet_n quiet_m = elim (either (nat_lt n m)) [
    | inl t ↦
        let lt : n < m = grind (arith, nat_tests) in
        let gap : (m - n) + n ≡ m = omega arith in
        sym (run-settled n (m - n) quiet_n) ∙ ap (run_to sources) gap
    | inr t ↦
        let ge : m ≤ n = grind (arith, nat_tests) in
        let gap : (n - m) + m ≡ n = omega arith in
        sym (sym (run-settled m (n - m) quiet_m) ∙ ap (run_to sources) gap)
  ]

  -- something waits before the end
  before-end : (n end : ℕ) → (NothingWaits (derivation_of sources) (reached (derivation_of sources) n) → ⊥)
      → NothingWaits (derivation_of sources) (reached (derivation_of sources) end) → n < end
  before-end n end waits quiet = elim (either (nat_lt n end)) [
    | inl t ↦ grind (arith, nat_tests)
    | inr t ↦
        let ge : end ≤ n = grind (arith, nat_tests) in
        let gap : (n - end) + end ≡ n = omega arith in
        absurd (waits (subst (NothingWaits (derivation_of sources)) (sym (ap (reached (derivation_of sources)) (sym gap) ∙ settled-reached (derivation_of sources) end (n - end) quiet)) quiet))
  ]

  -- where something is next the end is later
  pub later : (n end : ℕ)
      → (m : Member) × (next_of (derivation_of sources) (reached (derivation_of sources) n) ≡ Some m)
      → NothingWaits (derivation_of sources) (reached (derivation_of sources) end) → n < end
  later n end (m, e) = before-end n end (waits-next n m e)

  -- where nothing is next the list stays
  stuck : (n k : ℕ) → next_of (derivation_of sources) (reached (derivation_of sources) n) ≡ None
      → reached (derivation_of sources) (k + n) ≡ reached (derivation_of sources) n
  unfolding reached step
  stuck n zero e = let z : 0 + n ≡ n = omega arith in ap (reached (derivation_of sources)) z
  stuck n (suc k) e =
      let z : suc k + n ≡ suc (k + n) = omega arith in
      ap (reached (derivation_of sources)) z ∙ (ap (step (derivation_of sources)) (stuck n k e) ∙ ap (step_by (derivation_of sources) (reached (derivation_of sources) n)) e)

  -- a member is next where something waits
  pub next-there : (n end : ℕ) → (NothingWaits (derivation_of sources) (reached (derivation_of sources) n) → ⊥)
      → NothingWaits (derivation_of sources) (reached (derivation_of sources) end)
      → (m : Member) × (next_of (derivation_of sources) (reached (derivation_of sources) n) ≡ Some m)
  next-there n end waits quiet = by (next_of (derivation_of sources) (reached (derivation_of sources) n)) refl
    where
      by : (o : Option Member) → next_of (derivation_of sources) (reached (derivation_of sources) n) ≡ o
          → (m : Member) × (next_of (derivation_of sources) (reached (derivation_of sources) n) ≡ Some m)
      by (Some m) e = (m, e)
      by None e =
          let lt = before-end n end waits quiet in
          let gap : (end - n) + n ≡ end = omega (arith, lt) in
          let same = ap (reached (derivation_of sources)) (sym gap) ∙ stuck n (end - n) e in
          absurd (waits (subst (NothingWaits (derivation_of sources)) same quiet))

  module _ (steps : List TraceStep) (i : ℕ) (along : run_to sources i ≡ take i steps) (within : i ≤ length steps) where
    long : length (run_to sources i) ≡ i
    long = ap length along ∙ length-take steps i within

    -- nothing waits: the run has ended
    pub run-ended : NothingWaits (derivation_of sources) (reached (derivation_of sources) i) → i < length steps
        → (run : List TraceStep) × IsRun sources run × DifferFirstAt run steps (suc i)
    run-ended quiet more = (
      run_to sources i,
      (i, quiet, refl),
      (
        i,
        refl,
        take-end (run_to sources i) i (subst (λ n. n ≤ i) (sym long) (omega arith))
            ∙ along,
        λ same. there steps i more (sym same ∙ get-end (run_to sources i) i (subst (λ n. n ≤ i) (sym long) (omega arith))),
      ),
    )
      where
        there : {X : Type 0} (xs : List X) (j : ℕ) → j < length xs → slice_get xs j ≡ None → ⊥
        there [] j h e = omega (arith, h)
        there (x ∷ xs) zero h e = some_apart x (Some x) e refl
        there (x ∷ xs) (suc j) h e = there xs j (omega (arith, h)) e

    module _ (end : ℕ) (quiet : NothingWaits (derivation_of sources) (reached (derivation_of sources) end)) where
      -- a step comes, which is the run's
      pub run-goes : (step : TraceStep) → IsStepAfter sources i step → (slice_get steps i ≡ Some step → ⊥)
          → (run : List TraceStep) × IsRun sources run × DifferFirstAt run steps (suc i)
      run-goes step is differ =
          let lt = later i end (is.0, is.1) quiet in
          let gap : (end - suc i) + suc i ≡ end = omega (arith, lt) in
          let more = run-more (suc i) (end - suc i) in
          let whole : run_to sources end ≡ run_to sources i ++ step ∷ more.0 = ap (run_to sources) (sym gap)
          ∙ (more.1 ∙ (ap (λ l. l ++ more.0) (run-step i step is) ∙ append_assoc_one (run_to sources i) (step ∷ []) more.0)) in
          let same : take i (run_to sources end) ≡ run_to sources i = ap (take i) whole
          ∙ (ap (λ n. take n (run_to sources i ++ step ∷ more.0)) (sym long) ∙ take-append (run_to sources i) (step ∷ more.0)) in
          let here : slice_get (run_to sources end) i ≡ Some step = ap (λ l. slice_get l i) whole
          ∙ (ap (slice_get (run_to sources i ++ step ∷ more.0)) (sym long) ∙ get-append (run_to sources i) more.0 step) in
          (run_to sources end, (end, quiet, refl), (i, refl, same ∙ along, λ eq. differ (sym eq ∙ here)))

-- a derivation within a budget ends after at most so many turns
pub ends_by : (sources : Sources) → NamesDiffer sources.lots → (budget : ℕ) (list : List Member)
    → derive (derivation_of sources) budget ≡ Some list
    → (n : ℕ) × (n ≤ budget) × NothingWaits (derivation_of sources) (reached (derivation_of sources) n)
ends_by sources differ budget list e =
    let h = subst (λ o. MatchOption o ((n : ℕ) × (budget < length (reached (derivation_of sources) n)))
    (λ l. ((m : ℕ) → length (reached (derivation_of sources) m) ≤ budget)
    × ((n : ℕ) × (n ≤ budget) × (l ≡ reached (derivation_of sources) n) × NothingWaits (derivation_of sources)
    l))) e (says (derivation_of sources) (sources_are_derivations sources differ) budget) in
    (h.1.0, h.1.1, subst (NothingWaits (derivation_of sources)) h.1.2 h.1.3)

-- after as many turns as a budget
pub ended_by : (sources : Sources) → NamesDiffer sources.lots → (budget : ℕ)
    → IsSome (derive (derivation_of sources) budget) → IsRun sources (run_to sources budget)
ended_by sources differ budget within =
    let list = some_of (derive (derivation_of sources) budget) within in
    let end = ends_by sources differ budget list.0 list.1 in
    let gap : (budget - end.0) + end.0 ≡ budget = omega (arith, end.1) in
    let same = ap (reached (derivation_of sources)) (sym gap) ∙ settled-reached (derivation_of sources) end.0 (budget - end.0) end.2 in
    (budget, subst (NothingWaits (derivation_of sources)) (sym same) end.2, refl)

-- so that each run is this one
pub run_is : (sources : Sources) → NamesDiffer sources.lots → (budget : ℕ)
    → IsSome (derive (derivation_of sources) budget) → (steps : List TraceStep) → IsRun sources steps
    → steps ≡ run_to sources budget
run_is sources differ budget within steps (n, quiet, is) =
    let end = ended_by sources differ budget within in
    is ∙ (one sources n end.0 quiet end.1 ∙ sym end.2)

-- what is within a budget is within a greater one
pub within_more : (sources : Sources) → NamesDiffer sources.lots → (budget most : ℕ)
    → IsSome (derive (derivation_of sources) budget) → budget ≤ most → IsSome (derive (derivation_of sources) most)
within_more sources differ budget most within less =
    let d = derivation_of sources in
    let list = some_of (derive d budget) within in
    let h = subst (λ o. MatchOption o ((n : ℕ) × (budget < length (reached d n)))
    (λ l. ((m : ℕ) → length (reached d m) ≤ budget)
    × ((n : ℕ) × (n ≤ budget) × (l ≡ reached d n) × NothingWaits d l))) list.1 (says d (sources_are_derivations sources differ) budget) in
    let few = h.0 h.1.0 in
    let is = derive-some d most h.1.0 (omega (arith, h.1.1, less)) (subst (NothingWaits d) h.1.2 h.1.3) (omega (arith, few, less)) in
    subst (λ o. IsSome o) (sym is) refl

-- no more steps than turns
pub run_short : (sources : Sources) (n : ℕ) → length (run_to sources n) ≤ n
unfolding run_to
run_short sources zero = omega arith
run_short sources (suc n) =
    let before = run_short sources n in
    let next = next_of (derivation_of sources) (reached (derivation_of sources) n) in
    let added = by next in
    let long = length-append (run_to sources n) (step_of sources (reached (derivation_of sources) n) next) in
    omega (arith, before, added, long)
  where
    by : (o : Option Member) → length (step_of sources (reached (derivation_of sources) n) o) ≤ 1
    by None = omega arith
    by (Some m) = omega arith
