-- Lists that rise strictly and have the same members are one, and the run rises by stamps.
use Rattle.std.proofs.Common.{◌≡◌, ℕ, zero, suc, ◌+◌, ◌-◌, ◌<◌, ◌≤◌, List, [], ◌∷◌, ◌++◌, length, refl, sym, ap, ◌∙◌, subst, ◌⊎◌, inl, inr, Option, Some, None, arith}
use Rattle.std.specs.Prelude.{nat_lt}
use Rattle.std.specs.declared.cmp.Ordering.TheVariants.{Less}
use Rattle.std.proofs.lemmas.List.{append-nil}
use Rattle.std.proofs.lemmas.Bool.Decides.{nat_tests}
use Rattle.cga_order.specs.Stamp.{stamp, stamps_cmp}
use Rattle.cga_order.specs.World.{Among, Has}
use Rattle.cga_order.specs.declared.placed.Kind.TheVariants.{Waiting}
use Rattle.cga_order.proofs.Door as ranks
use Rattle.cga_derivation.proofs.Door.{first_of-Has, first_of-passes, rises, settled-reached, waiting_kind}
use Rattle.cga_expand.proofs.Door.{sources_are_derivations}
use Rattle.cga_order.specs.Total.{stamps_total}
use Rattle.std.proofs.lemmas.Bool.{and_parts as both, cases_Bool as either}
use Rattle.cga_derivation.specs.Derivation.{is_next, next_of, reached, expanded, NothingWaits}
use Rattle.cga_derivation.specs.Stamps.{priorities_down, stamp_in, AllEarlier, RisesIn}
use Rattle.cga_shape.specs.declared.shape.Shape.{Shape}
use Rattle.cga_shape.specs.declared.sources.Sources.{Sources}
use Rattle.cga_shape.specs.declared.trace_step.TraceStep.{TraceStep}
use Rattle.cga_expand.specs.Children.{Member}
use Rattle.cga_expand.specs.Derivation.{derivation_of}
use Rattle.cga_expand.specs.Run.{traced, step_of, run_to}
use Rattle.cga_trace.specs.Sorted.{IsTold, stamp_at, Before, BeforeAll, Rise, SortedIsRun}

module _ (sources : Sources) (list : List Member) where
  abbrev B : TraceStep → TraceStep → Type 0
  B = Before sources list

  never : (t : TraceStep) → B t t → ⊥
  never t h = ranks.not_self (stamps_cmp sources.mode) (stamps_total sources.mode) (stamp_at sources list t) h

  never_both : (t u : TraceStep) → B t u → B u t → ⊥
  never_both t u h k = ranks.not_both (stamps_cmp sources.mode) (stamps_total sources.mode) (stamp_at sources list t) (stamp_at sources list u) h k

  all_at : (t : TraceStep) (us : List TraceStep) → BeforeAll sources list t us → (u : TraceStep) → Among u us → B t u
  all_at t [] h u i = absurd i
  all_at t (x ∷ us) h u i = elim i [ inl e ↦ subst (B t) e h.0 | inr r ↦ all_at t us h.1 u r ]

  -- members of the rest
  behind : (x : TraceStep) (xs ys : List TraceStep) → BeforeAll sources list x xs
      → ((t : TraceStep) → Among t (x ∷ xs) → Among t (x ∷ ys)) → (t : TraceStep) → Among t xs → Among t ys
  behind x xs ys before to t i = elim (to t (inr i)) [
    | inl e ↦ absurd (never x (subst (B x) (sym e) (all_at x xs before t i)))
    | inr r ↦ r
  ]

  same_first : (x y : TraceStep) (xs ys : List TraceStep) → BeforeAll sources list x xs → BeforeAll sources list y ys
      → Among x (y ∷ ys) → Among y (x ∷ xs) → x ≡ y
  same_first x y xs ys before after i j = elim i [
    | inl e ↦ sym e
    | inr r ↦ elim j [ inl e ↦ e | inr q ↦ absurd (never_both x y (all_at x xs before y q) (all_at y ys after x r)) ]
  ]

  -- rising lists with the same members are one
  pub one_list : (xs ys : List TraceStep) → Rise sources list xs → Rise sources list ys
      → ((t : TraceStep) → Among t xs → Among t ys) → ((t : TraceStep) → Among t ys → Among t xs) → xs ≡ ys
  one_list [] [] h k to from = refl
  one_list [] (y ∷ ys) h k to from = absurd (from y (inl refl))
  one_list (x ∷ xs) [] h k to from = absurd (to x (inl refl))
  one_list (x ∷ xs) (y ∷ ys) h k to from =
      let e : x ≡ y = same_first x y xs ys h.0 k.0 (to x (inl refl)) (from y (inl refl)) in
      let to' = subst (λ z. (t : TraceStep) → Among t (x ∷ xs) → Among t (z ∷ ys)) (sym e) to in
      let from' = subst (λ z. (t : TraceStep) → Among t (z ∷ ys) → Among t (x ∷ xs)) (sym e) from in
      let k' = subst (λ z. BeforeAll sources list z ys) (sym e) k.0 in
      let rest = one_list xs ys h.1 k.1 (behind x xs ys h.0 to') (behind x ys xs k' from') in
      λ i. e i ∷ rest i

  -- ---- one more at the end

  abbrev AllBefore : List TraceStep → TraceStep → Type 0
  AllBefore [] t = Unit {0}
  AllBefore (x ∷ xs) t = B x t × AllBefore xs t

  all_snoc : (xs : List TraceStep) (x t : TraceStep) → AllBefore xs t → B x t → AllBefore (xs ++ x ∷ []) t
  all_snoc [] x t h b = (b, tt)
  all_snoc (y ∷ xs) x t h b = (h.0, all_snoc xs x t h.1 b)

  before_snoc : (x : TraceStep) (xs : List TraceStep) (t : TraceStep) → BeforeAll sources list x xs → B x t
      → BeforeAll sources list x (xs ++ t ∷ [])
  before_snoc x [] t h b = (b, tt)
  before_snoc x (y ∷ xs) t h b = (h.0, before_snoc x xs t h.1 b)

  rise_snoc : (xs : List TraceStep) (t : TraceStep) → Rise sources list xs → AllBefore xs t
      → Rise sources list (xs ++ t ∷ [])
  rise_snoc [] t h b = (tt, tt)
  rise_snoc (x ∷ xs) t h b = (before_snoc x xs t h.0 b.0, rise_snoc xs t h.1 b.1)

  abbrev next : ℕ → Option Member
  next n = next_of (derivation_of sources) (reached (derivation_of sources) n)

  none_more : (n : ℕ) → next n ≡ None → run_to sources (suc n) ≡ run_to sources n
  unfolding run_to
  none_more n e = ap (λ o. run_to sources n ++ step_of sources (reached (derivation_of sources) n) o) e ∙ append-nil (run_to sources n)

  one_more : (n : ℕ) (m : Member) → next n ≡ Some m
      → run_to sources (suc n) ≡ run_to sources n ++ traced sources (reached (derivation_of sources) n) m.shape ∷ []
  unfolding run_to
  one_more n m e = ap (λ o. run_to sources n ++ step_of sources (reached (derivation_of sources) n) o) e

  none_taken : (n : ℕ) → next n ≡ None → expanded (derivation_of sources) (suc n) ≡ expanded (derivation_of sources) n
  unfolding expanded
  none_taken n e = rw e refl

  one_taken : (n : ℕ) (m : Member) → next n ≡ Some m
      → expanded (derivation_of sources) (suc n) ≡ m.shape ∷ expanded (derivation_of sources) n
  unfolding expanded
  one_taken n m e = rw e refl

  run_none : run_to sources 0 ≡ []
  unfolding run_to
  run_none = refl

  -- each step of the run is before a shape that comes after all that were taken
  each_before : (s : Shape) (t : TraceStep) → stamp_at sources list t ≡ stamp_in (derivation_of sources) list s
      → (n : ℕ) → AllEarlier (derivation_of sources) list s (expanded (derivation_of sources) n)
      → AllBefore (run_to sources n) t
  each_before s t at zero h = subst (λ l. AllBefore l t) (sym run_none) tt
  each_before s t at (suc n) h = by (each_before s t at n) (next n) refl
    where
      by : (AllEarlier (derivation_of sources) list s (expanded (derivation_of sources) n)
          → AllBefore (run_to sources n) t)
          → (o : Option Member) → next n ≡ o → AllBefore (run_to sources (suc n)) t
      by known None e = subst (λ l. AllBefore l t) (sym (none_more n e)) (known (subst (AllEarlier (derivation_of sources) list s) (none_taken n e) h))
      by known (Some m) e =
          let all = subst (AllEarlier (derivation_of sources) list s) (one_taken n m e) h in
          let first : B (traced sources (reached (derivation_of sources) n) m.shape) t = ap (stamps_cmp sources.mode (stamp_in (derivation_of sources) list m.shape)) at ∙ all.0 in
          subst (λ l. AllBefore l t) (sym (one_more n m e)) (all_snoc (run_to sources n) (traced sources (reached (derivation_of sources) n) m.shape) t (known all.1) first)

  run_rises : (n : ℕ) → RisesIn (derivation_of sources) list (expanded (derivation_of sources) n)
      → Rise sources list (run_to sources n)
  run_rises zero h = subst (Rise sources list) (sym run_none) tt
  run_rises (suc n) h = by (run_rises n) (next n) refl
    where
      by : (RisesIn (derivation_of sources) list (expanded (derivation_of sources) n)
          → Rise sources list (run_to sources n))
          → (o : Option Member) → next n ≡ o → Rise sources list (run_to sources (suc n))
      by known None e = subst (Rise sources list) (sym (none_more n e)) (known (subst (RisesIn (derivation_of sources) list) (none_taken n e) h))
      by known (Some m) e =
          let all = subst (RisesIn (derivation_of sources) list) (one_taken n m e) h in
          let t = traced sources (reached (derivation_of sources) n) m.shape in
          subst (Rise sources list) (sym (one_more n m e)) (rise_snoc (run_to sources n) t (known all.1) (each_before m.shape t refl n all.0))

module _ (sources : Sources) where
  among_left : (xs ys : List TraceStep) (t : TraceStep) → Among t xs → Among t (xs ++ ys)
  among_left [] ys t i = absurd i
  among_left (x ∷ xs) ys t i = elim i [ inl e ↦ inl e | inr r ↦ inr (among_left xs ys t r) ]

  among_last : (xs : List TraceStep) (t : TraceStep) → Among t (xs ++ t ∷ [])
  among_last [] t = inl refl
  among_last (x ∷ xs) t = inr (among_last xs t)

  among_snoc : (xs : List TraceStep) (x t : TraceStep) → Among t (xs ++ x ∷ []) → Among t xs ⊎ (x ≡ t)
  among_snoc [] x t i = elim i [ inl e ↦ inr e | inr r ↦ absurd r ]
  among_snoc (y ∷ xs) x t i = elim i [ inl e ↦ inl (inl e) | inr r ↦ elim (among_snoc xs x t r) [ inl l ↦ inl (inr l) | inr e ↦ inr e ] ]

  -- each step of the run is told of a turn
  told_in : (n : ℕ) (t : TraceStep) → Among t (run_to sources n) → (k : ℕ) × IsTold sources k t
  told_in zero t i = absurd (subst (Among t) (run_none sources []) i)
  told_in (suc n) t i = by (told_in n t) (next_of (derivation_of sources) (reached (derivation_of sources) n)) refl
    where
      by : (Among t (run_to sources n) → (k : ℕ) × IsTold sources k t) → (o : Option Member)
          → next_of (derivation_of sources) (reached (derivation_of sources) n) ≡ o → (k : ℕ) × IsTold sources k t
      by known None e = known (subst (Among t) (none_more sources [] n e) i)
      by known (Some m) e = elim (among_snoc (run_to sources n) (traced sources (reached (derivation_of sources) n) m.shape) t (subst (Among t) (one_more sources [] n m e) i)) [
        | inl l ↦ known l
        | inr same ↦ (n, (m, e, sym same))
      ]

  goes_on : (n k : ℕ) (t : TraceStep) → Among t (run_to sources n) → Among t (run_to sources (k + n))
  goes_on n zero t i = let e : 0 + n ≡ n = omega arith in subst (λ j. Among t (run_to sources j)) (sym e) i
  goes_on n (suc k) t i =
      let e : suc k + n ≡ suc (k + n) = omega arith in
      subst (λ j. Among t (run_to sources j)) (sym e) (by (goes_on n k t i) (next_of (derivation_of sources) (reached (derivation_of sources) (k + n))) refl)
    where
      by : Among t (run_to sources (k + n)) → (o : Option Member)
          → next_of (derivation_of sources) (reached (derivation_of sources) (k + n)) ≡ o
          → Among t (run_to sources (suc (k + n)))
      by known None f = subst (Among t) (sym (none_more sources [] (k + n) f)) known
      by known (Some m) f = subst (Among t) (sym (one_more sources [] (k + n) m f)) (among_left (run_to sources (k + n)) _ t known)

  module _ (end : ℕ) (quiet : NothingWaits (derivation_of sources) (reached (derivation_of sources) end)) where
    -- a turn after which nothing waits tells nothing
    pub early : (n : ℕ) (m : Member) → next_of (derivation_of sources) (reached (derivation_of sources) n) ≡ Some m
        → n < end
    early n m e = elim (either (nat_lt n end)) [
      | inl t ↦ grind (arith, nat_tests)
      | inr t ↦
          let ge : end ≤ n = grind (arith, nat_tests) in
          let gap : (n - end) + end ≡ n = omega arith in
          let same = ap (reached (derivation_of sources)) (sym gap) ∙ settled-reached (derivation_of sources) end (n - end) quiet in
          let list = reached (derivation_of sources) n in
          let kind = waiting_kind m.kind (both _ _ (first_of-passes (is_next (derivation_of sources) list) list m e)).0 in
          absurd (quiet m.shape (subst (λ l. Has l m.shape Waiting) same (subst (Has list m.shape) kind (first_of-Has (is_next (derivation_of sources) list) list m e))))
    ]

    -- what is told of a turn is in the run
    told_is_in : (n : ℕ) (t : TraceStep) → IsTold sources n t → Among t (run_to sources end)
    told_is_in n t (m, e, is) =
        let lt = early n m e in
        let gap : (end - suc n) + suc n ≡ end = omega (arith, lt) in
        let here : Among t (run_to sources (suc n)) = subst (Among t) (sym (one_more sources [] n m e))
        (subst (λ x. Among x (run_to sources n ++ traced sources (reached (derivation_of sources) n) m.shape
        ∷ [])) (sym is) (among_last (run_to sources n) (traced sources (reached (derivation_of sources) n) m.shape))) in
        subst (λ j. Among t (run_to sources j)) gap (goes_on (suc n) (end - suc n) t here)

  -- steps of one place in a rising list are one
  among_one : (list : List Member) (xs : List TraceStep) → Rise sources list xs → (t u : TraceStep) → Among t xs
      → Among u xs → t.lot ≡ u.lot → t.path ≡ u.path → t ≡ u
  among_one list [] h t u i j lot path = absurd i
  among_one list (x ∷ xs) h t u i j lot path = elim i [
    | inl e ↦ elim j [
      | inl f ↦ sym e ∙ f
      | inr q ↦ absurd (apart x u (all_at sources list x xs h.0 u q) (ap (λ (s : TraceStep). s.lot) e ∙ lot) (ap (λ (s : TraceStep). s.path) e ∙ path))
    ]
    | inr r ↦ elim j [
      | inl f ↦ absurd (apart x t (all_at sources list x xs h.0 t r) (ap (λ (s : TraceStep). s.lot) f ∙ sym lot) (ap (λ (s : TraceStep). s.path) f ∙ sym path))
      | inr q ↦ among_one list xs h.1 t u r q lot path
    ]
  ]
    where
      apart : (a b : TraceStep) → Before sources list a b → a.lot ≡ b.lot → a.path ≡ b.path → ⊥
      apart a b before lots paths =
          let same : stamp_at sources list a ≡ stamp_at sources list b = λ k. stamp sources.mode
          (record {
            lot = lots k;
            path = paths k;
            priorities = priorities_down (derivation_of sources) list
                (lots k) (paths k) (suc (length (paths k)));
          }) in
          never sources list b (subst (λ r. stamps_cmp sources.mode r (stamp_at sources list b) ≡ Less) same before)

pub sorted_is_run : SortedIsRun
sorted_is_run sources differ end quiet steps each all rising =
    let list = reached (derivation_of sources) end in
    let run = run_rises sources list end (rises (derivation_of sources) (sources_are_derivations sources differ) end) in (
      end,
      quiet,
      one_list sources list steps (run_to sources end) rising run (λ t i. let k = each t i in
          told_is_in sources end quiet k.0 t k.1) (λ t i. let k = told_in sources end t i in let u = all k.0 t k.1 in
          let w = each u.0 u.1 in subst (λ x. Among x steps) (among_one sources list (run_to sources end) run u.0 t
          (told_is_in sources end quiet w.0 u.0 w.1) i u.2 u.3) u.1),
    )
