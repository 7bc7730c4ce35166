-- The budget over ranked shapes, derivations from no lots, and children that keep their priorities.
use Rattle.std.proofs.Common.{◌≡◌, ℕ, ◌≤◌, List, [], ◌∷◌, ◌++◌, map, length, false, refl, sym, ap, ◌∙◌, subst, inl, inr, Result, Ok, Err, Option, Some, None, arith}
use Rattle.cga_order.specs.World.{World, Has, is_instance}
use Rattle.cga_order.specs.declared.placed.Placed.{Placed}
use Rattle.cga_order.specs.declared.placed.Kind.{Kind}
use Rattle.cga_order.specs.declared.placed.Kind.TheVariants.{Waiting, Done, Faulted, Instance}
use Rattle.cga_order.specs.Consistent.{AllBefore}
use Rattle.cga_order.specs.Run.{Reached}
use Rattle.cga_agenda.proofs.Door.{Among-Has, Has-Among, once-reached}
use Rattle.cga_derivation.proofs.Door.{Says, says}
use Rattle.cga_fraction.proofs.Door.{length-map}
use Rattle.cga_order.proofs.Door.{consistent-reached, has_members, length-once}
use Rattle.cga_agenda.specs.Edit.{NonInstance, renewed}
use Rattle.cga_rework.specs.Ranked.{Ranked, placed_as, placed, all_placed, chain_of, edit_of, ranked_world, unranked}
use Rattle.cga_agenda.specs.Known.{shapes_of, IsOverBudget}
use Rattle.cga_derivation.specs.Derivation.{Derivation, IsDerivation, reached, derive, NothingWaits, IsDerived}
use Rattle.cga_rework.specs.Rules.{Shapes, Rules, IsRulesEdit, derivation_of, shapes_from, rules_from, no_lots}
use Rattle.cga_rework.specs.Touched.{Kept, Touched}
use Rattle.cga_rework.proofs.Worlds.{is_world, outcome}
use Rattle.cga_rework.proofs.Runs.{ranked_run}
use Rattle.cga_rework.proofs.Touched.{quiet}
use Rattle.cga_rework.proofs.Budget.{derived_or_none}
use Rattle.cga_rework.proofs.End.{once_roots}

module _ {S A B F P : Type 0} (shapes : Shapes S) where
  module _ (rules : Rules S A B F P) (are : IsDerivation (derivation_of shapes rules)) where
    abbrev world : World (Ranked S) A F P
    world = ranked_world shapes rules

    all-before : (taken : List (Ranked S)) → AllBefore world None taken
    all-before [] = tt
    all-before (s ∷ taken) = (tt, all-before taken)

    no_more : (j : ℕ) → NothingWaits (derivation_of shapes rules) (reached (derivation_of shapes rules) j)
        → (taken : List (Ranked S)) (C : List (Placed (Ranked S) F P)) → Reached world taken C
        → length C ≤ length (reached (derivation_of shapes rules) j)
    no_more j settled taken C run =
        let w = ranked_run shapes rules are j in
        let laws = is_world shapes rules are in
        let con = consistent-reached world laws w.0 w.1 w.2 (quiet shapes rules are j settled w) in
        let has = has_members world laws None w.1 con taken C run (all-before taken) in
        let bound = length-once (shapes_of C) (shapes_of w.1) (once-reached world laws taken C run (once_roots shapes rules are)) (λ m i.
        let g = Among-Has C m i in
        let h = has m g.0 g.1 in
        Has-Among w.1 m h.0 h.1) in
        let size : length w.1 ≡ length (reached (derivation_of shapes rules) j) = sym (length-map unranked w.1) ∙ ap length w.3 in
        omega (arith, bound, length-map (λ m. m.shape) C, length-map (λ m. m.shape) w.1, size)

    -- where a configuration of ranked shapes is over the budget, the derivation gives none
    pub over_none : (budget : ℕ) → IsOverBudget world budget → derive (derivation_of shapes rules) budget ≡ None
    over_none budget (taken, C, run, lt) = elim (derived_or_none (derivation_of shapes rules) are budget) [
      | inl none ↦ none
      | inr (all, (j, settled)) ↦
          let le = no_more j settled taken C run in
          let most = all j in
          absurd (omega (arith, le, most, lt))
    ]

    -- where the derivation gives none, a configuration of ranked shapes is over the budget
    pub none_over : (budget : ℕ) → derive (derivation_of shapes rules) budget ≡ None → IsOverBudget world budget
    none_over budget none =
        let h : Says (derivation_of shapes rules) are budget None = subst (Says (derivation_of shapes rules) are budget) none (says (derivation_of shapes rules) are budget) in
        let w = ranked_run shapes rules are h.0 in
        let size : length w.1 ≡ length (reached (derivation_of shapes rules) h.0) = sym (length-map unranked w.1) ∙ ap length w.3 in
        (w.0, w.1, w.2, (let more = h.1 in omega (arith, more, size)))

  module _ (new : Rules S A B F P) (are : IsDerivation (derivation_of shapes new)) where
    nothing_is : IsRulesEdit shapes (no_lots new) new
    nothing_is = record {
      was = record {
        root = λ n h. absurd h;
        roots_apart = λ i j n m e f p. let x : ◌≡◌ {A = Option S} None (Some n) = e in cc;
        child = are.child;
        unseen = are.unseen;
        local = are.local;
      };
      is = are;
      answers = λ s xs ws e. refl;
      outcome = λ s a e. refl;
    }

    nothing_derived : IsDerived (derivation_of shapes (no_lots new)) []
    unfolding reached
    nothing_derived = (0, refl, λ s h. h)

    never_kept : (after : List (Placed S F P)) (s : S) → Kept shapes (no_lots new) new [] after s → ⊥
    never_kept after s kept = (kept 0 (omega arith)).3.1

    pub from_nothing : IsRulesEdit shapes (no_lots new) new × IsDerived (derivation_of shapes (no_lots new)) []
        × ((after : List (Placed S F P)) (s : S)
        → (Touched shapes (no_lots new) new [] after s → NonInstance after s)
        × (NonInstance after s → Touched shapes (no_lots new) new [] after s))
    from_nothing = (nothing_is, nothing_derived, λ after s. ((λ t. t.0), λ n. (n, inl (never_kept after s))))

  module _ (old new : Rules S A B F P) where
    same_placed : (above : List ℕ) (s : S) (k : Kind F P) → (is_instance k ≡ false → old.priority s ≡ new.priority s)
        → placed_as new.priority above s k ≡ placed_as old.priority above s k
    same_placed above s Waiting e = ap (λ p. record { shape = record { shape = s; priorities = above ++ p ∷ [] }; kind = Waiting }) (sym (e refl))
    same_placed above s Done e = ap (λ p. record { shape = record { shape = s; priorities = above ++ p ∷ [] }; kind = Done }) (sym (e refl))
    same_placed above s (Faulted f) e = ap (λ p. record { shape = record { shape = s; priorities = above ++ p ∷ [] }; kind = Faulted f }) (sym (e refl))
    same_placed above s (Instance p) e = refl

    same_all : (above : List ℕ) (cs : List (Placed S F P))
        → ((c : S) (k : Kind F P) → Has cs c k → is_instance k ≡ false → old.priority c ≡ new.priority c)
        → map (placed new.priority above) cs ≡ map (placed old.priority above) cs
    same_all above [] h = refl
    same_all above (c ∷ cs) h = λ i. same_placed above c.shape c.kind (h c.shape c.kind (inl (refl, refl))) i ∷ same_all above cs (λ x k g. h x k (inr g)) i

    same_result : (above : List ℕ) (r : Result (List (Placed S F P)) F)
        → ((cs : List (Placed S F P)) → r ≡ Ok cs → (c : S) (k : Kind F P) → Has cs c k → is_instance k ≡ false
        → old.priority c ≡ new.priority c)
        → all_placed new.priority above r ≡ all_placed old.priority above r
    same_result above (Ok cs) h = ap Ok (same_all above cs (h cs refl))
    same_result above (Err f) h = refl

    -- where each child but instances has its old priority, renewing the children changes nothing
    pub unchanged : (n : Ranked S) (a : A)
        → ((cs : List (Placed S F P)) → old.expand n.shape a ≡ Ok cs → (c : S) (k : Kind F P) → Has cs c k
        → is_instance k ≡ false → old.priority c ≡ new.priority c)
        → renewed (edit_of shapes old new).renew
        (all_placed old.priority (chain_of shapes n).priorities (old.expand n.shape a)) ≡ all_placed old.priority
        (chain_of shapes n).priorities (old.expand n.shape a)
    unchanged n a h = sym (outcome shapes old new (chain_of shapes n).priorities (old.expand n.shape a)) ∙ same_result (chain_of shapes n).priorities (old.expand n.shape a) h

pub derivations_rules : {S A B F P : Type 0} (old new : Derivation S A F P) (setting : S → B) → old.mode ≡ new.mode
    → old.lot ≡ new.lot → old.path ≡ new.path
    → (derivation_of (shapes_from old) (rules_from old setting) ≡ old)
    × (derivation_of (shapes_from old) (rules_from new setting) ≡ new)
derivations_rules old new setting mode lot path = (
  refl,
  λ i. record {
    mode = mode i;
    lot = lot i;
    path = path i;
    priority = new.priority;
    roots = new.roots;
    sees = new.sees;
    answers = new.answers;
    expand = new.expand;
  },
)
