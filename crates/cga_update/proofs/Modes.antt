-- From one mode to another: what comes of no lots, and what goes to none.
use Rattle.std.proofs.Common.{◌≡◌, ◌≢◌, inl, ℕ, ◌+◌, List, [], ◌∷◌, map, length, Bool, Some, None, refl, ap, sym, ◌∙◌, subst, arith}
use Rattle.std.specs.Prelude.{count_by}
use Rattle.cga_shape.specs.declared.changes.Changes.{Changes}
use Rattle.cga_shape.specs.declared.drawn.Drawn as reported
use Rattle.cga_shape.specs.declared.shape.Shape.{Shape}
use Rattle.cga_shape.specs.declared.sources.Sources.{Sources}
use Rattle.cga_order.specs.World.{Among}
use Rattle.cga_derivation.specs.Derivation.{IsDerived, derive, reached}
use Rattle.cga_derivation.proofs.Door.{one}
use Rattle.cga_expand.proofs.Door.{sources_are_derivations}
use Rattle.cga_fraction.proofs.Door.{None-not-Some as none_some, same_Some as some_same}
use Rattle.cga_expand.specs.Children.{Member}
use Rattle.cga_shape.specs.declared.lot.Lot.{Lot}
use Rattle.cga_expand.specs.Derivation.{derivation_of, NamesDiffer}
use Rattle.cga_expand.specs.Touched.{Touched}
use Rattle.cga_expand.specs.Validity.{RootsExist}
use Rattle.cga_update.specs.Updates.{told, instances, CountsTouched, IsChange, IsExact, with_no_lots}

-- no lots derive to nothing, in no step
no_lots_derive : (sources : Sources) → derive (derivation_of (with_no_lots sources)) 0 ≡ Some []
unfolding derive reached
no_lots_derive sources = refl

pub never_over : (sources nothing : Sources) → nothing ≡ with_no_lots sources → derive (derivation_of nothing) 0 ≡ None
    → ⊥
never_over sources nothing is h =
    let z : Some [] ≡ None = sym (no_lots_derive sources) ∙ (ap (λ (x : Sources). derive (derivation_of x) 0) (sym is) ∙ h) in
    none_some [] (sym z)

no_names : (sources : Sources) → NamesDiffer (with_no_lots sources).lots
no_names sources i j a b p q same = none_some {X = Lot} a p

no_roots : (sources : Sources) → RootsExist (with_no_lots sources).lots
no_roots sources k d within = absurd (omega (arith, within))

-- sources that are others without lots
pub names_of_none : (sources nothing : Sources) → nothing ≡ with_no_lots sources → NamesDiffer nothing.lots
names_of_none sources nothing is = subst (λ (x : Sources). NamesDiffer x.lots) (sym is) (no_names sources)

pub roots_of_none : (sources nothing : Sources) → nothing ≡ with_no_lots sources → RootsExist nothing.lots
roots_of_none sources nothing is = subst (λ (x : Sources). RootsExist x.lots) (sym is) (no_roots sources)

no_lots_end : (sources : Sources) → IsDerived (derivation_of (with_no_lots sources)) []
unfolding reached
no_lots_end sources = (0, refl, λ n h. h)

no_lots_reach : (sources : Sources) (list : List Member) → IsDerived (derivation_of (with_no_lots sources)) list
    → list ≡ []
no_lots_reach sources list d =
    one (derivation_of (with_no_lots sources)) (sources_are_derivations (with_no_lots sources) (no_names sources)) list [] d (no_lots_end sources)

none_among : {X : Type 0} (xs : List X) → ((x : X) → Among x xs → ⊥) → xs ≡ []
none_among [] h = refl
none_among (x ∷ xs) h = absurd (h x (inl refl))

-- ---- to no lots

-- nothing is touched on the way to no lots
none_counted : (old new : Sources) (before : List Member) (n : ℕ) → CountsTouched old new before [] n → n ≡ 0
none_counted old new before n h =
    let empty : h.0 ≡ [] = none_among h.0 (λ s among. ((h.2 s).0 among).0.1) in
    h.3 ∙ ap length empty

pub empties : (old nothing : Sources) → nothing ≡ with_no_lots old → (n : ℕ) (changes : Changes)
    → IsExact old nothing 0 n changes
    → (n ≡ 0) × IsExact old (with_no_lots old) 0 0 changes
empties old nothing is n changes exact =
    let e = subst (λ (x : Sources). IsExact old x 0 n changes) is exact in
    let after : e.1 ≡ [] = some_same e.1 [] (sym e.3 ∙ no_lots_derive old) in
    let zero_is : n ≡ 0 = none_counted old (with_no_lots old) e.0 n (subst (λ (l : List Member). CountsTouched old (with_no_lots old) e.0 l n) after e.4) in
    (zero_is, subst (λ m. IsExact old (with_no_lots old) 0 m changes) zero_is e)

-- ---- from one mode to another

module _ (old new : Sources) (differ : old.mode ≢ new.mode) (before after : List Member) where
  -- all that isn't an instance is touched
  to_all : (s : Shape) → Touched (with_no_lots new) new [] after s → Touched old new before after s
  to_all s h = (h.0, inl (λ k. differ k.0))

  from_all : (s : Shape) → Touched old new before after s → Touched (with_no_lots new) new [] after s
  from_all s h = (h.0, inl (λ k. let w = k.1 0 (omega arith) in w.3.1))

  counted : (n : ℕ) → CountsTouched (with_no_lots new) new [] after n → CountsTouched old new before after n
  counted n h = (h.0, h.1, λ s. (λ a. to_all s ((h.2 s).0 a), λ t. (h.2 s).1 (from_all s t)), h.3)

  module _ (gone come both : Changes) (removed : IsChange old (with_no_lots old) before [] gone)
      (created : IsChange (with_no_lots new) new [] after come) (gone_is : both.gone ≡ gone.gone) (come_is : both.come ≡ come.come) where
    none_created : removed.come ≡ []
    none_created = none_among removed.come (λ d h. (removed.«record».each_come d h).0)

    none_removed : created.gone ≡ []
    none_removed = none_among created.gone (λ d h. (created.«record».each_gone d h).0)

    balances : (test : reported.Drawn → Bool)
        → count_by test (instances before) + count_by test both.come ≡ count_by test (instances after) + count_by test
        both.gone
    balances test =
        let a = removed.balance test in
        let b = created.balance test in
        let no_come : count_by test gone.come ≡ 0 = ap (count_by test) (removed.come_told ∙ ap (map told) none_created) in
        let no_gone : count_by test come.gone ≡ 0 = ap (count_by test) (created.gone_told ∙ ap (map told) none_removed) in
        let c : count_by test both.come ≡ count_by test come.come = ap (count_by test) come_is in
        let d : count_by test both.gone ≡ count_by test gone.gone = ap (count_by test) gone_is in
        let z : count_by test (instances []) ≡ 0 = refl in
        omega (arith, a, b, no_come, no_gone, c, d, z)

    changed : IsChange old new before after both
    changed = record {
      gone = removed.gone;
      come = created.come;
      «record» = record {
        gone_once = removed.«record».gone_once;
        come_once = created.«record».come_once;
        each_come = λ d h. let w = created.«record».each_come d h in (w.0, (w.1.0, w.1.1, w.1.2, to_all w.1.0 w.1.3));
        each_gone = λ d h. ((removed.«record».each_gone d h).0, λ parent i non below keeps same. differ keeps.0);
      };
      gone_told = gone_is ∙ removed.gone_told;
      come_told = come_is ∙ created.come_told;
      balance = balances;
    }

pub changes_mode : (old new : Sources) → old.mode ≢ new.mode → (budget n : ℕ) (come gone both : Changes)
    → IsExact (with_no_lots new) new budget n come → IsExact old (with_no_lots old) 0 0 gone
    → both.gone ≡ gone.gone → both.come ≡ come.come → IsExact old new budget n both
changes_mode old new differ budget n come gone both made left gone_is come_is =
    let none : made.0 ≡ [] = no_lots_reach new made.0 made.2 in
    let left_none : left.1 ≡ [] = some_same left.1 [] (sym left.3 ∙ no_lots_derive old) in (
      left.0,
      made.1,
      left.2,
      made.3,
      counted old new differ left.0 made.1 n (subst (λ (l : List Member). CountsTouched (with_no_lots new) new l made.1 n) none made.4),
      changed old new differ left.0 made.1 gone come both
          (subst (λ (l : List Member). IsChange old (with_no_lots old) left.0 l gone) left_none left.5)
          (subst (λ (l : List Member). IsChange (with_no_lots new) new l made.1 come) none made.5)
          gone_is come_is,
    )
