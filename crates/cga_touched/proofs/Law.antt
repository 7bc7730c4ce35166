-- Touched shapes are counted: they are listed, each once, and no other list of them is longer or shorter.
use Rattle.std.proofs.Common.{◌≡◌, ℕ, suc, List, [], ◌∷◌, Bool, true, false, cond, refl, ap, sym, subst, Some, arith}
use Rattle.cga_order.specs.World.{Has, shapes_where}
use Rattle.cga_order.specs.declared.placed.Placed.{Placed}
use Rattle.cga_order.specs.declared.placed.Kind.{Kind}
use Rattle.cga_derivation.proofs.Door.{apart-reached, derived-reached, within}
use Rattle.cga_expand.proofs.Door.{sources_are_derivations}
use Rattle.cga_order.proofs.Door.{Has-from_shapes_where, Has-index, length-once}
use Rattle.cga_order.specs.Once.{Once}
use Rattle.cga_agenda.specs.Work.{AreSoMany}
use Rattle.cga_shape.specs.declared.sources.Sources.{Sources}
use Rattle.cga_derivation.specs.Derivation.{Derivation, place_of, reached, derive, AllApart, NothingWaits}
use Rattle.cga_expand.specs.Children.{Member}
use Rattle.cga_expand.specs.Derivation.{derivation_of, NamesDiffer}
use Rattle.cga_expand.specs.Touched.{Touched}
use Rattle.cga_touched.specs.Count.{touched_shapes, touched_count}
use Rattle.cga_touched.specs.Laws.{TouchedIsCounted}
use Rattle.cga_touched.proofs.Count.{names_touched}

-- ---- each once

module _ {N A F P : Type 0} (derivation : Derivation N A F P) where
  tail_apart : (m : Placed N F P) (ms : List (Placed N F P)) → AllApart derivation (m ∷ ms) → AllApart derivation ms
  tail_apart m ms apart i j x y e f same = let g : suc i ≡ suc j = apart (suc i) (suc j) x y e f same in omega (arith, g)

  not_again : (m : Placed N F P) (ms : List (Placed N F P)) → AllApart derivation (m ∷ ms) → (k : Kind F P)
      → Has ms m.shape k → ⊥
  not_again m ms apart k h =
      let w = Has-index ms m.shape k h in
      let e : 0 ≡ suc w.0 = apart 0 (suc w.0) m w.1 refl w.2 (ap (place_of derivation) (sym w.3)) in
      omega (arith, e)

  once_where : (test : N → Kind F P → Bool) (ms : List (Placed N F P)) → AllApart derivation ms
      → Once (shapes_where test ms)
  once_where test [] apart = tt
  once_where test (m ∷ ms) apart = by (test m.shape m.kind) (once_where test ms (tail_apart m ms apart))
    where
      by : (b : Bool) → Once (shapes_where test ms)
          → Once (cond b (m.shape ∷ shapes_where test ms) (shapes_where test ms))
      by true once = ((λ h. let w = Has-from_shapes_where test ms m.shape h in not_again m ms apart w.0 w.1), once)
      by false once = once

once_touched : (sources : Sources) → NamesDiffer sources.lots → (n steps : ℕ) (old new : Sources) (before : List Member)
    → Once (touched_shapes steps old new before (reached (derivation_of sources) n))
unfolding touched_shapes
once_touched sources names n steps old new before =
    once_where (derivation_of sources) _ (reached (derivation_of sources) n) (apart-reached (derivation_of sources) (sources_are_derivations sources names) n)

-- ---- the law

quiet_at : (sources : Sources) → NamesDiffer sources.lots → (budget : ℕ) (list : List Member)
    → derive (derivation_of sources) budget ≡ Some list
    → (reached (derivation_of sources) budget ≡ list)
    × NothingWaits (derivation_of sources) (reached (derivation_of sources) budget)
quiet_at sources names budget list e =
    let is = derived-reached (derivation_of sources) budget list e in
    let d = within (derivation_of sources) (sources_are_derivations sources names) budget list e in
    (is, subst (NothingWaits (derivation_of sources)) (sym is) d.2)

-- only one number is right
one_count : {X : Type 0} (P : X → Type 0) (n m : ℕ) → AreSoMany P n → AreSoMany P m → n ≡ m
one_count P n m (xs, once, names, is) (ys, single, tell, size) =
    let up = length-once xs ys once (λ s h. (tell s).1 ((names s).0 h)) in
    let down = length-once ys xs single (λ s h. (names s).1 ((tell s).0 h)) in
    omega (arith, up, down, is, size)

counted : (budget : ℕ) (old new : Sources) (before after : List Member) → NamesDiffer old.lots → NamesDiffer new.lots
    → derive (derivation_of old) budget ≡ Some before → derive (derivation_of new) budget ≡ Some after
    → AreSoMany (Touched old new before after) (touched_count budget old new before after)
unfolding touched_count
counted budget old new before after names others was is =
    let a = quiet_at old names budget before was in
    let b = quiet_at new others budget after is in (
      touched_shapes budget old new before after,
      subst (λ l. Once (touched_shapes budget old new before l)) b.0 (once_touched new others budget budget old new before),
      names_touched old new budget a.1 b.1 before after,
      refl,
    )

-- where lot names differ and both derivations are within the budget, the count is the number of touched shapes
pub touched_is_counted : TouchedIsCounted
touched_is_counted budget old new before after names others was is =
    let right = counted budget old new before after names others was is in
    (right, λ n count. one_count (Touched old new before after) n (touched_count budget old new before after) count right)
