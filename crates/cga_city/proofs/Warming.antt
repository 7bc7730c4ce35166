-- What making a cold city warm expands: each member but the instances.
use Rattle.std.proofs.Common.{◌≡◌, ◌↔◌, ℕ, ◌+◌, List, [], ◌∷◌, length, Bool, true, false, not, Some, None, Ok, Err, Result, refl, sym, ap, ◌∙◌, subst, inl, arith}
use Rattle.std.specs.Prelude.{cond, IfOk}
use Rattle.std.proofs.lemmas.List.Sums.{sum_by-cons}
use Rattle.cga_order.specs.World.{Among, is_instance, shapes_where}
use Rattle.cga_agenda.proofs.Door.{Has-Among}
use Rattle.cga_derivation.proofs.Door.{apart-reached}
use Rattle.cga_expand.proofs.Door.{sources_are_derivations}
use Rattle.cga_fraction.proofs.Door.{false_from_not as not_false}
use Rattle.cga_order.proofs.Door.{Among-shapes_where, Has-from_shapes_where, Once-index, length-once, slice_get-map}
use Rattle.cga_shape.specs.declared.changes.Changes.{Changes}
use Rattle.cga_shape.specs.declared.shape.Shape.{Shape}
use Rattle.cga_shape.specs.declared.sources.Sources.{Sources}
use Rattle.cga_derivation.specs.Derivation.{derive, place_of, reached}
use Rattle.cga_agenda.specs.Known.{shapes_of}
use Rattle.cga_order.specs.Once.{Once}
use Rattle.cga_expand.specs.Children.{Member}
use Rattle.cga_expand.specs.Derivation.{derivation_of}
use Rattle.cga_expand.specs.Touched.{Kept, NonInstance, Touched}
use Rattle.cga_update.specs.Updates.{CountsTouched, IsExact, WhereOver, with_no_lots}
use Rattle.cga_update.specs.declared.update_refused.UpdateRefused.{UpdateRefused}
use Rattle.cga_update.specs.declared.update_refused.UpdateRefused.TheVariants.{OverBudget, NoMemory}
use Rattle.cga_city.specs.City.{IsWarmed, empty_in}
use Rattle.cga_city.specs.Derived.{derived, members}
use Rattle.cga_city.specs.Inside.{AreSound}
use Rattle.cga_city.specs.Reports.{expanded_count}
use Rattle.cga_city.proofs.Deriving.{bare_derived, bare_reached, is_derived, members_are}
use Rattle.cga_city.proofs.Kept.{derived_is, the_list}
use Rattle.cga_city.proofs.Names.{names_differ}

-- ---- the shapes that expand

abbrev expanding : List Member → List Shape
expanding list = shapes_where (λ n kind. not (is_instance kind)) list

expanding_length : (list : List Member) → length (expanding list) ≡ expanded_count list
expanding_length [] = omega arith
expanding_length (m ∷ ms) = by (not (is_instance m.kind)) (sum_by-cons (λ (x : Member). cond (not (is_instance x.kind)) 1 0) m ms) (expanding_length ms)
  where
    by : (t : Bool) → expanded_count (m ∷ ms) ≡ cond t 1 0 + expanded_count ms
        → length (expanding ms) ≡ expanded_count ms
        → length (cond t (m.shape ∷ expanding ms) (expanding ms)) ≡ expanded_count (m ∷ ms)
    by true e rest = omega (arith, e, rest)
    by false e rest = omega (arith, e, rest)

expanding_is : (list : List Member) (s : Shape) → Among s (expanding list) ↔ NonInstance list s
expanding_is list s = (
  λ h. let w = Has-from_shapes_where (λ n kind. not (is_instance kind)) list s h in (w.0, w.1, not_false (is_instance w.0) w.2),
  λ is. Among-shapes_where (λ n kind. not (is_instance kind)) list s is.0 is.1 (ap not is.2),
)

expanding_once : (list : List Member) → Once (shapes_of list) → Once (expanding list)
expanding_once [] once = tt
expanding_once (m ∷ ms) once = elim (not (is_instance m.kind)) as (λ b. Once (cond b (m.shape ∷ expanding ms) (expanding ms))) [
  | true ↦ ((λ h. let w = (expanding_is ms m.shape).0 h in once.0 (Has-Among ms m.shape w.0 w.1)), expanding_once ms once.1)
  | false ↦ expanding_once ms once.1
]

-- no shape stands twice in a derivation
reached_once : (s : Sources) → AreSound s → (n : ℕ) → Once (shapes_of (reached (derivation_of s) n))
reached_once s sound n =
    let apart = apart-reached (derivation_of s) (sources_are_derivations s (names_differ s.lots sound.names)) n in
    Once-index _ (λ x i j e f.
    let a = slice_get-map (λ (m : Member). m.shape) (reached (derivation_of s) n) i x e in
    let b = slice_get-map (λ (m : Member). m.shape) (reached (derivation_of s) n) j x f in
    apart i j a.0 b.0 a.1 b.1 (ap (place_of (derivation_of s)) (a.2 ∙ sym b.2)))

-- ---- touched where all lots come

none_kept : (old new : Sources) (after : List Member) (s : Shape) → Kept old new [] after s → ⊥
none_kept old new after s kept = (kept.1 0 (omega arith)).3.1

all_touched : (old new : Sources) (after : List Member) (s : Shape) → NonInstance after s → Touched old new [] after s
all_touched old new after s is = (is, inl (none_kept old new after s))

-- where nothing was there before, it doesn't matter of which sources
counts_from : (a b s : Sources) (after : List Member) (n : ℕ) → CountsTouched a s [] after n
    → CountsTouched b s [] after n
counts_from a b s after n c = (c.0, c.1, (λ x. ((λ h. all_touched b s after x ((c.2 x).0 h).0), λ t. (c.2 x).1 (all_touched a s after x t.0))), c.3)

counts_expanding : (old s : Sources) (after : List Member) (n : ℕ) → Once (shapes_of after)
    → CountsTouched old s [] after n → n ≡ expanded_count after
counts_expanding old s after n once c =
    let fewer = length-once c.0 (expanding after) c.1 (λ x h. (expanding_is after x).1 ((c.2 x).0 h).0) in
    let more = length-once (expanding after) c.0 (expanding_once after once) (λ x h. (c.2 x).1 (all_touched old s after x ((expanding_is after x).0 h))) in
    omega (arith, fewer, more, c.3, expanding_length after)

-- ---- a city

-- what an update from nothing counted is what the city expands
pub warmed : (s : Sources) (budget n x y k : ℕ) (warm : Bool) (old changes : Changes) → AreSound s
    → IsExact (empty_in s.mode) s budget n changes → y ≡ x + n
    → IsWarmed (record { sources = s; budget = budget; warm = warm; expanded = k; changes = old }) x y
warmed s budget n x y k warm old changes sound exact spent =
    let fits = is_derived budget s (Some exact.1) exact.3 in
    let is = derived_is s sound budget exact.1 fits in
    let bare : exact.0 ≡ [] = exact.2.1 ∙ bare_reached _ s.mode exact.2.0 in
    let counted = subst (λ (before : List Member). CountsTouched (empty_in s.mode) s before exact.1 n) bare exact.4 in
    let once = subst (λ (list : List Member). Once (shapes_of list)) (sym is.1) (reached_once s sound is.0) in
    let all = members_are budget s exact.1 fits in
    let number : n ≡ expanded_count (members budget s) = counts_expanding (empty_in s.mode) s exact.1 n once counted ∙ ap expanded_count (sym all) in
    let touched = counts_from (empty_in s.mode) (with_no_lots s) s exact.1 n counted in
    record {
      spent = spent ∙ ap (λ c. x + c) number;
      touched = rw (← number, members_are budget (with_no_lots s) [] (bare_derived s.grammar s.mode budget), all) touched;
    }

-- what an update of sound sources from nothing answered
pub record IsFromNothing (told : Result ℕ UpdateRefused) (empty s : Sources) (budget n x y : ℕ) (changes : Changes) : Type 0 where
  pub sound : AreSound s
  pub none : empty ≡ empty_in s.mode
  pub count : told ≡ Ok n
  pub exact : IfOk told (λ m. IsExact empty s budget m changes)
  pub spent : IfOk told (λ m. y ≡ x + m)

-- the same by what it answered
pub warmed_by : (told : Result ℕ UpdateRefused) (empty s : Sources) (budget n x y k : ℕ) (warm : Bool)
    (old changes : Changes) → IsFromNothing told empty s budget n x y changes
    → IsWarmed (record { sources = s; budget = budget; warm = warm; expanded = k; changes = old }) x y
warmed_by told empty s budget n x y k warm old changes is =
    let whole : IsExact empty s budget n changes = subst (λ (r : Result ℕ UpdateRefused). IfOk r (λ m. IsExact empty s budget m changes)) is.count is.exact in
    let more : y ≡ x + n = subst (λ (r : Result ℕ UpdateRefused). IfOk r (λ m. y ≡ x + m)) is.count is.spent in
    warmed s budget n x y k warm old changes is.sound (subst (λ (e : Sources). IsExact e s budget n changes) is.none whole) more

-- ---- what the budget refuses

-- sources within the budget aren't refused for it
pub never_over : {A : Type 0} (told : Result A UpdateRefused) (s : Sources) (budget : ℕ) (list : List Member)
    → derived budget s ≡ Some list → WhereOver told (derive (derivation_of s) budget ≡ None) → WhereOver told ⊥
never_over (Ok n) s budget list fits over = tt
never_over (Err OverBudget) s budget list fits over = let z : Some list ≡ None = sym (the_list budget s list fits) ∙ over in cc
never_over (Err NoMemory) s budget list fits over = tt
