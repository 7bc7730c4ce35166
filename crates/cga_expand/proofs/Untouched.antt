-- Between equal sources nothing is touched: of each shape its ancestors are there, and it had its turn.
use Rattle.std.proofs.Common.{◌≡◌, ℕ, zero, suc, ◌+◌, ◌≤◌, ◌<◌, List, [], ◌∷◌, ◌++◌, map, length, take, Bool, true}
use Rattle.std.proofs.Common.{false, refl, ap, sym, ◌∙◌, subst, arith, ◌⊎◌, inl, inr, Result, Ok, Err, Option, Some}
use Rattle.std.proofs.Common.{None, length-append}
use Rattle.std.specs.Prelude.{slice_get, slice_set, nat_lt}
use Rattle.std.proofs.lemmas.List.{take-append-le, take_all}
use Rattle.std.proofs.lemmas.Bool.Decides.{nat_tests}
use Rattle.cga_order.specs.declared.placed.Placed.{Placed}
use Rattle.cga_order.specs.declared.placed.Kind.{Kind}
use Rattle.cga_order.specs.declared.placed.Kind.TheVariants.{Waiting, Done, Faulted, Instance}
use Rattle.cga_order.specs.World.{Has, Among, IsNew, is_instance}
use Rattle.cga_derivation.proofs.Door.{Has-set, apart-reached, become-set, derived_consistent, first_of-Has}
use Rattle.cga_order.proofs.Door.{Has-append, Has-index}
use Rattle.std.proofs.lemmas.Bool.{cases_Bool as either}
use Rattle.cga_derivation.specs.Consistent.{IsConsistent, IsMade}
use Rattle.cga_derivation.specs.Derivation.{Derivation, IsDerivation, NothingWaits, next_of, is_next, become, told, outcome, asked, step_by, step, reached}
use Rattle.cga_shape.specs.declared.shape.Shape.{Shape}
use Rattle.cga_shape.specs.declared.sources.Sources.{Sources}
use Rattle.cga_expand.specs.Derivation.{derivation_of, NamesDiffer}
use Rattle.cga_expand.specs.Touched as touched
use Rattle.cga_expand.proofs.Instance.{sources_are_derivations}

module _ {N F P : Type 0} where
  all_wait : (rs : List N) (x : N) (k : Kind F P) → Has (map (λ n. record { shape = n; kind = Waiting }) rs) x k
      → k ≡ Waiting
  all_wait [] x k h = absurd h
  all_wait (r ∷ rs) x k h = elim h [ inl e ↦ sym e.1 | inr q ↦ all_wait rs x k q ]

plain_new : {F P : Type 0} (k : Kind F P) → IsNew k → is_instance k ≡ false → k ≡ Waiting
plain_new k new plain = elim new [ inl e ↦ e | inr p ↦ (let no : true ≡ false = sym (ap is_instance p.1) ∙ plain in cc) ]

-- ---- the turn of a shape

module _ {N A F P : Type 0} (derivation : Derivation N A F P) (laws : IsDerivation derivation) where
  abbrev Members : Type 0
  Members = List (Placed N F P)

  abbrev HadTurn : N → Type 0
  HadTurn x =
      (a : A) × ((n : ℕ) × (m : Placed N F P) × (next_of derivation (reached derivation n) ≡ Some m)
      × (m.shape ≡ x) × (asked derivation (reached derivation n) x ≡ a))

  abbrev Turned : N → Kind F P → Type 0
  Turned x k = (k ≡ Waiting) ⊎ HadTurn x

  new_waits : (m : N) (a : A) (cs : Members) → derivation.expand m a ≡ Ok cs → (x : N) (k : Kind F P) → Has cs x k
      → is_instance k ≡ false → k ≡ Waiting
  new_waits m a cs e x k h plain =
      let i = Has-index cs x k h in
      let there : slice_get cs i.0 ≡ Some (record { shape = x; kind = k }) = i.2 ∙ (λ t. Some (record { shape = i.3 t; kind = i.4 t })) in
      plain_new k (laws.child m a cs e i.0 (record { shape = x; kind = k }) there).2 plain

  told_turned : (list : Members) (i : ℕ) (m : Placed N F P) (r : Result Members F) → HadTurn m.shape
      → ((k : Kind F P) → map (become derivation m.shape k) list ≡ slice_set list i
      (record { shape = m.shape; kind = k }))
      → ((x : N) (k : Kind F P) → Has list x k → is_instance k ≡ false → Turned x k)
      → derivation.expand m.shape (asked derivation list m.shape) ≡ r → (x : N) (k : Kind F P)
      → Has (told derivation list m.shape r) x k → is_instance k ≡ false → Turned x k
  told_turned list i m (Ok cs) turn writes before e x k h plain = elim (Has-append (map (become derivation m.shape Done) list) cs x k h) [
    | inl a ↦ elim (Has-set list i (record { shape = m.shape; kind = Done }) x k (subst (λ l. Has l x k) (writes Done) a)) [
      | inl q ↦ inr (subst HadTurn q.0 turn)
      | inr q ↦ before x k q plain
    ]
    | inr b ↦ inl (new_waits m.shape (asked derivation list m.shape) cs e x k b plain)
  ]
  told_turned list i m (Err f) turn writes before e x k h plain = elim (Has-set list i (record { shape = m.shape; kind = Faulted f }) x k (subst (λ l. Has l x k) (writes (Faulted f)) h)) [
    | inl q ↦ inr (subst HadTurn q.0 turn)
    | inr q ↦ before x k q plain
  ]

  turned : (n : ℕ) (x : N) (k : Kind F P) → Has (reached derivation n) x k → is_instance k ≡ false → Turned x k
  unfolding reached step
  turned zero x k h plain = inl (all_wait derivation.roots x k h)
  turned (suc n) x k h plain = by (λ y j g z. turned n y j g z) (next_of derivation (reached derivation n)) refl h
    where
      by : ((y : N) (j : Kind F P) → Has (reached derivation n) y j → is_instance j ≡ false → Turned y j)
          → (o : Option (Placed N F P)) → next_of derivation (reached derivation n) ≡ o
          → Has (step_by derivation (reached derivation n) o) x k → Turned x k
      by before None e g = before x k g plain
      by before (Some m) e g =
          let here = first_of-Has (is_next derivation (reached derivation n)) (reached derivation n) m e in
          let i = Has-index (reached derivation n) m.shape m.kind here in
          let there : slice_get (reached derivation n) i.0 ≡ Some m = i.2 ∙ (λ t. Some (record { shape = i.3 t; kind = i.4 t })) in
          let turn : HadTurn m.shape = (asked derivation (reached derivation n) m.shape, (n, m, e, refl, refl)) in
          told_turned (reached derivation n) i.0 m (outcome derivation (reached derivation n) m.shape) turn
          (λ j. become-set derivation (reached derivation n) i.0 m j (apart-reached derivation laws n) there) before refl x k g plain

  had_turn : (n : ℕ) → NothingWaits derivation (reached derivation n) → (x : N) (k : Kind F P)
      → Has (reached derivation n) x k → is_instance k ≡ false → HadTurn x
  had_turn n quiet x k h plain = elim (turned n x k h plain) [
    | inl e ↦ absurd (quiet x (subst (λ (j : Kind F P). Has (reached derivation n) x j) e h))
    | inr t ↦ t
  ]

  -- ---- its ancestors

  module _ (list : Members) (right : IsConsistent derivation list) where
    abbrev Plain : N → Type 0
    Plain m = (k : Kind F P) × Has list m k × (is_instance k ≡ false)

    abbrev On : N → ℕ → Type 0
    On x i = (m : N) × (derivation.lot m ≡ derivation.lot x) × (derivation.path m ≡ take i (derivation.path x)) × Plain m

    whole_path : (x : N) (i : ℕ) → length (derivation.path x) ≤ i → Plain x → On x i
    whole_path x i le plain = (x, refl, sym (take_all i (derivation.path x) le), plain)

    is_below : (i j : ℕ) → nat_lt i (suc j) ≡ true → i ≤ j
    is_below i j t = grind (arith, nat_tests)

    isnt_below : (i j n : ℕ) → n ≡ suc j → nat_lt i (suc j) ≡ false → n ≤ i
    isnt_below i j n e t = grind (arith, nat_tests)

    no_root : (x : N) (len : ℕ) → length (derivation.path x) ≡ suc len → Among x derivation.roots → ⊥
    no_root x len e root =
        let none : length (derivation.path x) ≡ 0 = ap length (laws.root x root) in
        omega arith

    child_on : (x s : N) (j i : ℕ) → derivation.lot x ≡ derivation.lot s
        → derivation.path x ≡ derivation.path s ++ j ∷ [] → i ≤ length (derivation.path s) → On s i → On x i
    child_on x s j i lot path le (m, same, at, plain) =
        (m, same ∙ sym lot, at ∙ sym (take-append-le i (derivation.path s) (j ∷ []) le) ∙ ap (take i) (sym path), plain)

    below : (x : N) (len i : ℕ) → length (derivation.path x) ≡ suc len → i ≤ len
        → ((y : N) → length (derivation.path y) ≡ len → Plain y → i ≤ length (derivation.path y) → On y i)
        → IsMade derivation list x → On x i
    below x len i e le up (s, cs, done, told, (k, among)) =
        let at = Has-index cs x k among in
        let there : slice_get cs at.0 ≡ Some (record { shape = x; kind = k }) = at.2 ∙ (λ t. Some (record { shape = at.3 t; kind = at.4 t })) in
        let child = laws.child s _ cs told at.0 (record { shape = x; kind = k }) there in
        let longer : length (derivation.path x) ≡ length (derivation.path s) + 1 = ap length child.1 ∙ length-append (derivation.path s) (at.0 ∷ []) in
        let short : length (derivation.path s) ≡ len = omega arith in
        let within : i ≤ length (derivation.path s) = omega arith in
        child_on x s at.0 i child.0 child.1 within (up s short (Done, done, refl) within)

    above : (len : ℕ) (x : N) → length (derivation.path x) ≡ len → Plain x → (i : ℕ) → i ≤ length (derivation.path x)
        → On x i
    above zero x e plain i le = let short : length (derivation.path x) ≤ i = omega arith in whole_path x i short plain
    above (suc len) x e plain i le = elim (either (nat_lt i (suc len))) [
      | inl t ↦ elim (right.only x plain.0 plain.1) [
        | inl root ↦ absurd (no_root x len e root)
        | inr made ↦ below x len i e (is_below i len t) (λ y f p l. above len y f p i l) made
      ]
      | inr t ↦ whole_path x i (isnt_below i len (length (derivation.path x)) e t) plain
    ]

-- ---- equal sources

untouched_at : (sources : Sources) → NamesDiffer sources.lots → (n : ℕ)
    → NothingWaits (derivation_of sources) (reached (derivation_of sources) n) → (s : Shape)
    → touched.Touched sources sources (reached (derivation_of sources) n) (reached (derivation_of sources) n) s → ⊥
untouched_at sources names n quiet s (plain, why) =
    let d = derivation_of sources in
    let laws = sources_are_derivations sources names in
    let right = derived_consistent d laws n quiet in
    let kept : touched.Kept sources sources (reached d n) (reached d n) s =
    (refl, λ i le. let on = above d laws (reached d n) right (length s.path) s refl plain i le in (on.0, on.1, on.2, on.3, on.3, refl)) in
    let turn = had_turn d laws n quiet s plain.0 plain.1 plain.2 in
    let same : touched.SameInputs sources sources s = (refl, (turn.0, turn.1, turn.1)) in
    elim why [ inl gone ↦ gone kept | inr other ↦ other.1 same ]

pub nothing_is_touched : touched.NothingIsTouched
nothing_is_touched sources names list (n, is, quiet) s t =
    untouched_at sources names n (subst (λ l. NothingWaits (derivation_of sources) l) is quiet) s (subst (λ l. touched.Touched sources sources l l s) is t)
