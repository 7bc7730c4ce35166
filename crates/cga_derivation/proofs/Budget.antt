-- How many members there are after so many steps.
use Rattle.std.proofs.Common.{◌≡◌, ℕ, zero, suc, ◌+◌, ◌-◌, ◌<◌, ◌≤◌, List, [], ◌∷◌, length, map, Bool, true, false}
use Rattle.std.proofs.Common.{cond, refl, sym, ap, ◌∙◌, subst, inl, inr, Result, Ok, Err, Option, Some, None, arith}
use Rattle.std.proofs.Common.{length-append}
use Rattle.std.specs.Prelude.{nat_lt}
use Rattle.std.proofs.lemmas.Bool.Decides.{nat_tests}
use Rattle.cga_order.specs.declared.placed.Placed.{Placed}
use Rattle.cga_order.specs.declared.placed.Kind.{Kind}
use Rattle.cga_order.specs.declared.placed.Kind.TheVariants.{Waiting, Done, Faulted, Instance}
use Rattle.cga_order.specs.World.{Has}
use Rattle.std.proofs.lemmas.Bool.{cases_Bool as either}
use Rattle.cga_derivation.specs.Derivation.{Derivation, is_next, next_of, become, told, outcome, step_by, step, reached, derive, first_of, NothingWaits}
use Rattle.cga_derivation.proofs.Along.{length-map}

module _ {N A F P : Type 0} (derivation : Derivation N A F P) where
  abbrev Members : Type 0
  Members = List (Placed N F P)

  told-longer : (list : Members) (s : N) (r : Result Members F) → length list ≤ length (told derivation list s r)
  told-longer list s (Ok children) =
      let a = length-map (become derivation s Done) list in
      let b = length-append (map (become derivation s Done) list) children in
      omega (arith, a, b)
  told-longer list s (Err fault) =
      let a = length-map (become derivation s (Faulted fault)) list in
      omega (arith, a)

  step_by-longer : (list : Members) (o : Option (Placed N F P)) → length list ≤ length (step_by derivation list o)
  step_by-longer list None = omega arith
  step_by-longer list (Some m) = told-longer list m.shape (outcome derivation list m.shape)

  step-longer : (list : Members) → length list ≤ length (step derivation list)
  unfolding step
  step-longer list = step_by-longer list (next_of derivation list)

  -- members never go
  pub reached-longer : (n k : ℕ) → length (reached derivation n) ≤ length (reached derivation (k + n))
  unfolding reached
  reached-longer n zero = let e : 0 + n ≡ n = omega arith in subst (λ j. length (reached derivation n) ≤ length (reached derivation j)) (sym e) (omega arith)
  reached-longer n (suc k) =
      let e : suc k + n ≡ suc (k + n) = omega arith in
      let more = step-longer (reached derivation (k + n)) in
      let rest = reached-longer n k in
      subst (λ j. length (reached derivation n) ≤ length (reached derivation j)) (sym e) (omega (arith, more, rest))

  none_next : (p : Placed N F P → Bool) (list : Members)
      → ((n : N) (k : Kind F P) → Has list n k → p (record { shape = n; kind = k }) ≡ false) → first_of p list ≡ None
  none_next p [] h = refl
  none_next p (x ∷ xs) h = ap (λ b. cond b (Some x) (first_of p xs)) (h x.shape x.kind (inl (refl, refl))) ∙ none_next p xs (λ n k g. h n k (inr g))

  settled-next : (list : Members) → NothingWaits derivation list → next_of derivation list ≡ None
  settled-next list settled = none_next (is_next derivation list) list at
    where
      at : (n : N) (k : Kind F P) → Has list n k → is_next derivation list (record { shape = n; kind = k }) ≡ false
      at n Waiting h = absurd (settled n h)
      at n Done h = refl
      at n (Faulted f) h = refl
      at n (Instance p) h = refl

  settled-step : (list : Members) → NothingWaits derivation list → step derivation list ≡ list
  unfolding step
  settled-step list settled = ap (step_by derivation list) (settled-next list settled)

  -- where nothing waits no step changes the list
  pub settled-reached : (n k : ℕ) → NothingWaits derivation (reached derivation n)
      → reached derivation (k + n) ≡ reached derivation n
  unfolding reached
  settled-reached n zero settled = let e : 0 + n ≡ n = omega arith in ap (reached derivation) e
  settled-reached n (suc k) settled =
      let e : suc k + n ≡ suc (k + n) = omega arith in
      ap (reached derivation) e ∙ (ap (step derivation) (settled-reached n k settled) ∙ settled-step (reached derivation n) settled)

  -- a list is what the derivation gives, where nothing waits after at most so many steps
  pub derive-some : (budget n : ℕ) → n ≤ budget → NothingWaits derivation (reached derivation n)
      → length (reached derivation n) ≤ budget → derive derivation budget ≡ Some (reached derivation n)
  unfolding derive
  derive-some budget n le settled size =
      let gap : (budget - n) + n ≡ budget = omega arith in
      let same : reached derivation budget ≡ reached derivation n = ap (reached derivation) (sym gap) ∙ settled-reached n (budget - n) settled in
      let fits : nat_lt budget (length (reached derivation n)) ≡ false = grind (arith, nat_tests) in
      ap (λ l. cond (nat_lt budget (length l)) None (Some l)) same ∙ ap (λ b. cond b None (Some (reached derivation n))) fits

  pub derive-none : (budget n : ℕ) → n ≤ budget → budget < length (reached derivation n)
      → derive derivation budget ≡ None
  unfolding derive
  derive-none budget n le size =
      let gap : (budget - n) + n ≡ budget = omega arith in
      let more : length (reached derivation n) ≤ length (reached derivation budget) = subst (λ j. length (reached derivation n) ≤ length (reached derivation j)) gap (reached-longer n (budget - n)) in
      let passes : nat_lt budget (length (reached derivation budget)) ≡ true = grind (arith, nat_tests) in
      ap (λ b. cond b None (Some (reached derivation budget))) passes

  -- a derivation that was answered is the list after as many steps as the budget
  pub derived-reached : (budget : ℕ) (list : Members) → derive derivation budget ≡ Some list
      → reached derivation budget ≡ list
  unfolding derive
  derived-reached budget list e = elim (either (nat_lt budget (length (reached derivation budget)))) [
    | inl t ↦ let q : ◌≡◌ {A = Option Members} None (Some list) = sym (ap (λ b. cond b None (Some (reached derivation budget))) t) ∙ e in cc
    | inr f ↦ let q : Some (reached derivation budget) ≡ Some list = sym (ap (λ b. cond b None (Some (reached derivation budget))) f) ∙ e in cc
  ]
