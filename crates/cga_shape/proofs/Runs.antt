-- Lists in runs: where an item of the joined list stands, and what a change of one run makes of it.
use Rattle.std.proofs.Common.{◌≡◌, ◌∙◌, ℕ, zero, suc, ◌+◌, ◌-◌, ◌<◌, ◌≤◌, List, [], ◌∷◌, ◌++◌, length, take, drop, get_or, set, remove, slice_get, Some, refl, sym, ap, arith, subst, length-append}
use Rattle.std.proofs.lemmas.List.{append-nil, append_assoc, drop_all, drop_more, set-append_left, set-append_right, take_all, take_more}
use Rattle.std.proofs.lemmas.Option.{get_or_from_slice_get, slice_get-get_or, slice_get_within}
use Rattle.std.proofs.lemmas.List.Edits.{remove-append_left, remove-append_right}
use Rattle.cga_fraction.proofs.Door.{None-not-Some, same_Some}
use Rattle.cga_shape.specs.Runs.{joined, IsRunAt, IsSpot}

pub joined-append : {X : Type 0} (runs more : List (List X)) → joined (runs ++ more) ≡ joined runs ++ joined more
joined-append [] more = refl
joined-append (run ∷ runs) more = ap (λ t. run ++ t) (joined-append runs more) ∙ sym (append_assoc run (joined runs) (joined more))

-- one more run
pub joined-more : {X : Type 0} (runs : List (List X)) (run : List X) → joined (runs ++ run ∷ []) ≡ joined runs ++ run
joined-more runs run = joined-append runs (run ∷ []) ∙ ap (λ t. joined runs ++ t) (append-nil run)

-- one more lot in a run that was the last
pub joined-last : {X : Type 0} (all : List X) (runs : List (List X)) (last grown : List X) (x : X)
    → all ≡ joined runs ++ last → grown ≡ last ++ x ∷ [] → joined (runs ++ grown ∷ []) ≡ all ++ x ∷ []
joined-last all runs last grown x is more =
    joined-more runs grown ∙ (ap (λ r. joined runs ++ r) more ∙ (sym (append_assoc (joined runs) last (x ∷ [])) ∙ ap (λ l. l ++ x ∷ []) (sym is)))

-- the runs up to one of them, and that one
pub joined-take : {X : Type 0} (runs : List (List X)) (i : ℕ) (run : List X) → i < length runs → run ≡ get_or runs i run
    → joined (take (i + 1) runs) ≡ joined (take i runs) ++ run
joined-take runs i run lt at =
    ap joined (take_more runs i run lt ∙ ap (λ r. take i runs ++ r ∷ []) (sym at)) ∙ joined-more (take i runs) run

-- what is left from a run on, and of no run
pub joined-drop : {X : Type 0} (runs : List (List X)) (i : ℕ) (run : List X) → i < length runs → run ≡ get_or runs i run
    → joined (drop i runs) ≡ run ++ joined (drop (i + 1) runs)
joined-drop runs i run lt at = ap joined (drop_more runs i run lt ∙ ap (λ r. r ∷ drop (i + 1) runs) (sym at))

pub runs_left : {X : Type 0} (runs : List (List X)) (i : ℕ) → length runs ≤ i → joined (drop i runs) ≡ []
runs_left runs i le = ap joined (drop_all i runs le)

get_before : {X : Type 0} (xs ys : List X) (i : ℕ) → i < length xs → slice_get (xs ++ ys) i ≡ slice_get xs i
get_before [] ys i lt = absurd (omega (arith, lt))
get_before (x ∷ xs) ys zero lt = refl
get_before (x ∷ xs) ys (suc i) lt = get_before xs ys i (omega (arith, lt))

get_behind : {X : Type 0} (xs ys : List X) (i j : ℕ) → length xs + j ≡ i → slice_get (xs ++ ys) i ≡ slice_get ys j
get_behind [] ys i j e = let here : i ≡ j = omega (arith, e) in ap (slice_get ys) here
get_behind (x ∷ xs) ys zero j e = absurd (omega (arith, e))
get_behind (x ∷ xs) ys (suc i) j e = get_behind xs ys i j (omega (arith, e))

-- a place that is the j-th of the k-th run
module _ {X : Type 0} where
  pub get_joined : (runs : List (List X)) (place k j : ℕ) (run : List X) → slice_get runs k ≡ Some run → j < length run
      → length (joined (take k runs)) + j ≡ place → slice_get (joined runs) place ≡ slice_get run j
  get_joined [] place k j run there lt at = None-not-Some run there
  get_joined (r ∷ runs) place zero j run there lt at =
      let same = same_Some r run there in
      let here : place ≡ j = omega (arith, at) in
      ap (slice_get (r ++ joined runs)) here ∙ (ap (λ s. slice_get (s ++ joined runs) j) same ∙ get_before run (joined runs) j lt)
  get_joined (r ∷ runs) place (suc k) j run there lt at =
      let sum = length-append r (joined (take k runs)) in
      get_behind r (joined runs) place (place - length r) (omega (arith, sum, at))
      ∙ get_joined runs (place - length r) k j run there lt (omega (arith, sum, at))

  pub set_joined : (runs : List (List X)) (place k j : ℕ) (run : List X) (x : X) → slice_get runs k ≡ Some run
      → j < length run → length (joined (take k runs)) + j ≡ place
      → set (joined runs) place x ≡ joined (set runs k (set run j x))
  set_joined [] place k j run x there lt at = None-not-Some run there
  set_joined (r ∷ runs) place zero j run x there lt at =
      let same = same_Some r run there in
      let here : place ≡ j = omega (arith, at) in
      ap (λ i. set (r ++ joined runs) i x) here ∙ (ap (λ s. set (s ++ joined runs) j x) same ∙ set-append_left run (joined runs) j x lt)
  set_joined (r ∷ runs) place (suc k) j run x there lt at =
      let sum = length-append r (joined (take k runs)) in
      set-append_right r (joined runs) (length r) place x refl (omega (arith, sum, at))
      ∙ ap (λ t. r ++ t) (set_joined runs (place - length r) k j run x there lt (omega (arith, sum, at)))

  pub remove_joined : (runs : List (List X)) (place k j : ℕ) (run : List X) → slice_get runs k ≡ Some run
      → j < length run → length (joined (take k runs)) + j ≡ place
      → remove (joined runs) place ≡ joined (set runs k (remove run j))
  remove_joined [] place k j run there lt at = None-not-Some run there
  remove_joined (r ∷ runs) place zero j run there lt at =
      let same = same_Some r run there in
      let here : place ≡ j = omega (arith, at) in
      ap (λ i. remove (r ++ joined runs) i) here ∙ (ap (λ s. remove (s ++ joined runs) j) same ∙ remove-append_left run (joined runs) j lt)
  remove_joined (r ∷ runs) place (suc k) j run there lt at =
      let sum = length-append r (joined (take k runs)) in
      remove-append_right r (joined runs) (length r) place refl (omega (arith, sum, at))
      ∙ ap (λ t. r ++ t) (remove_joined runs (place - length r) k j run there lt (omega (arith, sum, at)))

  -- a run of nothing may go
  pub joined-remove : (runs : List (List X)) (k : ℕ) → k < length runs → joined (remove runs k) ≡ joined (set runs k [])
  joined-remove [] k lt = absurd (omega (arith, lt))
  joined-remove (r ∷ runs) zero lt = refl
  joined-remove (r ∷ runs) (suc k) lt = ap (λ t. r ++ t) (joined-remove runs k (omega (arith, lt)))

-- a run that is read at such a spot
module _ {X : Type 0} (runs : List (List X)) (place k j : ℕ) (spot : IsSpot runs place k j) where
  pub spot_within : k < length runs
  spot_within = slice_get_within runs k spot.run spot.there

  pub spot_run : (run : List X) → run ≡ get_or runs k run → run ≡ spot.run
  spot_run run at = at ∙ get_or_from_slice_get runs k spot.run run spot.there

  pub spot_inside : (run : List X) → run ≡ get_or runs k run → j < length run
  spot_inside run at = subst (λ r. j < length r) (sym (spot_run run at)) spot.within

  pub spot_get : (run : List X) → run ≡ get_or runs k run → slice_get run j ≡ slice_get (joined runs) place
  spot_get run at = ap (λ r. slice_get r j) (spot_run run at) ∙ sym (get_joined runs place k j spot.run spot.there spot.within spot.behind)

  pub spot_set : (run : List X) (x : X) → run ≡ get_or runs k run
      → joined (set runs k (set run j x)) ≡ set (joined runs) place x
  spot_set run x at = ap (λ r. joined (set runs k (set r j x))) (spot_run run at) ∙ sym (set_joined runs place k j spot.run x spot.there spot.within spot.behind)

  pub spot_remove : (run : List X) → run ≡ get_or runs k run
      → joined (set runs k (remove run j)) ≡ remove (joined runs) place
  spot_remove run at = ap (λ r. joined (set runs k (remove r j))) (spot_run run at) ∙ sym (remove_joined runs place k j spot.run spot.there spot.within spot.behind)

  -- what a list with a changed run is
  module _ (items : List (List X)) (is : runs ≡ items) (all : List X) (same : joined items ≡ all) (run changed : List X) (at : run ≡ get_or runs k run) (new : List (List X))
      (put : joined new ≡ joined (set runs k changed)) where
    pub made_set : (x : X) → changed ≡ set run j x → joined new ≡ set all place x
    made_set x e =
        put ∙ (ap (λ r. joined (set runs k r)) e ∙ (spot_set run x at ∙ ap (λ l. set l place x) (ap joined is ∙ same)))

    pub made_remove : changed ≡ remove run j → joined new ≡ remove all place
    made_remove e =
        put ∙ (ap (λ r. joined (set runs k r)) e ∙ (spot_remove run at ∙ ap (λ l. remove l place) (ap joined is ∙ same)))

-- a walk over the runs of a list
module _ {X : Type 0} (all : List X) (runs : List (List X)) (same : joined runs ≡ all) (k : ℕ) where
  -- the k-th run stands in it behind those before
  pub run_at : (run : List X) → k < length runs → run ≡ get_or runs k run
      → IsRunAt all (length (joined (take k runs))) run
  run_at run lt at i x e =
      let there = slice_get-get_or runs k run lt ∙ ap Some (sym at) in
      ap (λ list. slice_get list (length (joined (take k runs)) + i)) (sym same)
      ∙ (get_joined runs (length (joined (take k runs)) + i) k i run there (slice_get_within run i x e) refl ∙ e)

  -- and the next one behind this
  pub run_next : (run : List X) → k < length runs → run ≡ get_or runs k run
      → length (joined (take k runs)) + length run ≡ length (joined (take (k + 1) runs))
  run_next run lt at = sym (ap length (joined-take runs k run lt at) ∙ length-append (joined (take k runs)) run)

  -- at the end all was read
  pub runs_read : length runs ≤ k → joined (take k runs) ≡ all
  runs_read le = ap joined (take_all k runs le) ∙ same
