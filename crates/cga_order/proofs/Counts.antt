-- Each step leaves one more member that is expanded.
use Rattle.std.proofs.Common.{◌≡◌, ℕ, ◌+◌, ◌≤◌, List, [], ◌∷◌, ◌++◌, length, map, true, false, cond, refl, ap, ◌∙◌, inl, inr, arith}
use Rattle.cga_order.specs.World.{World, IsWorld, Placed, Kind, Waiting, Done, Faulted, Instance, Has, place_of}
use Rattle.cga_order.specs.Run.{same_place, become, outcome, IsStep, Reached}
use Rattle.cga_order.proofs.Maxima.{either}
use Rattle.cga_order.proofs.Members.{same_place-is, same_place-not}
use Rattle.cga_order.proofs.Steps as steps

-- 1 for a member that is expanded
abbrev expanded_one : {F P : Type 0} → Kind F P → ℕ
expanded_one Waiting = 0
expanded_one Done = 1
expanded_one (Faulted f) = 1
expanded_one (Instance p) = 0

expanded_one-bound : {F P : Type 0} (k : Kind F P) → expanded_one k ≤ 1
expanded_one-bound Waiting = omega arith
expanded_one-bound Done = omega arith
expanded_one-bound (Faulted f) = omega arith
expanded_one-bound (Instance p) = omega arith

module _ {N F P : Type 0} where
  abbrev expanded_count : List (Placed N F P) → ℕ
  expanded_count [] = 0
  expanded_count (m ∷ ms) = expanded_one m.kind + expanded_count ms

  expanded_count-append : (xs ys : List (Placed N F P)) → expanded_count xs ≤ expanded_count (xs ++ ys)
  expanded_count-append [] ys = omega arith
  expanded_count-append (m ∷ xs) ys = omega (arith, expanded_count-append xs ys)

  expanded_count-bound : (xs : List (Placed N F P)) → expanded_count xs ≤ length xs
  expanded_count-bound [] = omega arith
  expanded_count-bound (m ∷ xs) = omega (arith, expanded_count-bound xs, expanded_one-bound m.kind)

module _ {N A F P : Type 0} (world : World N A F P) (laws : IsWorld world) where
  abbrev Members : Type 0
  Members = List (Placed N F P)

  -- all that stands where s stands waits
  abbrev AllWait : N → Members → Type 0
  AllWait s xs = (n : N) (k : Kind F P) → Has xs n k → place_of world n ≡ place_of world s → k ≡ Waiting

  there : (s : N) (k : Kind F P) (m : Placed N F P) → same_place (world.chain m.shape) (world.chain s) ≡ true
      → (become world s k m).kind ≡ k
  there s k m e = ap (λ b. (cond b (record { shape = m.shape; kind = k }) m).kind) e

  elsewhere : (s : N) (k : Kind F P) (m : Placed N F P) → same_place (world.chain m.shape) (world.chain s) ≡ false
      → (become world s k m).kind ≡ m.kind
  elsewhere s k m e = ap (λ b. (cond b (record { shape = m.shape; kind = k }) m).kind) e

  kept : (s : N) (kind : Kind F P) (xs : Members) → AllWait s xs → expanded_one kind ≡ 1
      → expanded_count xs ≤ expanded_count (map (become world s kind) xs)
  kept s kind [] wait one = omega arith
  kept s kind (m ∷ xs) wait one =
      let rest = kept s kind xs (λ n k h. wait n k (inr h)) one in
      elim (either (same_place (world.chain m.shape) (world.chain s))) [
        | inl e ↦
            let was : expanded_one m.kind ≡ 0 = ap expanded_one (wait m.shape m.kind (inl (refl, refl)) (same_place-is (world.chain m.shape) (world.chain s) e)) in
            omega (arith, rest, was)
        | inr e ↦
            let now : expanded_one (become world s kind m).kind ≡ expanded_one m.kind = ap expanded_one (elsewhere s kind m e) in
            omega (arith, rest, now)
      ]

  more : (s : N) (kind : Kind F P) (xs : Members) → AllWait s xs → expanded_one kind ≡ 1 → (k : Kind F P) → Has xs s k
      → expanded_count xs + 1 ≤ expanded_count (map (become world s kind) xs)
  more s kind [] wait one k h = absurd h
  more s kind (m ∷ xs) wait one k h =
      elim (either (same_place (world.chain m.shape) (world.chain s))) [
        | inl e ↦
            let was : expanded_one m.kind ≡ 0 = ap expanded_one (wait m.shape m.kind (inl (refl, refl)) (same_place-is (world.chain m.shape) (world.chain s) e)) in
            let now : expanded_one (become world s kind m).kind ≡ 1 = ap expanded_one (there s kind m e) ∙ one in
            omega (arith, kept s kind xs (λ n j g. wait n j (inr g)) one, was, now)
        | inr e ↦ elim h [
          | inl q ↦ absurd (same_place-not (world.chain m.shape) (world.chain s) e (ap (place_of world) q.0))
          | inr r ↦
              let now : expanded_one (become world s kind m).kind ≡ expanded_one m.kind = ap expanded_one (elsewhere s kind m e) in
              omega (arith, more s kind xs (λ n j g. wait n j (inr g)) one k r, now)
        ]
      ]

  expanded_one-after : (k : Kind F P) → steps.IsExpanded world k → expanded_one k ≡ 1
  expanded_one-after k x = elim x [ inl d ↦ ap expanded_one d | inr f ↦ ap expanded_one f.1 ]

  count-step : (C D : Members) (s : N) → steps.IsOrdered world C → IsStep world C D s
      → expanded_count C + 1 ≤ expanded_count D
  count-step C D s good step =
      let kind = steps.kind_after world (outcome world C s) in
      let cs = steps.children_of world (outcome world C s) in
      let grew = more s kind C (λ n k h e. (good.distinct n s k Waiting h step.waits e).1) (expanded_one-after kind (steps.expanded_after world (outcome world C s))) Waiting step.waits in
      let is : expanded_count D ≡ expanded_count (map (become world s kind) C ++ cs) = ap expanded_count (step.told ∙ steps.told-is world C s (outcome world C s)) in
      omega (arith, grew, expanded_count-append (map (become world s kind) C) cs, is)

  count-taken : (taken : List N) (C : Members) → Reached world taken C → length taken ≤ expanded_count C
  count-taken [] C e = omega arith
  count-taken (s ∷ taken) D (C, reached, step) = omega (arith, count-taken taken C reached, count-step C D s (steps.in_order world laws taken C reached) step)

  -- a configuration has at least as many members as shapes were taken
  pub length-taken : (taken : List N) (C : Members) → Reached world taken C → length taken ≤ length C
  length-taken taken C reached = omega (arith, count-taken taken C reached, expanded_count-bound C)
