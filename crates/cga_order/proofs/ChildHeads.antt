-- The head of a child's chain.
use Rattle.std.proofs.Common.{ℕ, Bool, true, false, ◌≡◌, List, [], ◌∷◌, ◌++◌, length, arith, refl}
use Rattle.std.specs.Prelude.{nat_le, slice_index, if◌then◌else◌}
use Rattle.std.proofs.lemmas.Grind.{common_steps}
use Rattle.cga_order.specs.Head.{IsHead, child_head}

-- by whether the own priority is as great as all before it
by_own : (priorities : List ℕ) (head own : ℕ) (b : Bool) → b ≡ nat_le (slice_index priorities head) own
    → IsHead priorities head → IsHead (priorities ++ own ∷ []) (if b then length priorities else head)
by_own priorities head own true e h = record {
  within = grind (arith, common_steps);
  greatest = λ depth d. grind (arith, common_steps);
  deepest = λ depth d k. grind (arith, common_steps);
}
by_own priorities head own false e h = record {
  within = grind (arith, common_steps);
  greatest = λ depth d. grind (arith, common_steps);
  deepest = λ depth d k. grind (arith, common_steps);
}

-- where a depth is the head of some priorities, the child's head is that of these with its own behind
pub child_is_head : (priorities : List ℕ) (head own : ℕ) → IsHead priorities head
    → IsHead (priorities ++ own ∷ []) (child_head priorities head own)
child_is_head priorities head own h = by_own priorities head own (nat_le (slice_index priorities head) own) refl h
