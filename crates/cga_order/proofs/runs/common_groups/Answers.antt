use Rattle.std.proofs.Common.{◌≡◌, ℕ, ◌+◌, ◌-◌, ◌++◌, List, take, drop, take-add, sym, ap, ◌∙◌, arith}
use Rattle.std.specs.Cmp.Lexicographic.{same_text}
use Rattle.cga_order.proofs.runs.common_groups.Goals as goal

-- one more group in which two lists agree
one_group : (n : ℕ) (xs ys : List ℕ) → take n xs ≡ take n ys → take ((n + 16) - n) (drop n xs) ≡ take ((n + 16) - n) (drop n ys)
    → take (n + 16) xs ≡ take (n + 16) ys
one_group n xs ys before group =
    let sixteen : (n + 16) - n ≡ 16 = omega arith in
    let next = sym (ap (λ m. take m (drop n xs)) sixteen) ∙ group ∙ ap (λ m. take m (drop n ys)) sixteen in
    take-add n 16 xs ∙ ap (λ l. l ++ take 16 (drop n xs)) before ∙ ap (λ l. take n ys ++ l) next ∙ sym (take-add n 16 ys)

pub loop-common-preserved : goal.loop-common-preserved
loop-common-preserved c = (
  omega (arith, c.loop-common-test.true, c.loop-common.invariant.0),
  one_group c.loop-common.common c.args.xs.now c.args.ys.now c.loop-common.invariant.1 (same_text _ _ (sym c.if-same_steps.true ∙ c.same_steps.ensures)),
)
