use Rattle.std.proofs.Common.{arith, rules, inl, inr, ◌∙◌, ap, w64, unsigned_abs, ℤ}
use mir.Syntax.{w128}
use Rattle.std.proofs.lemmas.Int.{to_z-of_z}
use Rattle.std.specs.Int.RustNames.{FitsSigned}
use Rattle.cga_fraction.specs.Arithmetic.{with_sign}
use Rattle.cga_fraction.proofs.Gcds.{gcd_positive}
use Rattle.cga_fraction.proofs.Lowest.{formed, formed_beyond, formed_is, quotients}
use Rattle.cga_fraction.proofs.fraction.Fraction.in_lowest_terms.Goals as goal
use Rattle.cga_fraction.proofs.fraction.Fraction.in_lowest_terms.Goals.{then-magnitude-gt-LIMIT-via-then-magnitude-gt-LIMIT}
use Rattle.cga_fraction.proofs.fraction.Fraction.in_lowest_terms.Goals.{then-magnitude-gt-LIMIT-via-else-magnitude-gt-LIMIT+then-denominator-gt-LIMIT}

pub quotient-magnitude-requires : goal.quotient-magnitude-requires
quotient-magnitude-requires c = rw c.common_divisor-common.ensures (gcd_positive _ _ c.requires)

pub quotient-denominator-requires : goal.quotient-denominator-requires
quotient-denominator-requires c = rw c.common_divisor-common.ensures (gcd_positive _ _ c.requires)

pub returns-then-magnitude-gt-LIMIT : goal.returns-then-magnitude-gt-LIMIT
returns-then-magnitude-gt-LIMIT c =
    let size = ap unsigned_abs (to_z-of_z w128 _ c.ranges.n) in
    let are = quotients c.args.n c.args.d _ _ _ _ _ (c.unsigned_abs.ensures.value ∙ size) (c.unsigned_abs-2.ensures.value ∙ size) c.common_divisor-common.ensures c.quotient-magnitude.ensures c.quotient-denominator.ensures in
    formed_beyond c.args.n c.args.d _ _ are
    (elim c.then-magnitude-gt-LIMIT.branch [
      | then-magnitude-gt-LIMIT-via-then-magnitude-gt-LIMIT w ↦ inl (omega arith)
      | then-magnitude-gt-LIMIT-via-else-magnitude-gt-LIMIT+then-denominator-gt-LIMIT w ↦ inr (omega arith)
    ])
    c.requires

pub invariant_of-result : goal.invariant_of-result
invariant_of-result c =
    let f : FitsSigned w64 c.signed_like.result = search rules in
    let z = to_z-of_z w64 _ f ∙ c.signed_like.ensures ∙ ap (λ (k : ℤ). with_sign k c.quotient-magnitude.result) (to_z-of_z w128 _ c.ranges.n) in
    let size = ap unsigned_abs (to_z-of_z w128 _ c.ranges.n) in
    let are = quotients c.args.n c.args.d _ _ _ _ _ (c.unsigned_abs.ensures.value ∙ size) (c.unsigned_abs-2.ensures.value ∙ size) c.common_divisor-common.ensures c.quotient-magnitude.ensures c.quotient-denominator.ensures in
    formed_is c.args.n c.args.d _ _ _ are z (omega arith) (omega arith) c.requires

pub returns : goal.returns
returns c =
    let f : FitsSigned w64 c.signed_like.result = search rules in
    let z = to_z-of_z w64 _ f ∙ c.signed_like.ensures ∙ ap (λ (k : ℤ). with_sign k c.quotient-magnitude.result) (to_z-of_z w128 _ c.ranges.n) in
    let size = ap unsigned_abs (to_z-of_z w128 _ c.ranges.n) in
    let are = quotients c.args.n c.args.d _ _ _ _ _ (c.unsigned_abs.ensures.value ∙ size) (c.unsigned_abs-2.ensures.value ∙ size) c.common_divisor-common.ensures c.quotient-magnitude.ensures c.quotient-denominator.ensures in
    formed c.args.n c.args.d _ _ _ are z (omega arith) (omega arith) c.requires
