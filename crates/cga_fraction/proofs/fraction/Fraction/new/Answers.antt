use Rattle.std.proofs.Common.{◌≡◌, ◌∙◌, sym, ap, rules, pos, ℤ, ℕ, unsigned_abs, neg_ℤ, w64, to_z, of_z}
use Rattle.std.specs.Prelude.{◌<ℤ◌}
use mir.Syntax.{w128}
use Rattle.std.proofs.lemmas.Int.{to_z-of_z, ints}
use Rattle.std.specs.Int.RustNames.{FitsSigned}
use Rattle.cga_fraction.specs.Rat.{of_int}
use Rattle.cga_fraction.specs.Arithmetic.{reduced}
use Rattle.cga_fraction.specs.Refusals.{checked}
use Rattle.cga_fraction.proofs.Quotients.{by_zero, by_negative_int, by_positive_int}
use Rattle.cga_fraction.proofs.fraction.Fraction.new.Goals as goal

pub returns-then-d-eq0 : goal.returns-then-d-eq0
returns-then-d-eq0 c =
    let e : c.args.d ≡ pos 0 = search rules in
    sym (by_zero (of_int c.args.n) (of_int c.args.d) e)

pub returns-then-d-lt0 : goal.returns-then-d-lt0
returns-then-d-lt0 c =
    let h : c.args.d <ℤ pos 0 = search rules in
    let f : FitsSigned w128 c.negated.result = search rules in
    let n : c.negated.result ≡ neg_ℤ c.args.n = c.negated.ensures ∙ ap neg_ℤ (to_z-of_z w64 _ c.ranges.n) in
    let d : c.unsigned_abs.result ≡ unsigned_abs c.args.d = c.unsigned_abs.ensures.value ∙ ap unsigned_abs (to_z-of_z w64 _ c.ranges.d) in
    by_negative_int c.args.n c.args.d _ _ h
    (c.in_lowest_terms.ensures ∙ ap (λ (z : ℤ). checked (reduced z c.unsigned_abs.result)) (to_z-of_z w128 _ f ∙ n) ∙ ap (λ (k : ℕ). checked (reduced (neg_ℤ c.args.n) k)) d)
    c.as_quotient.ensures

pub returns : goal.returns
returns c =
    let h : pos 0 <ℤ c.args.d = search (rules, ints) in
    let f : FitsSigned w128 c.args.n = search (rules, ints) in
    let d : c.unsigned_abs-2.result ≡ unsigned_abs c.args.d = c.unsigned_abs-2.ensures.value ∙ ap unsigned_abs (to_z-of_z w64 _ c.ranges.d) in
    by_positive_int c.args.n c.args.d _ _ h
    (c.in_lowest_terms-2.ensures ∙ ap (λ (z : ℤ). checked (reduced (to_z w128 (of_z w128 z)) c.unsigned_abs-2.result)) (to_z-of_z w64 _ c.ranges.n) ∙ ap (λ (z : ℤ). checked (reduced z c.unsigned_abs-2.result)) (to_z-of_z w128 _ f) ∙ ap (λ (k : ℕ). checked (reduced c.args.n k)) d)
    c.as_quotient-2.ensures
