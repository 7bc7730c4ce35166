use Rattle.std.proofs.Common.{◌≡◌, ◌<◌, ℕ, sym, ap, ◌∙◌, subst, unsigned_abs, rules, w64}
use Rattle.std.proofs.lemmas.Int.{to_z-of_z}
use Rattle.std.specs.Int.RustNames.{FitsSigned}
use Rattle.cga_split.specs.Repeat.{count_of}
use Rattle.cga_split.proofs.Shares.{count_some}
use Rattle.cga_split.proofs.repeats.repeated.Goals as goal

pub counted-requires-clause-count : goal.counted-requires-clause-count
counted-requires-clause-count c =
    let fits : FitsSigned w64 c.ceil.result = search rules in
    let count : c.magnitude.result ≡ count_of c.in-Ok.count = c.magnitude.ensures ∙ ap unsigned_abs (to_z-of_z w64 _ fits ∙ c.ceil.ensures.value) in
    subst (λ (n : ℕ). 0 < n) (sym count)
    (count_some c.along-length.result c.args.step c.in-Ok.count (sym (c.if-not-is_positive.ensures {u = tt})) (sym (c.if-not-is_positive-2.ensures {u = tt})) (sym (c.in-Ok.ensures {u = tt})))
