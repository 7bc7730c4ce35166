use Rattle.std.proofs.Common.{ℕ, ◌≡◌, length, sym, ap, ◌∙◌, arith, get_or}
use Rattle.std.proofs.lemmas.Option.{slice_get-get_or}
use Rattle.std.specs.Prelude.{Option}
use Rattle.cga_kept_hulls.specs.declared.hulls.Hulls.{Hulls}
use Rattle.cga_kept_hulls.specs.Hull.{at_hulls, with_hulls, over}
use Rattle.cga_forest.specs.View.{at, hulls_of}
use Rattle.cga_forest.proofs.Right.{over_zero, over_step}
use Rattle.cga_forest.proofs.hulls.join_all.Goals as goal

pub loop-place-init : goal.loop-place-init
loop-place-init c = sym (over_zero _ _ _)

pub loop-place-preserved : goal.loop-place-preserved
loop-place-preserved c =
    let H : ℕ → Option Hulls = λ d. hulls_of (at c.args.store.now d) in
    let place = c.loop-place.place in
    c.join_hulls.ensures ∙ ap (λ h. with_hulls h (H (get_or c.args.ids.now place 0))) c.loop-place.invariant
    ∙ ap (λ k. with_hulls (over H c.args.hulls.now c.args.ids.now place) (at_hulls H k)) (sym (slice_get-get_or c.args.ids.now place 0 c.loop-place-test.true))
    ∙ sym (over_step H c.args.hulls.now c.args.ids.now place)

pub returns : goal.returns
returns c =
    let whole : c.loop-place.place ≡ length c.args.ids.now = (let a = c.loop-place-test.false in let b = c.loop-place.auto.place-end in omega arith) in
    c.loop-place.invariant ∙ ap (over (λ d. hulls_of (at c.args.store.now d)) c.args.hulls.now c.args.ids.now) whole
