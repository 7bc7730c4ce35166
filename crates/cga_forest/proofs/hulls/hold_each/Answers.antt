use Rattle.std.proofs.Common.{◌≡◌, ◌∙◌, ◌≤◌, Some, inl, inr, sym, ap, arith, length, slice_index_or}
use Rattle.std.specs.Prelude.{slice_get}
use Rattle.cga_fraction.proofs.Door.{eq_or_ne as nat_cases, lt-length_from_slice_get as get_within}
use Rattle.cga_forest.specs.View.{at, hulls_of}
use Rattle.cga_forest.proofs.Listed.{got_at}
use Rattle.cga_forest.proofs.hulls.hold_each.Goals as goal

pub loop-index-init : goal.loop-index-init
loop-index-init c i k h lt at e = absurd (omega (arith, lt))

pub loop-index-preserved : goal.loop-index-preserved
loop-index-preserved c i k h lt here e = elim (nat_cases i c.loop-index.index) [
  | inl q ↦ (
      let ids = c.args.ids.now in
      let n = c.loop-index.index in
      let z : Some (slice_index_or ids n 0) ≡ Some k = sym (got_at ids n 0 c.loop-index-test.true) ∙ ap (slice_get ids) (sym q) ∙ here in
      let same : slice_index_or ids n 0 ≡ k = (cc) in
      c.holds_at.ensures c.if-not-holds_at.false h (ap (λ x. hulls_of (at c.args.store.now x)) same ∙ e))
  | inr ne ↦ c.loop-index.invariant i k h (omega (arith, lt)) here e
]

pub returns : goal.returns
returns c told i k h here e =
    let done : length c.args.ids.now ≤ c.loop-index.index = (let t = c.loop-index-test.false in omega arith) in
    let lt = get_within c.args.ids.now i k here in
    c.loop-index.invariant i k h (omega arith) here e
