use Rattle.std.proofs.Common.{◌≡◌, ◌++◌, ℕ, List, length, arith, sym, ap, ◌∙◌}
use Rattle.std.specs.Prelude.{Option, slice_get}
use Rattle.cga_forest.specs.declared.node.Node.{Node}
use Rattle.cga_forest.specs.View.{at, kids}
use Rattle.cga_forest.specs.Tree.{stay_of}
use Rattle.cga_forest.specs.Gathered.{below, going}
use Rattle.cga_forest.proofs.Listed.{found_is, found_join, found_none, going_zero, going_step, going_still, going_at_none, going_at_stays, going_at_goes}
use Rattle.cga_forest.proofs.listing.list_going.Goals as goal
use Rattle.cga_forest.proofs.listing.list_going.Goals.{in-Some+then-not-stays+in_ok-list_below, in-Some+else-not-stays, in_default}

pub loop-place-init : goal.loop-place-init
loop-place-init c = found_none (λ k. at c.args.store.now k) _ _ (going_zero (λ d. kids (at c.args.store.now d)) c.args.left (λ k w. stay_of (at c.args.store.now k) w) (kids (at c.args.store.now c.args.id)) c.args.news.now)

pub loop-place-preserved : goal.loop-place-preserved
loop-place-preserved c =
    let s = λ (k : ℕ). at c.args.store.now k in
    let K = λ (d : ℕ). kids (at c.args.store.now d) in
    let P = λ (k : ℕ) (w : Option Node). stay_of (at c.args.store.now k) w in
    let olds = kids (at c.args.store.now c.args.id) in
    let news = c.args.news.now in
    let i = c.loop-place.place in
    let n = c.args.left in
    elim c.match-child_at.branch [
      | in-Some+then-not-stays+in_ok-list_below w ↦ rw w.list-is (found_is s _ _ _ _
          (ap (λ (l : List ℕ). going K n P olds news i ++ l) (sym (going_at_goes K n P (slice_get olds i) w.in-Some.child (slice_get news i) (sym w.in-Some.ensures) (sym w.stays.ensures ∙ w.if-not-stays.true))) ∙ sym (going_step K n P olds news i))
          (found_join s _ _ _ (going K n P olds news i) (below K n w.in-Some.child) c.loop-place.invariant w.in_ok-list_below.ensures))
      | in-Some+else-not-stays w ↦ rw w.list-is (found_is s _ _ _ _ (going_still K n P olds news i (going_at_stays K n P (slice_get olds i) w.in-Some.child (slice_get news i) (sym w.in-Some.ensures) (sym w.stays.ensures ∙ w.if-not-stays.false))) c.loop-place.invariant)
      | in_default w ↦ rw w.list-is (found_is s _ _ _ _ (going_still K n P olds news i (going_at_none K n P (slice_get olds i) (slice_get news i) (sym w.in_default.ensures))) c.loop-place.invariant)
    ]

pub returns : goal.returns
returns c =
    let s = λ (k : ℕ). at c.args.store.now k in
    let K = λ (d : ℕ). kids (at c.args.store.now d) in
    let P = λ (k : ℕ) (w : Option Node). stay_of (at c.args.store.now k) w in
    let olds = kids (at c.args.store.now c.args.id) in
    let done : c.loop-place.place ≡ length olds = (let a = c.loop-place-test.false in let b = c.loop-place.auto.place-end in let e = c.child_count-place-end.ensures in omega arith) in
    found_is s _ _ _ _ (ap (going K c.args.left P olds c.args.news.now) done) c.loop-place.invariant
