use Rattle.std.proofs.Common.{ℕ, ◌-◌, ◌≤◌, ◌∷◌, List, length, take, arith, sym, ap, ◌∙◌}
use Rattle.std.specs.List.{flat_map}
use Rattle.std.proofs.lemmas.List.{take_all}
use Rattle.cga_forest.specs.View.{at, kids}
use Rattle.cga_forest.specs.Gathered.{below}
use Rattle.cga_forest.proofs.Listed.{below_step, below_zero, flat_next, found_is, found_join, found_none, take_none}
use Rattle.cga_forest.proofs.listing.+list_below.Goals as goal
use Rattle.cga_forest.proofs.listing.+list_below.Goals.{in-Some+in_ok-list_below, in_default}

pub loop-place-init : goal.loop-place-init
loop-place-init t c = c.in_ok-list_one.ensures

pub loop-place-preserved : goal.loop-place-preserved
loop-place-preserved t c =
    let s = λ (k : ℕ). at c.args.store.now k in
    let K = λ (d : ℕ). kids (at c.args.store.now d) in
    let id = c.args.id in
    let f = below K (c.args.left - 1) in
    let i = c.loop-place.place in
    elim c.match-child_at.branch [
      | in-Some+in_ok-list_below w ↦ rw w.list-is (found_is s _ _ _ _ (ap (λ (l : List ℕ). id ∷ l) (sym (flat_next f (K id) i w.in-Some.child (sym w.in-Some.ensures))))
          (found_join s _ _ _ (id ∷ flat_map f (take i (K id))) (f w.in-Some.child) c.loop-place.invariant w.in_ok-list_below.ensures))
      | in_default w ↦ rw w.list-is (found_is s _ _ _ _ (ap (λ (l : List ℕ). id ∷ flat_map f l) (sym (take_none (K id) i (sym w.in_default.ensures)))) c.loop-place.invariant)
    ]

pub returns-after-loop-place : goal.returns-after-loop-place
returns-after-loop-place t c =
    let K = λ (d : ℕ). kids (at c.args.store.now d) in
    let id = c.args.id in
    let f = below K (c.args.left - 1) in
    let done : length (K id) ≤ c.loop-place.place = omega (arith, c.child_count-place-end.ensures) in
    found_is (λ k. at c.args.store.now k) _ _ _ _ (ap (λ (l : List ℕ). id ∷ flat_map f l) (take_all c.loop-place.place (K id) done) ∙ sym (below_step K c.args.left id c.if-left-gt0.true)) c.loop-place.invariant

pub returns-else-left-gt0 : goal.returns-else-left-gt0
returns-else-left-gt0 t c = found_none (λ k. at c.args.store.now k) _ _ (below_zero (λ e. kids (at c.args.store.now e)) c.args.left c.args.id c.if-left-gt0.false)
