use Rattle.std.proofs.Common.{◌≤◌, ℕ, length, arith, ap, ◌∙◌, refl, ◌||◌, nat_eq, take}
use Rattle.cga_forest.specs.declared.node_change.NodeChange.{NodeChange}
use Rattle.cga_forest.specs.View.{at, flag_if}
use Rattle.cga_forest.specs.NodeChange.{is_listed}
use Rattle.cga_forest.proofs.Under.{any_take_all, flag_one, listed_more}
use Rattle.cga_forest.proofs.slots.set_aside_all.Goals as goal

pub loop-moved-init : goal.loop-moved-init
loop-moved-init c = record { so_far = λ d. refl; room = λ more r. r }

pub loop-moved-preserved : goal.loop-moved-preserved
loop-moved-preserved c =
    let old = λ (d : ℕ). at c.args.store.now d in
    let list = c.args.list.now in
    let i = c.loop-moved.moved-index in
    let m = c.moved-item.result in
    let k = c.number.result in
    record {
      so_far = λ d.
          flag_one old (λ e. at c.loop-moved.store e) (λ e. at c.flag-children.new.store e) (is_listed (take i list)) k c.loop-moved.invariant.so_far c.flag-children.ensures.here c.flag-children.ensures.others d
          ∙ ap (λ b. flag_if b (old d)) (ap (λ x. is_listed (take i list) d || nat_eq x d) c.number.ensures ∙ listed_more list i d m c.loop-moved-test.true c.moved-item.is);
      room = λ more r. c.flag-children.ensures.room more (c.loop-moved.invariant.room more r);
    }

pub returns-clause-pointwise : goal.returns-clause-pointwise
returns-clause-pointwise c d =
    let done : length c.args.list.now ≤ c.loop-moved.moved-index = (let t = c.loop-moved-test.false in omega arith) in
    c.loop-moved.invariant.so_far d ∙ ap (λ b. flag_if b (at c.args.store.now d)) (any_take_all (λ (m : NodeChange). nat_eq m.id d) c.args.list.now c.loop-moved.moved-index done)

pub returns-clause-room : goal.returns-clause-room
returns-clause-room c = c.loop-moved.invariant.room
