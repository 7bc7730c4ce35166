use Rattle.std.proofs.Common.{◌≡◌, ◌++◌, ℕ, sym, ap, ◌∙◌, length, arith}
use Rattle.cga_forest.specs.View.{at, kids}
use Rattle.cga_forest.specs.Gathered.{coming, found}
use Rattle.cga_forest.proofs.Listed.{coming_zero, coming_more, coming_same, found_is, found_join, found_none, got_at}
use Rattle.cga_forest.proofs.listing.list_coming.Goals as goal
use Rattle.cga_forest.proofs.listing.list_coming.Goals.{then-comes, else-comes}

pub loop-place-init : goal.loop-place-init
loop-place-init c = record {
  items = found_none (λ k. at c.args.store.now k) _ _ (coming_zero (kids (at c.args.store.now c.args.id)) c.args.children.now);
  room = omega (arith, c.requires);
}

pub list_reserved-requires : goal.list_reserved-requires
list_reserved-requires c =
    let r = c.loop-place.invariant.room in
    let t = c.loop-place-test.true in
    record { room = omega (arith, r, t) }

pub loop-place-preserved : goal.loop-place-preserved
loop-place-preserved c =
    let s = λ (k : ℕ). at c.args.store.now k in
    let olds = kids (at c.args.store.now c.args.id) in
    let children = c.args.children.now in
    let i = c.loop-place.place in
    let here = got_at children i 0 c.loop-place-test.true in
    record {
      items = elim c.if-comes.branch [
        | then-comes w ↦ rw w.list-is (
            found_is s _ _ _ _ (coming_more olds children i _ here (sym c.comes.ensures ∙ w.if-comes.true))
            (found_join s _ _ _ (coming olds children i) _ c.loop-place.invariant.items w.list_reserved.ensures.items))
        | else-comes w ↦ rw w.list-is (
            found_is s _ _ _ _ (coming_same olds children i _ here (sym c.comes.ensures ∙ w.if-comes.false)) c.loop-place.invariant.items)
      ];
      room = elim c.if-comes.branch [
        | then-comes w ↦ rw w.list-is (let a = c.loop-place.invariant.room in let b = w.list_reserved.ensures.longer in let k = w.list_reserved.ensures.cap in omega arith)
        | else-comes w ↦ rw w.list-is (let a = c.loop-place.invariant.room in omega arith)
      ];
    }

pub returns : goal.returns
returns c =
    let e : c.loop-place.place ≡ length c.args.children.now = (let t = c.loop-place-test.false in let u = c.loop-place.auto.place-end in omega arith) in
    c.loop-place.invariant.items ∙ ap (λ n. c.args.list.now.items ++ found (λ k. at c.args.store.now k) (coming (kids (at c.args.store.now c.args.id)) c.args.children.now n)) e
