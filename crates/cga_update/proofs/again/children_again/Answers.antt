use Rattle.std.proofs.Common.{◌≡◌, ◌∷◌, [], List, ◌+◌, sym, subst, ap, ◌∙◌, length, length-append, arith}
use Rattle.cga_shape.specs.declared.emitted.Emitted.{Emitted}
use Rattle.cga_forest.specs.View.{Seen}
use Rattle.cga_forest.specs.Tree.{node_at}
use Rattle.std.proofs.Common.{Some}
use Rattle.cga_update.specs.Turned.{AreEmitted}
use Rattle.cga_update.proofs.Emitted.{all_emitted, child_there, emitted_next, few_emitted, in_tree}
use Rattle.cga_update.proofs.again.children_again.Goals as goal

pub children-count-requires : goal.children-count-requires
children-count-requires c = in_tree c.args.forest.now c.laws.ensures c.args.id c.requires.here

pub child-child-requires-clause-node : goal.child-child-requires-clause-node
child-child-requires-clause-node c = in_tree c.args.forest.now c.laws.ensures c.args.id c.requires.here

pub child_again-requires : goal.child_again-requires
child_again-requires c = record { here = child_there c.args.forest.now c.laws.ensures c.args.id c.loop-place.place c.child-child.result c.requires.here c.child-child.ensures }

pub loop-place-preserved : goal.loop-place-preserved
loop-place-preserved c =
    record {
      emitted = subst (λ (l : List Emitted). (e : Seen) → node_at c.args.forest.now c.args.id ≡ Some e → AreEmitted c.args.forest.now e (c.loop-place.place + 1) l) (sym c.in_ok-push.ensures.items)
          (emitted_next c.args.forest.now c.args.id c.loop-place.place c.child-child.result c.loop-place.made.items c.in_ok-child_again.field-0 c.loop-place.invariant.emitted c.child-child.ensures c.in_ok-child_again.ensures);
      sized = ap length c.in_ok-push.ensures.items ∙ length-append c.loop-place.made.items (c.in_ok-child_again.field-0 ∷ []) ∙ ap (λ n. n + 1) c.loop-place.invariant.sized;
    }

pub returns-clause-emitted : goal.returns-clause-emitted
returns-clause-emitted c =
    let end : c.loop-place.place ≡ c.children-count.result = omega (arith, c.loop-place-test.false, c.loop-place.auto.place-end) in
    all_emitted c.args.forest.now c.args.id c.loop-place.place c.children-count.result c.loop-place.made.items c.from_vec.result c.loop-place.invariant.emitted c.from_vec.ensures c.children-count.ensures end

pub returns-clause-few : goal.returns-clause-few
returns-clause-few c =
    let end : c.loop-place.place ≡ c.children-count.result = omega (arith, c.loop-place-test.false, c.loop-place.auto.place-end) in
    few_emitted c.args.forest.now c.laws.ensures c.args.id c.loop-place.place c.children-count.result c.loop-place.made.items c.from_vec.result
    c.requires.here c.loop-place.invariant.sized c.from_vec.ensures c.children-count.ensures end
