use Rattle.std.proofs.Common.{◌≡◌, ◌+◌, ℕ, length, ap, sym, ◌∙◌, arith, ◌∷◌, [], ◌++◌, length-append, append_assoc, append-nil, List, subst}
use Rattle.std.specs.Vec.Iter.{into_iter_items}
use Rattle.std.specs.Prelude.{slice_get, Some}
use Rattle.cga_forest.specs.declared.node.Node.{Node}
use Rattle.cga_forest.specs.View.{at, kids, last_from, HasRoom, IsNewEntry}
use Rattle.cga_forest.specs.Tree.{depth_at}
use Rattle.cga_forest.proofs.Place.{IsPlaced-stays, IsPlaced-comes, same_kids, get_mid, nothing_left, stay_some, stay_none, same_stay, placed_start, placed_is}
use Rattle.cga_forest.proofs.slots.place_children.Goals as goal
use Rattle.cga_forest.proofs.slots.place_children.Goals.{in-Some-staying, in-None-staying}

pub loop-new-init : goal.loop-new-init
loop-new-init c = record {
  placed = placed_is _ _ _ _ _ _ _ _ (sym c.requires.empty) (placed_start _ _ _ _ _ _);
  front = c.into_iter-new-iterator.ensures.into_iter_gives.0;
  size = c.into_iter-new-iterator.ensures.into_iter_gives.1 ∙ (let e = ap length c.into_iter-new-iterator.ensures.into_iter_gives.0 in omega arith);
  counted = ap length c.requires.empty;
  room = subst (λ (ys : List Node). HasRoom c.args.store.now (length ys)) (sym c.into_iter-new-iterator.ensures.into_iter_gives.0) c.requires.room;
  space = c.requires.space;
}

pub add_node-child-requires : goal.add_node-child-requires
add_node-child-requires c = let steps = c.in-Some.ensures.steps.0 in let r = c.loop-new.invariant.room in let a = r.entries in let b = r.listed in let l = ap length steps in
    record { room = record { entries = omega arith; listed = omega arith } }

pub push_reserved-requires : goal.push_reserved-requires
push_reserved-requires c = let steps = c.in-Some.ensures.steps.0 in let l = ap length steps in let f = ap length c.loop-new.invariant.front in let k = c.loop-new.invariant.counted in let s = c.loop-new.invariant.space in
    omega (arith, length-append c.loop-new.yielded (into_iter_items c.loop-new.new-iterator))

pub loop-new-preserved : goal.loop-new-preserved
loop-new-preserved c =
    let old = λ (d : ℕ). at c.args.store.now d in
    let now = λ (d : ℕ). at c.loop-new.store d in
    let olds = kids (at c.args.store.now c.args.id) in
    let news = c.args.news.items in
    let made = c.loop-new.made.items in
    let p = c.loop-new.invariant.placed in
    let depth = depth_at (at c.args.store.now c.args.id) + 1 in
    let x = c.in-Some.new in
    let rest = into_iter_items c.next.new.self in
    let yielded = c.loop-new.yielded in
    let steps : into_iter_items c.loop-new.new-iterator ≡ x ∷ rest = c.in-Some.ensures.steps.0 in
    let split : yielded ++ x ∷ rest ≡ news = ap (λ ys. yielded ++ ys) (sym steps) ∙ c.loop-new.invariant.front in
    let counted : length made ≡ length yielded = c.loop-new.invariant.counted in
    let place : c.len-place.result ≡ length made = omega (arith, c.len-place.ensures) in
    let asked : slice_get news (length made) ≡ Some x = ap (slice_get news) counted ∙ ap (λ ys. slice_get ys (length yielded)) (sym split) ∙ get_mid yielded x rest in
    let same : kids (now c.args.id) ≡ olds = same_kids old now c.args.id depth c.args.marking olds news made p c.requires.here in
    let reads : slice_get (kids (now c.args.id)) c.len-place.result ≡ slice_get olds (length made) = ap (slice_get (kids (now c.args.id))) place ∙ ap (λ xs. slice_get xs (length made)) same in record {
      placed = rw c.push_reserved.ensures.items (elim c.match-staying.branch [
        | in-Some-staying w ↦ rw (w.store-is, w.child-is) (
            let t = stay_some now (slice_get (kids (now c.args.id)) c.len-place.result) x w.in-Some-staying.child (sym w.in-Some-staying.ensures) in
            let o : slice_get olds (length made) ≡ Some w.in-Some-staying.child = sym reads ∙ t.0 in
            IsPlaced-stays old now c.args.id depth c.args.marking olds news made p x asked w.in-Some-staying.child o (same_stay old now p.rest w.in-Some-staying.child (Some x) (c.requires.kids (length made) w.in-Some-staying.child o) ∙ t.1))
        | in-None-staying w ↦ rw (w.store-is, w.child-is) (
            IsPlaced-comes old now c.args.id depth c.args.marking olds news made p x asked (λ d. at w.add_node-child.new.store d) w.add_node-child.result w.add_node-child.ensures.vacant w.add_node-child.ensures.others
            (let t = c.requires.paths (length made) x asked in
            subst (λ j. IsNewEntry (at w.add_node-child.new.store w.add_node-child.result) (Some c.args.id) x depth j c.args.marking) t.1
            (subst (λ d. IsNewEntry (at w.add_node-child.new.store w.add_node-child.result) (Some c.args.id) x d (last_from 0 x.shape.path) c.args.marking) t.0 w.add_node-child.ensures.here))
            (λ j o. same_stay old now p.rest j (Some x) (c.requires.kids (length made) j o) ∙ stay_none now (slice_get (kids (now c.args.id)) c.len-place.result) x (sym w.in-None-staying.ensures) j (reads ∙ o)))
      ]);
      front = append_assoc yielded (x ∷ []) rest ∙ split;
      size = (let was = c.loop-new.invariant.size in let gone = c.in-Some.ensures.steps.1 in let short = ap length steps in omega arith);
      counted = rw c.push_reserved.ensures.items (omega (arith, length-append made (c.match-staying.child ∷ []), length-append yielded (x ∷ []), counted));
      room = elim c.match-staying.branch [
        | in-Some-staying w ↦ rw w.store-is (let r = c.loop-new.invariant.room in let a = r.entries in let b = r.listed in let l = ap length steps in record { entries = omega arith; listed = omega arith })
        | in-None-staying w ↦ rw w.store-is (w.add_node-child.ensures.room (length rest) (let r = c.loop-new.invariant.room in let a = r.entries in let b = r.listed in let l = ap length steps in record { entries = omega arith; listed = omega arith }))
      ];
      space = (let s = c.loop-new.invariant.space in let e = c.push_reserved.ensures.capacity in omega arith);
    }

pub returns-clause-placed : goal.returns-clause-placed
returns-clause-placed c = c.loop-new.invariant.placed

pub returns-clause-length : goal.returns-clause-length
returns-clause-length c =
    let none = c.in-None.ensures.steps in
    let empty : into_iter_items c.loop-new.new-iterator ≡ [] = nothing_left _ (sym c.loop-new.invariant.size ∙ none.0) in
    c.loop-new.invariant.counted ∙ ap length (sym (append-nil c.loop-new.yielded) ∙ ap (λ ys. c.loop-new.yielded ++ ys) (sym empty) ∙ c.loop-new.invariant.front)
