use Rattle.std.proofs.Common.{◌-◌, length, sym, ap, ◌∙◌, arith}
use Rattle.cga_frame.specs.Box.{box_of, touches}
use Rattle.cga_derive.proofs.Compared.{compared_full, compared_joined, compared_none, compared_past}
use Rattle.cga_derive.proofs.Streaks.{none_meets, streak_there}
use Rattle.cga_derive.proofs.answers.compared.Goals as goal

pub loop-left-init : goal.loop-left-init
loop-left-init c = record {
  within = omega arith;
  found = compared_none c.args.target c.args.shape.now c.args.list.now (length c.args.list.now) (omega arith);
}

pub returns-then-is_full : goal.returns-then-is_full
returns-then-is_full c =
    let t = c.args.target in
    let s = c.args.shape.now in
    let list = c.args.list.now in
    let left = c.loop-left.left in
    let inv = c.loop-left.invariant in
    let joined = compared_joined t s list left c.index-list-left.result c.one_compared.result c.loop-left.found c.joined-found.result
    c.loop-left-test.true inv.within c.index-list-left.is c.one_compared.ensures inv.found c.joined-found.ensures in
    compared_full t s list (left - 1) (sym joined ∙ c.is_full.ensures.full c.if-is_full.true)

pub loop-left-smaller : goal.loop-left-smaller
loop-left-smaller c =
    let some = c.loop-left-test.true in
    let inv = c.loop-left.invariant in
    let there = streak_there c.args.list.now c.args.streaks.now c.loop-left.left c.index-streaks-left.result c.requires.boxed some
    inv.within c.index-streaks-left.is in
    omega (arith, there.1, some)

pub loop-left-preserved-else-is_full : goal.loop-left-preserved-else-is_full
loop-left-preserved-else-is_full c =
    let t = c.args.target in
    let s = c.args.shape.now in
    let list = c.args.list.now in
    let left = c.loop-left.left in
    let inv = c.loop-left.invariant in record {
      within = omega (arith, inv.within);
      found = compared_joined t s list left c.index-list-left.result c.one_compared.result c.loop-left.found c.joined-found.result
          c.loop-left-test.true inv.within c.index-list-left.is c.one_compared.ensures inv.found c.joined-found.ensures;
    }

pub loop-left-preserved : goal.loop-left-preserved
loop-left-preserved c =
    let list = c.args.list.now in
    let streaks = c.args.streaks.now in
    let s = c.args.shape.now in
    let left = c.loop-left.left in
    let streak = c.index-streaks-left.result in
    let inside = c.loop-left.invariant.within in
    let there = streak_there list streaks left streak c.requires.boxed c.loop-left-test.true inside c.index-streaks-left.is in
    let off = ap (touches streak.hull) (sym c.requires.own) ∙ (sym c.touches.ensures.value ∙ c.if-touches.false) in
    let apart = none_meets list streaks (left - 1) streak (box_of s.scope) c.requires.boxed there.0 off in record {
      within = omega (arith, there.1, inside);
      found = c.loop-left.invariant.found
          ∙ sym (compared_past c.args.target s list streak.first left (omega (arith, there.1)) inside
          (λ i m from to at. apart i m from (omega (arith, to)) at));
    }
