use Rattle.std.proofs.Common.{length, arith}
use Rattle.cga_derive.proofs.Streaks.{streak_before, streak_joined, streak_one}
use Rattle.cga_derive.proofs.streak.next_streak.Goals as goal

pub loop-first-init : goal.loop-first-init
loop-first-init c = record {
  within = omega arith;
  is = λ boxes are. streak_one boxes c.args.own (length c.args.streaks.now) are.size;
}

pub overflow_sub-first : goal.overflow_sub-first
overflow_sub-first c =
    let inside = c.loop-first.invariant.within in
    let before = streak_before c.requires.0 c.args.streaks.now c.loop-first.first c.index-streaks-first.result c.requires.1
    c.loop-first-test.true inside c.index-streaks-first.is in
    omega (arith, before.begins)

pub loop-first-smaller : goal.loop-first-smaller
loop-first-smaller c =
    let some = c.loop-first-test.true in
    let inside = c.loop-first.invariant.within in
    let before = streak_before c.requires.0 c.args.streaks.now c.loop-first.first c.index-streaks-first.result c.requires.1
    some inside c.index-streaks-first.is in
    omega (arith, before.begins, some)

pub loop-first-preserved : goal.loop-first-preserved
loop-first-preserved c =
    let streaks = c.args.streaks.now in
    let first = c.loop-first.first in
    let earlier = c.index-streaks-first.result in
    let some = c.loop-first-test.true in
    let inside = c.loop-first.invariant.within in
    let is = c.index-streaks-first.is in
    let before = streak_before c.requires.0 streaks first earlier c.requires.1 some inside is in record {
      within = omega (arith, before.begins, inside);
      is = λ boxes are.
          let whole = streak_before boxes streaks first earlier are some inside is in
          streak_joined boxes c.args.own (record { first = first; hull = c.loop-first.hull }) earlier c.hull-hull.result
          (c.loop-first.invariant.is boxes are) some whole c.hull-hull.ensures.least;
    }

pub returns : goal.returns
returns c = c.loop-first.invariant.is
