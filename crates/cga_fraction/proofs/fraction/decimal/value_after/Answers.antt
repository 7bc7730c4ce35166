use Rattle.std.proofs.Common.{◌-◌, ◌≤◌, ◌<◌, length, get_or, arith, refl}
use Rattle.cga_fraction.proofs.Digits.{digit_at, digit_range, after-more, next_small, room}
use Rattle.cga_fraction.proofs.fraction.decimal.value_after.Goals as goal

pub overflow_mul-value : goal.overflow_mul-value
overflow_mul-value c =
    let h : c.loop-digit.digit-index < length c.args.digits.now = omega arith in
    let r = room c.loop-digit.value (length c.args.digits.now) c.loop-digit.digit-index _ h c.loop-digit.invariant.small in
    omega arith

pub overflow_add-value : goal.overflow_add-value
overflow_add-value c =
    let h : c.loop-digit.digit-index < length c.args.digits.now = omega arith in
    let r = room c.loop-digit.value (length c.args.digits.now) c.loop-digit.digit-index _ h c.loop-digit.invariant.small in
    let d = digit_range (get_or c.args.digits.now c.loop-digit.digit-index 0) (digit_at c.args.digits.now c.loop-digit.digit-index c.requires.digits h) in
    omega arith

pub loop-digit-preserved : goal.loop-digit-preserved
loop-digit-preserved c =
    let h : c.loop-digit.digit-index < length c.args.digits.now = omega arith in
    let d = digit_range (get_or c.args.digits.now c.loop-digit.digit-index 0) (digit_at c.args.digits.now c.loop-digit.digit-index c.requires.digits h) in
    let digit : get_or c.args.digits.now c.loop-digit.digit-index 0 - 48 ≤ 9 = omega arith in
    record {
      value = rw (after-more c.args.start c.args.digits.now c.loop-digit.digit-index h, ← c.loop-digit.invariant.value, d.2) refl;
      small = next_small c.loop-digit.value _ (length c.args.digits.now) c.loop-digit.digit-index _ h digit c.loop-digit.invariant.small;
    }
