use Rattle.std.proofs.Common.{◌+◌, ◌*◌, ◌-◌, ◌<◌, length, get_or, arith, refl}
use Rattle.cga_fraction.proofs.Door.{after-more, digit_at, digit_range}
use Rattle.cga_asset.proofs.Digits.{too_large}
use Rattle.cga_asset.proofs.numbers.value.Goals as goal

pub returns-then-value-gt-MOST_LINES : goal.returns-then-value-gt-MOST_LINES
returns-then-value-gt-MOST_LINES c =
    let h : c.loop-digit.digit-index < length c.args.digits.now = omega arith in
    let d = digit_range (get_or c.args.digits.now c.loop-digit.digit-index 0) (digit_at c.args.digits.now c.loop-digit.digit-index c.requires h) in
    too_large c.args.digits.now (c.loop-digit.digit-index + 1) (c.loop-digit.value * 10 + (get_or c.args.digits.now c.loop-digit.digit-index 0 - 48))
    (rw (after-more 0 c.args.digits.now c.loop-digit.digit-index h, ← c.loop-digit.invariant.value, d.2) refl) (omega arith)

pub loop-digit-preserved : goal.loop-digit-preserved
loop-digit-preserved c =
    let h : c.loop-digit.digit-index < length c.args.digits.now = omega arith in
    let d = digit_range (get_or c.args.digits.now c.loop-digit.digit-index 0) (digit_at c.args.digits.now c.loop-digit.digit-index c.requires h) in
    record {
      value = rw (after-more 0 c.args.digits.now c.loop-digit.digit-index h, ← c.loop-digit.invariant.value, d.2) refl;
      small = omega arith;
    }
