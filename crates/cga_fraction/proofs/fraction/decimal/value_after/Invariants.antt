use Rattle.std.proofs.Common.{◌≡◌, ◌+◌, ◌-◌, ◌*◌, ◌^◌, ◌≤◌, length, take}
use Rattle.std.specs.Str.Parse.{digits_value_after}
use Rattle.cga_fraction.proofs.fraction.decimal.value_after.Given as goal

abbrev pub invariant-loop-digit : goal.invariant-loop-digit
invariant-loop-digit l = record {
  value : l.value ≡ digits_value_after 10 l.fn.start (take l.digit-index l.digits);
  small : (l.value + 1) * 10 ^ (length l.digits - l.digit-index) ≤ (l.fn.start + 1) * 10 ^ length l.digits;
}
