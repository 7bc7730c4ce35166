-- What other crates may cite of cga_fraction. All other pages of its proofs are its own.

-- Arithmetic of rational numbers, each said to be a difference of naturals over a natural. An identity of
pub use Rattle.cga_fraction.proofs.Diffs.{itself, le_diff, lt_diff, minus_diff, minus_le, minus_of, of_int_diff, plus_diff, plus_le, plus_of, times_diff, cross_trans}
-- Numbers that digits write
pub use Rattle.cga_fraction.proofs.Digits.{after-more, digit_at, digit_range}
-- Facts of tests, options, lists and numbers that the standard library lacks. No word of this project stands here
pub use Rattle.cga_fraction.proofs.Facts.{Equal_from_is_eq, IfOk-map, IsSome_from_Some, Less_from_is_lt}
pub use Rattle.cga_fraction.proofs.Facts.{or-false, or-true, and-false, or-assoc}
pub use Rattle.cga_fraction.proofs.Facts.{None-not-Some, None-not-positive, Some_from_IsSome, Some_from_is_some}
pub use Rattle.cga_fraction.proofs.Facts.{all_of_it, and_first, and_second, append-nil_back, cases_Option}
pub use Rattle.cga_fraction.proofs.Facts.{cases_Option_nat, eq_from_nat_eq, eq_or_ne, false-not-true, false_from_not}
pub use Rattle.cga_fraction.proofs.Facts.{le_from_nat_lt, least_of_some, length-map, lt-length_from_slice_get}
pub use Rattle.cga_fraction.proofs.Facts.{lt-length_from_slice_get_nat, lt_from_nat_lt, lt_or_eq_below_suc}
pub use Rattle.cga_fraction.proofs.Facts.{lt_or_eq_from_lt_suc, map-append, nat_cmp-same, nat_eq-same, nat_eq_from_ne}
pub use Rattle.cga_fraction.proofs.Facts.{nat_le_18, nat_lt-same, nat_lt-zero, nat_lt_from_lt, not-and-true}
pub use Rattle.cga_fraction.proofs.Facts.{or_false_first, or_false_second, same_Ok, same_Some, same_from_both_ways}
pub use Rattle.cga_fraction.proofs.Facts.{slice_get_along, slice_get_from_get_or, take-all, true-and-false}
pub use Rattle.cga_fraction.proofs.Facts.{true-not-false, true_from_not, within_4096, le_or_ge, not-and_parts}
-- The greatest common divisor
pub use Rattle.cga_fraction.proofs.Gcds.{gcd-IsGcd, gcd-one}
-- Laws of numbers in lowest terms, and of the least and the greatest
pub use Rattle.cga_fraction.proofs.Laws.{IsLowest, between, checked_in_range, checked_is, fraction_in_range}
pub use Rattle.cga_fraction.proofs.Laws.{fraction_lowest, in_range_from_ok, lt_min, max_above, max_least, max_lt}
pub use Rattle.cga_fraction.proofs.Laws.{mediant, min_below, min_greatest, minus-plus, minus-plus_left, minus-zero}
pub use Rattle.cga_fraction.proofs.Laws.{minus_lowest, out_of_range_from_err, plus-minus, plus-zero, same_diff}
pub use Rattle.cga_fraction.proofs.Laws.{times_lowest}
-- The shortest text that is read as a number
pub use Rattle.cga_fraction.proofs.Literals.{literal_is_shortest, reads, numeral_parts}
-- Numbers brought to lowest terms
pub use Rattle.cga_fraction.proofs.Lowest.{checked-in, den-reduced, lowest, quotient_positive, reduced-parts, abs-with_sign}
-- The order of rational numbers: it is total, and the tests of the code are its tests
pub use Rattle.cga_fraction.proofs.Order.{le_refl, le_total, le_trans, lt_asym, lt_fact, lt_le, lt_not_le, lt_of_le_lt, lt_of_lt_le, lt_test, lt_trans, not_le_lt, positive_is}
-- Differences and quotients by what the code forms
pub use Rattle.cga_fraction.proofs.Quotients.{by_positive}
-- Arithmetic of rational numbers that aren't below zero, each said to be a ratio of naturals
pub use Rattle.cga_fraction.proofs.Ratios.{IsRatio, both, divided_ratio, le_ratio, like, minus_ratio, plus_ratio, ratio_le, shown_ratio, times_ratio, whole_ratio, zero_ratio}
-- Steps that may be refused
pub use Rattle.cga_fraction.proofs.Results.{and_then-ok, or_err-err_as, or_err-ok, or_err-ok_as, OnOk-map, err_if-ok, if_err-ok, option_map_or-ok}
-- What is rounded down is the greatest whole number below, and what is rounded up the least above
pub use Rattle.cga_fraction.proofs.Rounding.{is_ceil}
-- Texts with a point, read as the numbers that they show
pub use Rattle.cga_fraction.proofs.Spelling.{own, reads-pointed, reads_parts, reads_whole}
-- The texts of numbers, digit by digit
pub use Rattle.cga_fraction.proofs.Texts.{padded-end, padded-step, ten_positive}
-- Facts of lists, and of texts byte by byte, that the standard library lacks
pub use Rattle.cga_fraction.proofs.Lists.{bytes_eq-false_back, slice_get_from_Contains, slice_get-append_left}
pub use Rattle.cga_fraction.proofs.Lists.{slice_get-map_Some, sum_by-zeros, sum_by-plus, eq_from_pointwise}
pub use Rattle.cga_fraction.proofs.Lists.{pointwise-same, pointwise-order}
