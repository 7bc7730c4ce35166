-- Small cases.
use Rattle.std.proofs.Common.{◌≡◌, Bool, true, false, not, refl}
pub use Rattle.std.proofs.lemmas.Bool.{and_from as and_both, cases_Bool as bool_cases, false_from_ne_true as is_false, or_cases as or_either, or_left, or_right}
pub use Rattle.cga_fraction.proofs.Door.{and_first as and_left, and_second as and_right, cases_Option as option_cases, not-and-true as not_true, same_from_both_ways as bool_same}

-- where a test isn't true, its negation is
pub not_false : (a : Bool) → (a ≡ true → ⊥) → not a ≡ true
not_false true h = absurd (h refl)
not_false false h = refl
