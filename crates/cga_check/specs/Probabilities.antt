-- The probabilities of the alternatives of a rule.
use Rattle.std.specs.Prelude.{ℕ, ◌*◌, ◌/◌, ◌%◌, ℤ, pos, negsuc, unsigned_abs, List, sum_by, Bool, false, ◌&&◌, nat_eq, nat_lt}
use Rattle.std.specs.List.{list_all}
use Rattle.cga_fraction.specs.Rat.{Rat, den}
use Rattle.cga_rule.specs.declared.rule.Alternative.{Alternative}
use Rattle.cga_check.specs.declared.checks.probability.TheConstants.{MILLIONTHS}

abbrev pub is_positive : ℤ → Bool
is_positive (pos n) = nat_lt 0 n
is_positive (negsuc n) = false

-- above 0, and a whole number of millionths
unfoldable pub is_probability : Rat → Bool
is_probability p = is_positive p.num && nat_eq (unsigned_abs p.num * MILLIONTHS % den p) 0

-- how many millionths a number is, rounded down
unfoldable pub millionths : Rat → ℕ
millionths p = unsigned_abs p.num * MILLIONTHS / den p

-- the sum of the probabilities, in millionths
abbrev pub total : List Alternative → ℕ
total = sum_by (λ (a : Alternative). millionths a.prob)

-- each is a probability, and they add up to 1
abbrev pub are_probabilities : List Alternative → Bool
are_probabilities alternatives = list_all (λ (a : Alternative). is_probability a.prob) alternatives && nat_eq (total alternatives) MILLIONTHS
