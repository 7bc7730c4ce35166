-- Words that are written plainly: the program's name, then at most one pair for each option.
use Rattle.std.specs.Prelude.{ℕ, ◌≤◌, List, [], ◌∷◌, ◌++◌, codes, Bool, Option, Some, None, IfSome, decimal, if◌then◌else◌}
use Rattle.clap.specs.Words.{Text}

-- the number is in decimal digits, without a leading 0
abbrev pub pair_words : Text → Option ℕ → List Text
pair_words option None = []
pair_words option (Some n) = option ∷ decimal n ∷ []

-- the pair of the decimals comes first, or that of the town
abbrev pub plain_words : Text → Bool → Option ℕ → Option ℕ → List Text
plain_words name first decimals town =
    let some = pair_words (codes "--decimals") decimals in
    let lots = pair_words (codes "--town") town in
    name ∷ (if first then some ++ lots else lots ++ some)

-- each number is in its range
pub record IsPlain (decimals town : Option ℕ) : Type 0 where
  pub decimals_fit : IfSome decimals (λ n. n ≤ 9)
  pub town_some : IfSome town (λ n. 1 ≤ n)
  pub town_fits : IfSome town (λ n. n ≤ 200)
