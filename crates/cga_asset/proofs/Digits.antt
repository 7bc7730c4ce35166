-- The number that digits write, one digit after the other.
use Rattle.std.proofs.Common.{◌≡◌, ℕ, ◌≤◌, ◌<◌, List, take, refl, arith, false, cond}
use Rattle.std.specs.Prelude.{Some, None, nat_le}
use Rattle.std.specs.Str.Parse.{digits_value}
use Rattle.std.proofs.lemmas.Grind.{common_steps}
use Rattle.std.proofs.lemmas.Str.Parse.{digits_value-take-le}
use Rattle.cga_asset.specs.Words.{most_lines}

larger : (m n : ℕ) → m < n → nat_le n m ≡ false
larger m n h = grind (arith, common_steps)

-- already too many
pub too_large : (digits : List ℕ) (i v : ℕ) → v ≡ digits_value 10 (take i digits) → most_lines < v
    → None ≡ cond (nat_le (digits_value 10 digits) most_lines) (Some (digits_value 10 digits)) None
too_large digits i v e h =
    let le : digits_value 10 (take i digits) ≤ digits_value 10 digits = digits_value-take-le 10 digits i (omega arith) in
    let no : nat_le (digits_value 10 digits) most_lines ≡ false = larger most_lines (digits_value 10 digits) (omega arith) in
    rw no refl
