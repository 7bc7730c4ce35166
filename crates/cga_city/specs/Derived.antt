-- What sources come to.
use Rattle.std.specs.Prelude.{ℕ, List, [], Bool, is_some, Option, unwrap_or}
use Rattle.cga_derivation.specs.Derivation.{derive}
use Rattle.cga_shape.specs.declared.sources.Sources.{Sources}
use Rattle.cga_expand.specs.Children.{Member}
use Rattle.cga_expand.specs.Derivation.{derivation_of}

-- the members of the derivation; none where it comes to more than the budget
unfoldable pub derived : ℕ → Sources → Option (List Member)
derived budget s = derive (derivation_of s) budget

abbrev pub is_within : ℕ → Sources → Bool
is_within budget s = is_some (derived budget s)

-- the members of a derivation that is within the budget
abbrev pub members : ℕ → Sources → List Member
members budget s = unwrap_or (derived budget s) []
