-- The names that were noted last.
use Rattle.std.specs.Prelude.{◌≡◌, ℕ, List, Option, Some, None, if◌then◌else◌}
use Rattle.cga_check.specs.Uses.{same_name}
use Rattle.cga_check.specs.declared.latest.Latest.{Latest}

-- the value of a name, if that is what is kept, or else another
abbrev pub value_or : {V : Type 0} → Option (List ℕ × V) → List ℕ → Option V → Option V
value_or None name other = other
value_or (Some kept) name other = if same_name kept.0 name then Some kept.1 else other

-- the value of a name, the latest where it was noted again
abbrev pub value_of : {V : Type 0} → Latest V → List ℕ → Option V
value_of l name = value_or l.first name (value_or l.second name (value_or l.third name (value_or l.fourth name None)))

-- the oldest goes
abbrev pub noted : {V : Type 0} → Latest V → List ℕ → V → Latest V
noted l name value = record { first = Some (name, value); second = l.first; third = l.second; fourth = l.third }

-- each value is right of its name
abbrev pub AreKept : {V : Type 0} → (List ℕ → V → Type 0) → Latest V → Type 0
AreKept {V} IsRight l = (name : List ℕ) (value : V) → value_of l name ≡ Some value → IsRight name value
