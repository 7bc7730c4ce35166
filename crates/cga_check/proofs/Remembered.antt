-- What is kept of names stays right as more is noted.
use Rattle.std.proofs.Common.{◌≡◌, ℕ, List, Bool, true, false, cond, refl, Some, None, subst}
use Rattle.std.specs.Prelude.{Option}
use lib.Pointwise.{bytes_decides}
use Rattle.cga_fraction.proofs.Door.{None-not-Some as none_some, same_Some as some_same}
use Rattle.cga_check.specs.Latest.{AreKept, noted, value_or}
use Rattle.cga_check.specs.Uses.{same_name}
use Rattle.cga_check.specs.declared.latest.Latest.{Latest}

-- what is found before the last place is found
found_on : {V : Type 0} (kept : Option (List ℕ × V)) (name : List ℕ) (value : V) (less more : Option V)
    → (less ≡ Some value → more ≡ Some value) → value_or kept name less ≡ Some value
    → value_or kept name more ≡ Some value
found_on None name value less more on h = on h
found_on {V} (Some p) name value less more on h = by (same_name p.0 name) h
  where
    by : (b : Bool) → cond b (Some p.1) less ≡ Some value → cond b (Some p.1) more ≡ Some value
    by true e = e
    by false e = on e

-- what is noted is right, and so is what was kept
pub still_kept : {V : Type 0} (IsRight : List ℕ → V → Type 0) (l : Latest V) (name : List ℕ) (value : V)
    → IsRight name value → AreKept IsRight l → AreKept IsRight (noted l name value)
still_kept {V} IsRight l name value is kept n v h = by (same_name name n) refl h
  where
    three : Option V
    three = value_or l.first n (value_or l.second n (value_or l.third n None))

    by : (b : Bool) → same_name name n ≡ b → cond b (Some value) three ≡ Some v → IsRight n v
    by true e h' = subst (λ (x : V). IsRight n x) (some_same value v h') (subst (λ (s : List ℕ). IsRight s value) ((bytes_decides name n).0 e) is)
    by false e h' = kept n v
        (found_on l.first n v _ _ (found_on l.second n v _ _ (found_on l.third n v None _ (λ none. none_some v none))) h')
