-- Counts of faults over several calls.
use Rattle.std.proofs.Common.{◌≡◌, ℕ, subst}
use Rattle.cga_top.specs.declared.halt.Halt.{Halt}
use Rattle.cga_top.specs.Faults.{FaultsAt}

-- a count that was still as before
pub faults_since : (halt : Halt) (before mid now : ℕ) → mid ≡ before → FaultsAt halt mid now → FaultsAt halt before now
faults_since halt before mid now same faults = subst (λ (n : ℕ). FaultsAt halt n now) same faults
