-- How a sink's count of faults goes with an answer.
use Rattle.std.specs.Prelude.{◌≡◌, ℕ, Result, Ok, Err}
use Rattle.cga_outside.specs.Causes.{Rose}
use Rattle.cga_top.specs.declared.halt.Halt.{Halt}
use Rattle.cga_top.specs.declared.halt.Halt.TheVariants.{WriteFault, NoMemory}

-- it rose where a write or a flush failed, and is as it was where memory was wanting
abbrev pub FaultsAt : Halt → ℕ → ℕ → Type 0
FaultsAt WriteFault before now = Rose before now
FaultsAt NoMemory before now = now ≡ before

-- the count of faults by any answer: as it was if all went well
abbrev pub FaultsBy : {A : Type 0} → Result A Halt → ℕ → ℕ → Type 0
FaultsBy (Ok _) before now = now ≡ before
FaultsBy (Err halt) before now = FaultsAt halt before now
