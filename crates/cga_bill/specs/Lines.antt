-- The lines of a bill, changed one by one.
use Rattle.std.specs.Prelude.{ℕ, ◌==◌, List, Option, Some, None, unwrap_or, if◌then◌else◌}
use Rattle.std.specs.Map.{lookup}
use Rattle.std.specs.BTreeMap.{is_at}
use Rattle.cga_bill.specs.Amounts.{no_sums}
use Rattle.cga_bill.specs.Bill.{by_bytes}
use Rattle.cga_bill.specs.declared.sums.Sums.{Sums}

-- a symbol's sums, which are nothing where it has no line
abbrev pub sums_at : List (List ℕ × Sums) → List ℕ → Sums
sums_at lines symbol = unwrap_or (lookup (is_at (by_bytes symbol)) lines) no_sums

-- a line goes with its last instance
abbrev pub left : Sums → Option Sums
left a = if a.number == 0 then None else Some a
