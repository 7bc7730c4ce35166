-- Several bills together.
use Rattle.std.specs.Prelude.{◌≡◌, ℕ, List, [], ◌∷◌}
use Rattle.std.specs.Map.{lookup}
use Rattle.std.specs.BTreeMap.{is_at}
use Rattle.cga_shape.specs.declared.drawn.Drawn.{Drawn}
use Rattle.cga_bill.specs.Amounts.{no_sums, plus_sums}
use Rattle.cga_bill.specs.Bill.{bill_of, by_bytes}
use Rattle.cga_bill.specs.Lines.{left, sums_at}
use Rattle.cga_bill.specs.declared.sums.Sums.{Sums}

-- the sums of a symbol in the bills of these lists together
abbrev pub total_at : List ℕ → List (List Drawn) → Sums
total_at symbol [] = no_sums
total_at symbol (list ∷ lists) = plus_sums (sums_at (bill_of list) symbol) (total_at symbol lists)

-- a symbol has a line in the bill of the list where it has one in some of theirs, and its sums are theirs together
abbrev pub IsSumOfBills : List Drawn → List (List Drawn) → Type 0
IsSumOfBills list lists =
    (symbol : List ℕ) → lookup (is_at (by_bytes symbol)) (bill_of list) ≡ left (total_at symbol lists)
