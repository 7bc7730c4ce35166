-- The bill of a list that has the instances of several lists, each as often.
use Rattle.std.proofs.Common.{◌≡◌, ℕ, List, [], ◌∷◌, refl, sym, ◌∙◌, ap, Bool}
use Rattle.std.specs.Prelude.{Option, bytes_eq, flat_map, unwrap_or}
use Rattle.std.proofs.lemmas.List.Concat.{flat_map-cons}
use Rattle.std.proofs.lemmas.List.Elements.{filter-append}
use Rattle.cga_shape.specs.declared.drawn.Drawn.{Drawn}
use Rattle.cga_bill.specs.Amounts.{no_sums, plus_sums}
use Rattle.cga_bill.specs.Bill.{bill_of, of_symbol, sums_of}
use Rattle.cga_bill.specs.Lines.{left, sums_at}
use Rattle.cga_bill.specs.Parts.{IsSumOfBills, total_at}
use Rattle.cga_bill.specs.declared.sums.Sums.{Sums}
use Rattle.cga_bill.proofs.Counts.{SameCounts}
use Rattle.cga_bill.proofs.Made.{is_bill}
use Rattle.cga_bill.proofs.Summed.{found_or_nothing, left_of, same_sums, sums_append}

abbrev all : List (List Drawn) → List Drawn
all lists = flat_map (λ (list : List Drawn). list) lists

module _ (symbol : List ℕ) where
  abbrev is_named : Drawn → Bool
  is_named d = bytes_eq symbol d.symbol

  sums_found : (list : List Drawn) → sums_of (of_symbol symbol list) ≡ sums_at (bill_of list) symbol
  sums_found list =
      sym (ap (λ (o : Option Sums). unwrap_or o no_sums) ((is_bill list).sums symbol) ∙ found_or_nothing (of_symbol symbol list))

  sums_of_all : (lists : List (List Drawn)) → sums_of (of_symbol symbol (all lists)) ≡ total_at symbol lists
  sums_of_all [] = refl
  sums_of_all (list ∷ lists) =
      let one = ap (λ (l : List Drawn). sums_of (of_symbol symbol l)) (flat_map-cons (λ (l : List Drawn). l) list lists) in
      let two = ap sums_of (filter-append is_named list (all lists)) in
      one ∙ (two ∙ (sums_append (of_symbol symbol list) (of_symbol symbol (all lists))
      ∙ (λ i. plus_sums (sums_found list i) (sums_of_all lists i))))

pub sum_of_bills : (list : List Drawn) (lists : List (List Drawn)) → SameCounts list (all lists)
    → IsSumOfBills list lists
sum_of_bills list lists h symbol =
    (is_bill list).sums symbol
    ∙ (sym (left_of (of_symbol symbol list)) ∙ ap left (same_sums (is_named symbol) list (all lists) h ∙ sums_of_all symbol lists))
