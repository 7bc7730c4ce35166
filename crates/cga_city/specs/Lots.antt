-- Lots as edits change them.
use Rattle.std.specs.Prelude.{ℕ, List, [], ◌∷◌, ◌++◌, length, map, position, slice_set, Bool, not, ◌&&◌, ◌||◌, nat_lt, Option, Result, Ok, is_err, is_none}
use Rattle.std.specs.List.{list_any}
use Rattle.std.specs.Option.{option_map_or}
use Rattle.cga_fraction.specs.Rat.{zero_rat}
use Rattle.cga_fraction.specs.Order.{rat_lt}
use Rattle.cga_fraction.specs.Results.{err_if}
use Rattle.cga_check.specs.Uses.{same_name}
use Rattle.cga_rule.specs.declared.grammar.Grammar.{Grammar}
use Rattle.cga_shape.specs.declared.lot.Lot.{Lot}
use Rattle.cga_shape.specs.Root.{root_scope}
use Rattle.cga_shape.specs.declared.edit_refused.EditRefused.{EditRefused}
use Rattle.cga_shape.specs.declared.edit_refused.EditRefused.TheVariants.{NoSymbol, BadLot}
use Rattle.cga_city.specs.declared.limits.TheConstants.{MOST_LOTS}
use Rattle.cga_city.specs.Grammars.{is_plain}

abbrev pub names_of : List Lot → List (List ℕ)
names_of lots = map (λ (lot : Lot). lot.name) lots

abbrev pub lot_place : List ℕ → List Lot → Option ℕ
lot_place name lots = position (λ (lot : Lot). same_name lot.name name) lots

-- one of the lots has the symbol
abbrev pub has_symbol : List ℕ → List Lot → Bool
has_symbol symbol lots = list_any (λ (lot : Lot). same_name lot.symbol symbol) lots

-- an extent isn't above 0, or the far end leaves the range, so that the root has no scope
abbrev pub is_bad : Lot → Bool
is_bad lot = not (rat_lt zero_rat lot.width) || (not (rat_lt zero_rat lot.depth) || is_err (root_scope lot))

-- the lot in the place of the one of its name, or behind all others
abbrev pub with_lot : Lot → List Lot → List Lot
with_lot lot lots = option_map_or (λ i. slice_set lots i lot) (lot_place lot.name lots) (lots ++ lot ∷ [])

-- it is one more, and no more may come
abbrev pub finds_no_room : Lot → List Lot → Bool
finds_no_room lot lots = is_none (lot_place lot.name lots) && not (nat_lt (length lots) MOST_LOTS)

-- the first lot whose symbol the grammar has no rules without parameters for
abbrev pub rooted : Grammar → List Lot → Result (Unit {0}) EditRefused
rooted g [] = Ok tt
rooted g (lot ∷ lots) = err_if (not (is_plain g lot.symbol)) (NoSymbol lot.symbol) (rooted g lots)

-- the first lot that would be refused
abbrev pub accepted : Grammar → List Lot → Result (Unit {0}) EditRefused
accepted g [] = Ok tt
accepted g (lot ∷ lots) =
    err_if (not (is_plain g lot.symbol)) (NoSymbol lot.symbol) (err_if (is_bad lot) (BadLot lot.name) (accepted g lots))
