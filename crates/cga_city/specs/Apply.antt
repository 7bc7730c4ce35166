-- What an edit makes of sources, or the first cause why it isn't done.
use Rattle.std.specs.Prelude.{ℕ, List, length, remove, slice_set, not, nat_lt, Result, Ok, Err}
use Rattle.std.specs.Option.{option_map_or}
use Rattle.cga_fraction.specs.Rat.{Rat}
use Rattle.cga_fraction.specs.Results.{and_then, err_if}
use Rattle.cga_check.specs.Faults.{check_fault}
use Rattle.cga_rule.specs.declared.check_fault.CheckFault.{CheckFault}
use Rattle.cga_rule.specs.declared.grammar.Entry.{Entry}
use Rattle.cga_rule.specs.declared.grammar.Grammar.{Grammar}
use Rattle.cga_shape.specs.declared.sources.Sources.{Sources}
use Rattle.cga_shape.specs.declared.edit.Edit.{Edit}
use Rattle.cga_shape.specs.declared.edit.Edit.TheVariants as edit
use Rattle.cga_shape.specs.declared.edit_refused.EditRefused.{EditRefused}
use Rattle.cga_shape.specs.declared.edit_refused.EditRefused.TheVariants.{NoRule, NoAttribute, NoSymbol, NoLot, BadLot, TooManyLots, Check, OverBudget}
use Rattle.cga_city.specs.declared.limits.TheConstants.{MOST_LOTS}
use Rattle.cga_city.specs.Grammars.{has_rule, is_plain, rule_place, with_rule, ranked, attribute_place, prioritized}
use Rattle.cga_city.specs.Lots.{lot_place, is_bad, with_lot, finds_no_room, rooted, accepted}
use Rattle.cga_city.specs.Derived.{is_within}

abbrev pub Changed : Type 0
Changed = Result Sources EditRefused

-- a fault of a grammar as a refusal
abbrev pub by_check : Result (Unit {0}) CheckFault → Result (Unit {0}) EditRefused
by_check (Ok u) = Ok u
by_check (Err fault) = Err (Check fault)

abbrev pub checked : Grammar → Result (Unit {0}) EditRefused
checked g = by_check (check_fault g)

-- the sources with another grammar, in which each lot's symbol has to have rules
abbrev pub with_grammar : Sources → Grammar → Changed
with_grammar s g = and_then (rooted g s.lots) (λ u. Ok (record s { grammar = g }))

-- the sources with another grammar, in which each lot has to be accepted
abbrev pub with_accepted : Sources → Grammar → Changed
with_accepted s g = and_then (accepted g s.lots) (λ u. Ok (record s { grammar = g }))

-- the sources with other rules, which are checked first
abbrev pub with_checked : Sources → Grammar → Changed
with_checked s g = and_then (checked g) (λ u. with_grammar s g)

abbrev pub ruled : Sources → List Entry → Changed
ruled s rules = with_checked s (record { attributes = s.grammar.attributes; rules = rules })

-- the sources with a value in the place of another
abbrev pub valued : Sources → List ℕ → Rat → ℕ → Sources
valued s name value i = record s {
  grammar = record {
    attributes = slice_set s.grammar.attributes i (record { name = name; value = value });
    rules = s.grammar.rules;
  };
}

abbrev pub repriced : Sources → List ℕ → ℕ → Sources
repriced s symbol priority = record s {
  grammar = record { attributes = s.grammar.attributes; rules = prioritized symbol priority s.grammar.rules };
}

-- the new sources, or the first refusal but for the budget
abbrev pub changed : Sources → Edit → Changed
changed s (edit.Rules g) = and_then (checked g) (λ u. with_grammar s (ranked g))
changed s (edit.Put priority rule) = ruled s (with_rule (record { priority = priority; rule = rule }) s.grammar.rules)
changed s (edit.Drop id) =
    option_map_or (λ i. ruled s (remove s.grammar.rules i)) (rule_place id s.grammar.rules) (Err (NoRule id))
changed s (edit.SetAttribute name value) =
    option_map_or (λ i. Ok (valued s name value i)) (attribute_place name s.grammar.attributes) (Err (NoAttribute name))
changed s (edit.SetPriority symbol priority) =
    err_if (not (has_rule s.grammar symbol)) (NoSymbol symbol)
    (Ok (repriced s symbol priority))
changed s (edit.SetLot lot) =
    err_if (not (is_plain s.grammar lot.symbol)) (NoSymbol lot.symbol)
    (err_if (is_bad lot) (BadLot lot.name)
    (err_if (finds_no_room lot s.lots) TooManyLots
    (Ok (record s { lots = with_lot lot s.lots }))))
changed s (edit.Unlot name) =
    option_map_or (λ i. Ok (record s { lots = remove s.lots i })) (lot_place name s.lots) (Err (NoLot name))
changed s (edit.SetOrder mode) = Ok (record s { mode = mode })
changed s (edit.Whole other) =
    and_then (checked other.grammar) (λ u.
    err_if (nat_lt MOST_LOTS (length other.lots)) TooManyLots
    (and_then (accepted (ranked other.grammar) other.lots) (λ u.
    Ok (record other { grammar = ranked other.grammar }))))

-- the budget is the last cause
abbrev pub within : ℕ → Changed → Changed
within budget (Ok new) = err_if (not (is_within budget new)) OverBudget (Ok new)
within budget (Err refused) = Err refused

-- the new sources, or the first refusal
unfoldable pub apply : Sources → Edit → ℕ → Changed
apply s edit budget = within budget (changed s edit)
