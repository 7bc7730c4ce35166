-- What a derivation within a budget comes to, and when it is refused.
use Rattle.std.proofs.Common.{◌≡◌, ℕ, suc, zero, ◌≤◌, List, [], length, false, Some, None, Option, Ok, Err, refl, ap, ◌∙◌, arith, nat_lt, inl, inr}
use Rattle.std.proofs.lemmas.Bool.Decides.{nat_tests}
use Rattle.cga_derivation.specs.Derivation.{derive, reached, step}
use Rattle.cga_rule.specs.declared.grammar.Grammar.{Grammar}
use Rattle.cga_word.specs.declared.mode.Mode.{Mode}
use Rattle.cga_shape.specs.declared.sources.Sources.{Sources}
use Rattle.cga_shape.specs.declared.edit.Edit.{Edit}
use Rattle.cga_shape.specs.declared.edit_refused.EditRefused.{EditRefused}
use Rattle.cga_shape.specs.declared.edit_refused.EditRefused.TheVariants.{NoRule, NoAttribute, NoSymbol, NoLot, BadLot, TooManyLots, Check, OverBudget, NoMemory}
use Rattle.cga_expand.specs.Children.{Member}
use Rattle.cga_expand.specs.Derivation.{derivation_of}
use Rattle.cga_city.specs.Apply.{apply, changed, within}
use Rattle.cga_city.specs.Derived.{derived, members}
use Rattle.cga_city.specs.City.{CityState, Changes, EditGives, IsRefused, empty_sources}
use Rattle.cga_city.proofs.Sorting.{decide}
use Rattle.cga_fraction.proofs.Door.{nat_lt-zero as none_below}

-- ---- without lots

abbrev bare : Grammar → Mode → Sources
bare g mode = record { grammar = g; lots = []; mode = mode }

pub bare_reached : (g : Grammar) (mode : Mode) (n : ℕ) → reached (derivation_of (bare g mode)) n ≡ []
unfolding reached step
bare_reached g mode zero = refl
bare_reached g mode (suc n) = rw (bare_reached g mode n) refl

pub bare_derived : (g : Grammar) (mode : Mode) (budget : ℕ) → derived budget (bare g mode) ≡ Some []
unfolding derived derive
bare_derived g mode budget = rw (bare_reached g mode budget, none_below budget) refl

-- The empty sources derive to no shapes, whatever the budget.
pub empty_derived : (budget : ℕ) → derived budget empty_sources ≡ Some []
empty_derived budget = bare_derived empty_sources.grammar empty_sources.mode budget

-- ---- within the budget

pub is_derived : (budget : ℕ) (s : Sources) (r : Option (List Member)) → derive (derivation_of s) budget ≡ r
    → derived budget s ≡ r
unfolding derived
is_derived budget s r h = h

pub members_are : (budget : ℕ) (s : Sources) (list : List Member) → derived budget s ≡ Some list
    → members budget s ≡ list
members_are budget s list h = rw h refl

-- A derivation within a budget has at most so many shapes.
pub few_members : (budget : ℕ) (s : Sources) (list : List Member) → derived budget s ≡ Some list → length list ≤ budget
unfolding derived derive
few_members budget s list h = elim (decide (nat_lt budget (length (reached (derivation_of s) budget)))) [
  | inl t ↦ (let k = rw t at h in cc)
  | inr f ↦ (let k = rw f at h in let same : reached (derivation_of s) budget ≡ list = cc in few budget (length (reached (derivation_of s) budget)) (length list) f (ap length same))
]
  where
    few : (b n m : ℕ) → nat_lt b n ≡ false → n ≡ m → m ≤ b
    few b n m f e = grind (arith, nat_tests)

-- ---- causes

pub apply_err : (s : Sources) (e : Edit) (budget : ℕ) (refused : EditRefused) → changed s e ≡ Err refused
    → apply s e budget ≡ Err refused
unfolding apply
apply_err s e budget refused h = ap (within budget) h

pub apply_ok : (s new : Sources) (e : Edit) (budget : ℕ) (list : List Member) → changed s e ≡ Ok new
    → derived budget new ≡ Some list → apply s e budget ≡ Ok new
unfolding apply
apply_ok s new e budget list h fits = ap (within budget) h ∙ rw fits refl

pub apply_over : (s new : Sources) (e : Edit) (budget : ℕ) → changed s e ≡ Ok new → derived budget new ≡ None
    → apply s e budget ≡ Err OverBudget
unfolding apply
apply_over s new e budget h over = ap (within budget) h ∙ rw over refl

is_refused : (old : CityState) (e : Edit) (n : ℕ) (refused : EditRefused) → changed old.sources e ≡ Err refused
    → IsRefused old e refused old n n
is_refused old e n refused h = record { cause = apply_err _ _ _ _ h; same = refl; later = omega arith; most = omega arith; unspent = λ other. refl }

-- a refusal that comes before the budget is the edit's
pub refused_gives : (old : CityState) (e : Edit) (n : ℕ) (refused : EditRefused)
    → Changes (changed old.sources e) (Err refused) → EditGives old e (Err refused) old n n
refused_gives old e n NoMemory h = record { sources_stay = refl; budget_stays = refl; expanded_stays = refl; changes_stay = refl; later = omega arith; most = omega arith }
refused_gives old e n (NoRule x) h = is_refused old e n _ h
refused_gives old e n (NoAttribute x) h = is_refused old e n _ h
refused_gives old e n (NoSymbol x) h = is_refused old e n _ h
refused_gives old e n (NoLot x) h = is_refused old e n _ h
refused_gives old e n (BadLot x) h = is_refused old e n _ h
refused_gives old e n TooManyLots h = is_refused old e n _ h
refused_gives old e n (Check x) h = is_refused old e n _ h
refused_gives old e n OverBudget h = is_refused old e n _ h
