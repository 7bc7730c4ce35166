-- One too many of the rules, the attributes or the lots is refused as all of them are.
use Rattle.std.proofs.Common.{◌≡◌, ◌∙◌, ap, refl, sym, ℕ, ◌+◌, ◌<◌, ◌≤◌, nat_lt, List, [], ◌∷◌, ◌++◌, length, take, Bool, true, false, Result, Ok, Err, arith}
use Rattle.std.specs.Prelude.{if◌then◌else◌}
use Rattle.std.proofs.lemmas.Bool.Decides.{nat_tests}
use Rattle.std.proofs.lemmas.List.{length-take, take_all}
use Rattle.cga_fraction.specs.Results.{and_then, err_if}
use Rattle.cga_check.specs.Faults.{attribute_faults, check_fault, each_after, fault_if, first, rule_faults}
use Rattle.cga_city.specs.Apply.{Changed, apply, by_check, checked, with_grammar, within}
use Rattle.cga_city.specs.Grammars.{ranked}
use Rattle.cga_city.specs.Lots.{accepted}
use Rattle.cga_parser.specs.Kept.{kept}
use Rattle.cga_rule.specs.declared.check_fault.CheckFault.{CheckFault}
use Rattle.cga_rule.specs.declared.check_fault.CheckFault.TheVariants.{TooManyRules, TooManyAttributes}
use Rattle.cga_rule.specs.declared.grammar.Grammar.{Grammar}
use Rattle.cga_shape.specs.declared.edit_refused.EditRefused.{EditRefused}
use Rattle.cga_shape.specs.declared.edit_refused.EditRefused.TheVariants as cause
use Rattle.cga_shape.specs.declared.lot.Lot.{Lot}
use Rattle.cga_shape.specs.declared.sources.Sources.{Sources}
use Rattle.cga_word.specs.declared.mode.Mode.{Mode}
use Rattle.cga_top.specs.TooMany.{FaultIsSame, RulesGiveSame, CityGivesSame}

-- one too many is too many, and no more than may be are kept
same_test : {A : Type 0} (most : ℕ) (xs : List A) → nat_lt most (length (take (most + 1) xs)) ≡ nat_lt most (length xs)
same_test most xs = let size = length-take (most + 1) xs in grind (arith, nat_tests)

-- ---- the check

module _ (g : Grammar) where
  rules_many : nat_lt 512 (length g.rules) ≡ true → check_fault g ≡ Err TooManyRules
  unfolding check_fault
  rules_many r =
      ap (λ t. first (fault_if t TooManyRules ++ (fault_if (nat_lt 128 (length g.attributes)) TooManyAttributes
      ++ (each_after attribute_faults [] g.attributes ++ each_after (rule_faults g) [] g.rules)))) r

  attributes_many : nat_lt 512 (length g.rules) ≡ false → nat_lt 128 (length g.attributes) ≡ true
      → check_fault g ≡ Err TooManyAttributes
  unfolding check_fault
  attributes_many r a =
      ap (λ t. first (fault_if t TooManyRules ++ (fault_if (nat_lt 128 (length g.attributes)) TooManyAttributes
      ++ (each_after attribute_faults [] g.attributes ++ each_after (rule_faults g) [] g.rules)))) r
      ∙ ap (λ t. first (fault_if t TooManyAttributes ++ (each_after attribute_faults [] g.attributes ++ each_after (rule_faults g) [] g.rules))) a

-- what follows on the check of what is kept is what follows on that of the whole
record Alike (g : Grammar) : Type 0 where
  fault : FaultIsSame g
  further : (f : Grammar → Unit {0} → Changed) → and_then (checked (kept g)) (f (kept g)) ≡ and_then (checked g) (f g)

both_refused : (g : Grammar) (c : CheckFault) → check_fault (kept g) ≡ Err c → check_fault g ≡ Err c → Alike g
both_refused g c k w = record {
  fault = k ∙ sym w;
  further = λ f. ap (λ r. and_then (by_check r) (f (kept g))) k ∙ sym (ap (λ r. and_then (by_check r) (f g)) w);
}

same_grammar : (g : Grammar) → kept g ≡ g → Alike g
same_grammar g e = record { fault = ap check_fault e; further = λ f. ap (λ x. and_then (checked x) (f x)) e }

abbrev FewStay : Type 0
FewStay = (g : Grammar) → length g.rules ≤ 513 → length g.attributes ≤ 129 → kept g ≡ g

alike_by : FewStay → (g : Grammar) (r a : Bool) → nat_lt 512 (length g.rules) ≡ r → nat_lt 128 (length g.attributes) ≡ a
    → Alike g
alike_by few g true a e h = both_refused g TooManyRules (rules_many (kept g) (same_test 512 g.rules ∙ e)) (rules_many g e)
alike_by few g false true e h = both_refused g TooManyAttributes (attributes_many (kept g) (same_test 512 g.rules ∙ e) (same_test 128 g.attributes ∙ h)) (attributes_many g e h)
alike_by few g false false e h = same_grammar g (few g (grind (arith, nat_tests)) (grind (arith, nat_tests)))

alike : FewStay → (g : Grammar) → Alike g
alike few g = alike_by few g (nat_lt 512 (length g.rules)) (nat_lt 128 (length g.attributes)) refl refl

pub fault_is_same : FewStay → (g : Grammar) → FaultIsSame g
fault_is_same few g = let a = alike few g in a.fault

-- ---- edits

pub rules_give_same : FewStay → (s : Sources) (budget : ℕ) (g : Grammar) → RulesGiveSame s budget g
unfolding apply
rules_give_same few s budget g = let a = alike few g in ap (within budget) (a.further (λ x u. with_grammar s (ranked x)))

and_same : (r : Result (Unit {0}) EditRefused) (f g : Unit {0} → Changed) → ((u : Unit {0}) → f u ≡ g u)
    → and_then r f ≡ and_then r g
and_same (Ok u) f g h = h u
and_same (Err e) f g h = refl

abbrev settled : Grammar → Mode → List Lot → Changed
settled g mode lots = and_then (accepted (ranked g) lots) (λ u. Ok (record { grammar = ranked g; lots = lots; mode = mode }))

abbrev with_lots : Grammar → Mode → List Lot → Changed
with_lots g mode lots = err_if (nat_lt 4096 (length lots)) cause.TooManyLots (settled g mode lots)

lots_by : (g : Grammar) (mode : Mode) (lots : List Lot) (t : Bool) → nat_lt 4096 (length lots) ≡ t
    → with_lots g mode (take 4097 lots) ≡ with_lots g mode lots
lots_by g mode lots true e =
    ap (λ b. err_if b cause.TooManyLots (settled g mode (take 4097 lots))) (same_test 4096 lots ∙ e) ∙ sym (ap (λ b. err_if b cause.TooManyLots (settled g mode lots)) e)
lots_by g mode lots false e = ap (with_lots g mode) (take_all 4097 lots (grind (arith, nat_tests)))

pub city_gives_same : FewStay → (s : Sources) (budget : ℕ) (other : Sources) → CityGivesSame s budget other
unfolding apply
city_gives_same few s budget other =
    let a = alike few other.grammar in
    let lots = lots_by (kept other.grammar) other.mode other.lots (nat_lt 4096 (length other.lots)) refl in
    ap (within budget)
    (and_same (checked (kept other.grammar)) (λ u. with_lots (kept other.grammar) other.mode (take 4097 other.lots)) (λ u. with_lots (kept other.grammar) other.mode other.lots) (λ u. lots)
    ∙ a.further (λ x u. with_lots x other.mode other.lots))
