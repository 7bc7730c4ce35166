-- What a valid grammar has.
use Rattle.std.proofs.Common.{◌≡◌, ℕ, List, [], ◌∷◌, All, refl, sym, subst, arith, length, map, filter, Bool, true, false, not, ◌&&◌, nat_eq, if◌then◌else◌, Some, None}
use Rattle.std.specs.Prelude.{Option, IsTrue, IsSome}
use Rattle.std.specs.List.{list_all}
use Rattle.std.proofs.lemmas.List.Elements.{All-nil, All-cons, All-head, All-tail, All-weaker, All-append, All-take, All-drop}
use Rattle.std.proofs.lemmas.Bool.Decides.{nat_tests}
use Rattle.cga_rule.specs.declared.rule.Alternative.{Alternative}
use Rattle.cga_rule.specs.declared.rule.Rule.{Rule}
use Rattle.cga_rule.specs.declared.grammar.Entry.{Entry}
use Rattle.cga_rule.specs.declared.grammar.Grammar.{Grammar}
use Rattle.cga_check.specs.declared.usage.Use.{Use}
use Rattle.cga_check.specs.declared.usage.Use.TheVariants.{Answer, Child, Parts, Named}
use Rattle.cga_check.specs.Uses.{rule_uses}
use Rattle.cga_check.specs.Groups.{is_of, first_entry, rules_of, placed, placed_all, by_id, rule_index}
use Rattle.cga_check.specs.Probabilities.{is_probability, are_probabilities}
use Rattle.cga_check.specs.Faults.{IsValid, each_after, rule_faults, head_faults, symbol_faults, param_faults, use_faults, child_faults}
use Rattle.cga_check.specs.Validity.{SymbolsAgree, Agrees, Takes, IsMet, ChildrenHaveRules, AddUp, ProbabilitiesAddUp}
use Rattle.cga_check.proofs.Clean.{none_left, none_right, if_none, valid_rules, each_clean, flat_clean}
use Rattle.cga_check.proofs.Agreement.{agree_all}
use Rattle.cga_fraction.proofs.Door.{and_first, and_second, eq_from_nat_eq as numbers}

-- in a valid grammar each rule of a symbol has the priority and the number of parameters of the symbol's first
pub symbols_agree : SymbolsAgree
unfolding first_entry
symbols_agree g valid symbol f found = agree_all g symbol f [] g.rules refl found (valid_rules g valid)

-- ---- children

take_step : (symbol : List ℕ) (n : ℕ) (x : Entry) (kept : List Entry) (b : Bool) → (b ≡ true → length x.rule.params ≡ n)
    → All (λ (r : Rule). length r.params ≡ n) (map (λ (e : Entry). e.rule) kept)
    → All (λ (r : Rule). length r.params ≡ n) (map (λ (e : Entry). e.rule) (if b then x ∷ kept else kept))
take_step symbol n x kept true here more = All-cons (λ (r : Rule). length r.params ≡ n) x.rule (map (λ (e : Entry). e.rule) kept) (here refl) more
take_step symbol n x kept false here more = more

take_all : (symbol : List ℕ) (n : ℕ) (xs : List Entry)
    → All (λ (e : Entry). is_of symbol e ≡ true → length e.rule.params ≡ n) xs
    → All (λ (r : Rule). length r.params ≡ n) (rules_of xs symbol)
unfolding rules_of
take_all symbol n [] each = All-nil _
take_all symbol n (x ∷ xs) each =
    take_step symbol n x (filter (is_of symbol) xs) (is_of symbol x) (All-head (λ (e : Entry). is_of symbol e ≡ true → length e.rule.params ≡ n) x xs each)
    (take_all symbol n xs (All-tail (λ (e : Entry). is_of symbol e ≡ true → length e.rule.params ≡ n) x xs each))

-- all rules of a symbol have as many parameters as its first
pub takes : (g : Grammar) → IsValid g → (symbol : List ℕ) (f : Entry) → first_entry g.rules symbol ≡ Some f
    → Takes g symbol (length f.rule.params)
takes g valid symbol f found =
    take_all symbol (length f.rule.params) g.rules
    (All-weaker (λ (e : Entry). is_of symbol e ≡ true → Agrees f e) (λ (e : Entry). is_of symbol e ≡ true
    → length e.rule.params ≡ length f.rule.params) (λ e agrees here. (agrees here).arity) g.rules (symbols_agree g valid symbol f found))

same_number : (a b : ℕ) → not (nat_eq a b) ≡ false → a ≡ b
same_number a b h = grind (arith, nat_tests)

child_met : (g : Grammar) → IsValid g → (id : ℕ) (symbol : List ℕ) (args : ℕ) (o : Option Entry)
    → o ≡ first_entry g.rules symbol → child_faults id symbol args o ≡ [] → IsMet g (Child symbol args)
child_met g valid id symbol args None is clean = cc
child_met g valid id symbol args (Some f) is clean =
    (subst (λ (o : Option Entry). IsSome o) is refl, subst (λ (n : ℕ). Takes g symbol n) (same_number (length f.rule.params) args (if_none _ _ clean)) (takes g valid symbol f (sym is)))

use_met : (g : Grammar) → IsValid g → (r : Rule) (u : Use) → use_faults g r u ≡ [] → IsMet g u
use_met g valid r (Answer target) clean = tt
use_met g valid r (Child symbol args) clean = child_met g valid r.id symbol args (first_entry g.rules symbol) refl clean
use_met g valid r (Parts sizes bodies) clean = tt
use_met g valid r (Named name) clean = tt

rule_met : (g : Grammar) → IsValid g → (e : Entry) → (b : List Entry) × (rule_faults g b e ≡ [])
    → All (IsMet g) (rule_uses e.rule)
unfolding rule_faults
rule_met g valid e (b, clean) =
    All-weaker (λ (u : Use). use_faults g e.rule u ≡ []) (IsMet g) (use_met g valid e.rule) (rule_uses e.rule)
    (flat_clean (use_faults g e.rule) (rule_uses e.rule) (none_right (head_faults g b e) _ clean))

pub children_have_rules : ChildrenHaveRules
children_have_rules g valid =
    All-weaker (λ (e : Entry). (b : List Entry) × (rule_faults g b e ≡ [])) (λ (e : Entry). All (IsMet g) (rule_uses e.rule)) (rule_met g valid) g.rules
    (each_clean (rule_faults g) [] g.rules (valid_rules g valid))

-- ---- probabilities

and_left : (a b : Bool) → not (a && b) ≡ false → a ≡ true
and_left true b e = refl
and_left false b e = cc

and_right : (a b : Bool) → not (a && b) ≡ false → b ≡ true
and_right true true e = refl
and_right true false e = cc
and_right false b e = cc

all_true : {A : Type 0} (p : A → Bool) (xs : List A) → list_all p xs ≡ true → All (λ (x : A). IsTrue (p x)) xs
all_true p [] e = All-nil _
all_true {A = A} p (x ∷ xs) e = All-cons (λ (y : A). IsTrue (p y)) x xs (and_first (p x) (list_all p xs) e) (all_true p xs (and_second (p x) (list_all p xs) e))

adds_up : (alternatives : List Alternative) → not (are_probabilities alternatives) ≡ false → AddUp alternatives
adds_up alternatives e = record {
  each = all_true (λ (a : Alternative). is_probability a.prob) alternatives (and_left _ _ e);
  sum = numbers _ _ (and_right (list_all (λ (a : Alternative). is_probability a.prob) alternatives) _ e);
}

rule_adds_up : (g : Grammar) (e : Entry) → (b : List Entry) × (rule_faults g b e ≡ []) → AddUp e.rule.alternatives
unfolding rule_faults head_faults
rule_adds_up g e (b, clean) =
    adds_up e.rule.alternatives (if_none _ _ (none_right (each_after (param_faults g e.rule.id) [] e.rule.params) _ (none_right (symbol_faults b e) _ (none_left (head_faults g b e) _ clean))))

-- in a valid grammar each rule's probabilities are whole millionths above 0, and together a million
pub probabilities_add_up : ProbabilitiesAddUp
probabilities_add_up g valid =
    All-weaker (λ (e : Entry). (b : List Entry) × (rule_faults g b e ≡ [])) (λ (e : Entry). AddUp e.rule.alternatives) (rule_adds_up g) g.rules
    (each_clean (rule_faults g) [] g.rules (valid_rules g valid))

-- ---- groups

-- what holds of each rule holds of each by rising id
placed_all_all : (P : Rule → Type 0) (ranked rules : List Rule) → All P ranked → All P rules
    → All P (placed_all ranked rules)
unfolding placed
placed_all_all P ranked [] a b = a
placed_all_all P ranked (r ∷ rs) a b =
    let at : ℕ = rule_index r.id ranked in
    placed_all_all P (placed r ranked) rs (All-append P _ (r ∷ _) (All-take P at ranked a) (All-cons P r _ (All-head P r rs b) (All-drop P at ranked a))) (All-tail P r rs b)

-- what holds of each of some rules holds of each of them by rising id
pub by_id_all : (P : Rule → Type 0) (rules : List Rule) → All P rules → All P (by_id rules)
unfolding by_id
by_id_all P rules b = placed_all_all P [] rules (All-nil P) b
