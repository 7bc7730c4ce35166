-- The faults of a grammar in the order in which they are looked for, and the first of them.
use Rattle.std.specs.Prelude.{◌≡◌, ℕ, List, [], ◌∷◌, ◌++◌, length, flat_map, Bool, not, ◌&&◌, ◌||◌, nat_eq, nat_lt, Option, Some, None, Result, Ok, Err, is_err, if◌then◌else◌}
use Rattle.std.specs.List.{list_any}
use Rattle.cga_rule.specs.declared.check_fault.CheckFault.{CheckFault}
use Rattle.cga_rule.specs.declared.check_fault.CheckFault.TheVariants.{TooManyRules, TooManyAttributes}
use Rattle.cga_rule.specs.declared.check_fault.CheckFault.TheVariants.{DoubleAttribute, DoubleId, SplitPriority}
use Rattle.cga_rule.specs.declared.check_fault.CheckFault.TheVariants.{WrongArity, DoubleName, BadProbability}
use Rattle.cga_rule.specs.declared.check_fault.CheckFault.TheVariants.{UnknownSymbol, PartsDiffer, UnknownName}
use Rattle.cga_rule.specs.declared.rule.Rule.{Rule}
use Rattle.cga_rule.specs.declared.grammar.Attribute.{Attribute}
use Rattle.cga_rule.specs.declared.grammar.Entry.{Entry}
use Rattle.cga_rule.specs.declared.grammar.Grammar.{Grammar}
use Rattle.cga_check.specs.declared.checks.TheConstants.{MOST_RULES, MOST_ATTRIBUTES}
use Rattle.cga_check.specs.Uses.{same_name, has_name, rule_uses}
use Rattle.cga_check.specs.Groups.{is_of, first_entry}
use Rattle.cga_check.specs.Probabilities.{are_probabilities}
use Rattle.cga_check.specs.declared.usage.Use.{Use}
use Rattle.cga_check.specs.declared.usage.Use.TheVariants.{Answer, Child, Parts, Named}

abbrev pub Faults : Type 0
Faults = List CheckFault

-- the fault where the condition holds
abbrev pub fault_if : Bool → CheckFault → Faults
fault_if bad fault = if bad then fault ∷ [] else []

-- no fault, or the first
abbrev pub first : Faults → Result (Unit {0}) CheckFault
first [] = Ok tt
first (fault ∷ more) = Err fault

-- the faults of each member of a list, looked at with those before it
unfoldable pub each_after : {A : Type 0} → (List A → A → Faults) → List A → List A → Faults
each_after look before [] = []
each_after look before (x ∷ xs) = look before x ++ each_after look (before ++ x ∷ []) xs

-- ---- attributes

abbrev pub is_attribute : List Attribute → List ℕ → Bool
is_attribute attributes name = list_any (λ (a : Attribute). same_name a.name name) attributes

-- an earlier attribute has the name
abbrev pub attribute_faults : List Attribute → Attribute → Faults
attribute_faults before a = fault_if (is_attribute before a.name) (DoubleAttribute a.name)

-- ---- the head of a rule

-- an earlier rule has the id
abbrev pub id_is_taken : List Entry → ℕ → Bool
id_is_taken before id = list_any (λ (x : Entry). nat_eq x.rule.id id) before

-- an earlier rule of the symbol has another priority
abbrev pub splits_priority : List Entry → Entry → Bool
splits_priority before e = list_any (λ (x : Entry). is_of e.rule.symbol x && not (nat_eq x.priority e.priority)) before

-- an earlier rule of the symbol has another number of parameters
abbrev pub differs_in_arity : List Entry → Entry → Bool
differs_in_arity before e = list_any (λ (x : Entry). is_of e.rule.symbol x && not (nat_eq (length x.rule.params) (length e.rule.params))) before

-- a parameter equals an earlier one or an attribute
abbrev pub param_faults : Grammar → ℕ → List (List ℕ) → List ℕ → Faults
param_faults g id before name = fault_if (has_name before name || is_attribute g.attributes name) (DoubleName id name)

-- those that earlier rules make
abbrev pub symbol_faults : List Entry → Entry → Faults
symbol_faults before e =
    fault_if (id_is_taken before e.rule.id) (DoubleId e.rule.id)
    ++ (fault_if (splits_priority before e) (SplitPriority e.rule.id e.rule.symbol)
    ++ fault_if (differs_in_arity before e) (WrongArity e.rule.id e.rule.symbol))

unfoldable pub head_faults : Grammar → List Entry → Entry → Faults
head_faults g before e =
    symbol_faults before e
    ++ (each_after (param_faults g e.rule.id) [] e.rule.params
    ++ fault_if (not (are_probabilities e.rule.alternatives)) (BadProbability e.rule.id))

-- ---- what a rule uses

-- a name is a parameter or an attribute
abbrev pub is_known : Grammar → Rule → List ℕ → Bool
is_known g r name = has_name r.params name || is_attribute g.attributes name

-- a child with so many arguments, by the first rule of its symbol
abbrev pub child_faults : ℕ → List ℕ → ℕ → Option Entry → Faults
child_faults id symbol args None = UnknownSymbol id symbol ∷ []
child_faults id symbol args (Some e) = fault_if (not (nat_eq (length e.rule.params) args)) (WrongArity id symbol)

abbrev pub use_faults : Grammar → Rule → Use → Faults
use_faults g r (Answer target) = []
use_faults g r (Child symbol args) = child_faults r.id symbol args (first_entry g.rules symbol)
use_faults g r (Parts sizes bodies) = fault_if (nat_eq sizes 0 || not (nat_eq sizes bodies)) (PartsDiffer r.id)
use_faults g r (Named name) = fault_if (not (is_known g r name)) (UnknownName r.id name)

-- the use has a fault
abbrev pub is_faulty : Grammar → Rule → Use → Bool
is_faulty g r use_ = is_err (first (use_faults g r use_))

-- ---- rules and grammars

-- first those of its head, and then those of what it uses
unfoldable pub rule_faults : Grammar → List Entry → Entry → Faults
rule_faults g before e = head_faults g before e ++ flat_map (use_faults g e.rule) (rule_uses e.rule)

abbrev pub faults : Grammar → Faults
faults g =
    fault_if (nat_lt MOST_RULES (length g.rules)) TooManyRules
    ++ (fault_if (nat_lt MOST_ATTRIBUTES (length g.attributes)) TooManyAttributes
    ++ (each_after attribute_faults [] g.attributes
    ++ each_after (rule_faults g) [] g.rules))

-- what a check of the grammar answers
unfoldable pub check_fault : Grammar → Result (Unit {0}) CheckFault
check_fault g = first (faults g)

-- a grammar without a fault
abbrev pub IsValid : Grammar → Type 0
IsValid g = check_fault g ≡ Ok tt
