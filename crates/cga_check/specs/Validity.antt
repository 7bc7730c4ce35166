-- What a valid grammar has.
use Rattle.std.specs.Prelude.{◌≡◌, ℕ, List, length, All, IsTrue, true, IsSome, Some}
use Rattle.cga_rule.specs.declared.rule.Alternative.{Alternative}
use Rattle.cga_rule.specs.declared.rule.Rule.{Rule}
use Rattle.cga_rule.specs.declared.grammar.Entry.{Entry}
use Rattle.cga_rule.specs.declared.grammar.Grammar.{Grammar}
use Rattle.cga_check.specs.declared.checks.probability.TheConstants.{MILLIONTHS}
use Rattle.cga_check.specs.declared.usage.Use.{Use}
use Rattle.cga_check.specs.declared.usage.Use.TheVariants.{Answer, Child, Parts, Named}
use Rattle.cga_check.specs.Uses.{rule_uses}
use Rattle.cga_check.specs.Groups.{is_of, first_entry, rules_of}
use Rattle.cga_check.specs.Probabilities.{is_probability, total}
use Rattle.cga_check.specs.Faults.{IsValid}

-- a rule has the priority and the number of parameters of the symbol's first
pub record Agrees (first : Entry) (e : Entry) : Type 0 where
  pub priority : e.priority ≡ first.priority
  pub arity : length e.rule.params ≡ length first.rule.params

-- all rules of a symbol agree with its first
abbrev pub SymbolsAgree : Type 0
SymbolsAgree =
    (g : Grammar) → IsValid g → (symbol : List ℕ) (first : Entry) → first_entry g.rules symbol ≡ Some first
    → All (λ (e : Entry). is_of symbol e ≡ true → Agrees first e) g.rules

-- each rule of the symbol has so many parameters
abbrev pub Takes : Grammar → List ℕ → ℕ → Type 0
Takes g symbol n = All (λ (r : Rule). length r.params ≡ n) (rules_of g.rules symbol)

-- a child's symbol has a rule, and each of its rules has as many parameters as the child has arguments
abbrev pub IsMet : Grammar → Use → Type 0
IsMet g (Answer target) = Unit {0}
IsMet g (Child symbol args) = IsSome (first_entry g.rules symbol) × Takes g symbol args
IsMet g (Parts sizes bodies) = Unit {0}
IsMet g (Named name) = Unit {0}

abbrev pub ChildrenHaveRules : Type 0
ChildrenHaveRules = (g : Grammar) → IsValid g → All (λ (e : Entry). All (IsMet g) (rule_uses e.rule)) g.rules

-- each is a whole number of millionths above 0, and together they are a million
pub record AddUp (alternatives : List Alternative) : Type 0 where
  pub each : All (λ (a : Alternative). IsTrue (is_probability a.prob)) alternatives
  pub sum : total alternatives ≡ MILLIONTHS

abbrev pub ProbabilitiesAddUp : Type 0
ProbabilitiesAddUp = (g : Grammar) → IsValid g → All (λ (e : Entry). AddUp e.rule.alternatives) g.rules
