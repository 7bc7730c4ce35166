-- Grammars of one list of rules say the same of a symbol where its attributes have the same values.
use Rattle.std.proofs.Common.{◌≡◌, ℕ, List, Bool, ap}
use Rattle.std.specs.Prelude.{◌↔◌, IsTrue}
use Rattle.cga_rule.specs.declared.grammar.Grammar.{Grammar}
use Rattle.cga_check.specs.Groups.{first_entry, group, group_with, priority_in, priority_of}
use Rattle.cga_depend.specs.Agreement.{IsSameSetting, SameValues}

same_group : (old new : Grammar) (symbol : List ℕ) → old.rules ≡ new.rules → group old symbol ≡ group new symbol
unfolding group
same_group old new symbol same = ap (λ rules. group_with rules symbol (first_entry rules symbol)) same

pub same_priority : (old new : Grammar) (symbol : List ℕ) → old.rules ≡ new.rules
    → priority_of old symbol ≡ priority_of new symbol
unfolding priority_of
same_priority old new symbol same = ap (λ rules. priority_in (first_entry rules symbol)) same

pub with_same_rules : (old new : Grammar) (symbol : List ℕ) → old.rules ≡ new.rules → (told : Bool)
    → (IsTrue told ↔ SameValues (group new symbol) old new) → IsTrue told ↔ IsSameSetting old new symbol
with_same_rules old new symbol same told values =
    (λ h. record { rules = same_group old new symbol same; values = values.0 h }, λ is. values.1 is.values)
