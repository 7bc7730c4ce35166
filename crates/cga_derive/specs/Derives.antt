-- What `derive` answers, and how often it expanded.
use Rattle.std.specs.Prelude.{◌≡◌, ℕ, List, Some, None, Result, MatchResult, not, count_by}
use Rattle.cga_order.specs.World.{is_instance}
use Rattle.cga_derivation.specs.Derivation.{derive}
use Rattle.cga_shape.specs.declared.sources.Sources.{Sources}
use Rattle.cga_expand.specs.Children.{Member}
use Rattle.cga_expand.specs.Derivation.{derivation_of}
use Rattle.cga_derive.specs.declared.over_budget.OverBudget.{OverBudget}

-- the list is the configuration in which nothing waits, or some configuration has more members than
-- the budget
abbrev pub IsDerived : Sources → ℕ → Result (List Member) OverBudget → Type 0
IsDerived sources budget answer =
    MatchResult answer
    (λ list. derive (derivation_of sources) budget ≡ Some list)
    (λ over. derive (derivation_of sources) budget ≡ None)

-- the members that were expanded, to children or to a fault
abbrev pub expanded_count : List Member → ℕ
expanded_count list = count_by (λ m. not (is_instance m.kind)) list
