-- What is said of a symbol.
use Rattle.std.proofs.Common.{◌≡◌, ℕ, List, ◌||◌, ap, ◌∙◌}
use Rattle.cga_rule.specs.declared.grammar.Grammar.{Grammar}
use Rattle.cga_word.specs.declared.target.Target.TheVariants.{Noparent}
use Rattle.cga_check.specs.Groups.{group}
use Rattle.cga_check.specs.Said.{asks_any, said}
use Rattle.cga_check.specs.declared.said.Said.{Said}
use Rattle.cga_shape.specs.declared.shape.Shape.{Shape}
use Rattle.cga_expand.specs.Asked.{asks_for}
use Rattle.cga_expand.specs.Derivation.{priority_of}
use Rattle.cga_update.specs.Edit.{asks_by}
use Rattle.cga_expand.proofs.Door.{group_asks_same as same_asks, said_active, said_priority}
pub use Rattle.cga_fraction.proofs.Door.{IfOk-map as on_value}

pub said_noparent : (g : Grammar) (symbol : List ℕ) → (said g symbol).noparent ≡ asks_for g symbol Noparent
unfolding said asks_for
said_noparent g symbol = same_asks (group g symbol) Noparent

pub said_asks : (g : Grammar) (s : Shape) → asks_any (said g s.symbol) ≡ asks_by g s
said_asks g s = λ i. said_noparent g s.symbol i || said_active g s.symbol i

-- what a table of a grammar tells is the priority
pub priority_told : (symbols g : Grammar) (symbol : List ℕ) (told : Said) → told ≡ said symbols symbol → symbols ≡ g
    → told.priority ≡ priority_of g symbol
priority_told symbols g symbol told is same =
    ap (λ (t : Said). t.priority) is ∙ (said_priority symbols symbol ∙ ap (λ h. priority_of h symbol) same)
