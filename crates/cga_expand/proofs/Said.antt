-- What is said of a symbol is what the derivation's definitions say of it.
use Rattle.std.proofs.Common.{◌≡◌, ℕ, List, length, suc, [], ◌∷◌, ap, refl, Option, Some, None}
use Rattle.cga_word.specs.declared.target.Target.{Target}
use Rattle.cga_word.specs.declared.target.Target.TheVariants.{Noparent, Active}
use Rattle.cga_rule.specs.declared.grammar.Grammar.{Grammar}
use Rattle.cga_rule.specs.declared.grammar.Group.{Group}
use Rattle.cga_shape.specs.declared.emitted.Emitted.{Emitted}
use Rattle.cga_check.specs.Groups as groups
use Rattle.cga_check.specs.Said.{said}
use Rattle.cga_expand.specs.Asked.{group_asks, asks_for}
use Rattle.cga_expand.specs.Children.{placed_from}
use Rattle.cga_expand.specs.Derivation.{priority_of}

-- both definitions of what a group asks for say the same
pub group_asks_same : (o : Option Group) (target : Target) → groups.group_asks o target ≡ group_asks o target
group_asks_same None target = refl
group_asks_same (Some group) target = refl

-- the priority that is said is the symbol's
pub said_priority : (grammar : Grammar) (name : List ℕ) → (said grammar name).priority ≡ priority_of grammar name
unfolding said priority_of
said_priority grammar name = refl

-- noparent is said to be asked for where the symbol's group asks for it
pub said_noparent : (grammar : Grammar) (name : List ℕ)
    → (said grammar name).noparent ≡ asks_for grammar name Noparent
unfolding said asks_for
said_noparent grammar name = group_asks_same (groups.group grammar name) Noparent

-- active is said to be asked for where the symbol's group asks for it
pub said_active : (grammar : Grammar) (name : List ℕ) → (said grammar name).active ≡ asks_for grammar name Active
unfolding said asks_for
said_active grammar name = group_asks_same (groups.group grammar name) Active

-- as many members are placed as a rule emitted
pub length-placed_from : (lot path own : List ℕ) (i : ℕ) (es : List Emitted)
    → length (placed_from lot path own i es) ≡ length es
length-placed_from lot path own i [] = refl
length-placed_from lot path own i (e ∷ es) = ap suc (length-placed_from lot path own (suc i) es)
