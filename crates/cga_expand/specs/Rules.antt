-- Which rule and which alternative a shape takes, and what it becomes.
use Rattle.std.specs.Prelude.{ℕ, ◌+◌, ◌*◌, ◌/◌, ◌^◌, List, [], ◌∷◌, length, map, Bool, true, Option, Some, None, Result, Ok, Err, nat_eq, nat_lt, unsigned_abs, if◌then◌else◌}
use Rattle.cga_fraction.specs.Rat.{Rat, den}
use Rattle.cga_fraction.specs.Results.{and_then}
use Rattle.cga_word.specs.Seed.{shape_word_of}
use Rattle.cga_word.specs.declared.answers.Answers.{Answers}
use Rattle.cga_rule.specs.declared.cond.Cond.{Cond}
use Rattle.cga_rule.specs.declared.grammar.Attribute.{Attribute}
use Rattle.cga_rule.specs.declared.item.Item.{Item}
use Rattle.cga_rule.specs.declared.rule.Alternative.{Alternative}
use Rattle.cga_rule.specs.declared.rule.Rule.{Rule}
use Rattle.cga_expr.specs.Names.{Known}
use Rattle.cga_expr.specs.Holds.{cond_holds}
use Rattle.cga_shape.specs.declared.emitted.Emitted.{Emitted}
use Rattle.cga_shape.specs.declared.shape.Shape.{Shape}
use Rattle.cga_shape.specs.declared.shape_fault.ShapeFault.{ShapeFault}
use Rattle.cga_shape.specs.declared.shape_fault.ShapeFault.TheVariants.{TooDeep, Unmatched}
use Rattle.cga_expand.specs.declared.limits.TheConstants.{MOST_DEPTH, MILLIONTHS}
use Rattle.cga_expand.specs.declared.progress.Progress.{Progress}
use Rattle.cga_expand.specs.Faults.{faulted, of_expr}
use Rattle.cga_expand.specs.Walk.{in_turn, item_walk}

-- what a rule's expressions read: its own names of the parameters, and the shape's own scope to begin with
abbrev pub known_to : List Attribute → Shape → Rule → Known
known_to attributes shape rule = record { params = rule.params; args = shape.args; attributes = attributes; size = shape.scope.size; seed = shape.seed }

-- a rule without a condition always holds
abbrev pub optional_holds : Option Cond → Known → Answers → Result Bool ShapeFault
optional_holds None k answers = Ok true
optional_holds (Some cond) k answers = faulted of_expr (cond_holds cond k answers)

-- the first rule whose condition holds, or the fault of a condition before it
abbrev pub chosen : List Attribute → Shape → Answers → List Rule → Result Rule ShapeFault
chosen attributes shape answers [] = Err Unmatched
chosen attributes shape answers (rule ∷ rules) =
    and_then (optional_holds rule.cond (known_to attributes shape rule) answers) (λ holds.
    if holds then Ok rule else chosen attributes shape answers rules)

-- the number below a million that word 0 of the shape gives
abbrev pub drawn_number : Shape → ℕ
drawn_number shape = shape_word_of shape.seed 0 * MILLIONTHS / 2 ^ 32

abbrev pub millionths : Rat → ℕ
millionths p = unsigned_abs p.num * MILLIONTHS / den p

-- the first alternative whose millionths, with those before it, are more than the number
abbrev pub picked : ℕ → ℕ → List Alternative → Option (List Item)
picked number before [] = None
picked number before (a ∷ more) =
    if nat_lt number (before + millionths a.prob) then Some a.items else picked number (before + millionths a.prob) more

abbrev pub start : Shape → Progress
start shape = record { scope = shape.scope; children = []; parts = 0 }

-- the items in order; no valid grammar leaves a number without an alternative
abbrev pub successor : Option (List Item) → Known → Shape → Result (List Emitted) ShapeFault
successor None k shape = Err Unmatched
successor (Some items) k shape = and_then (in_turn (map item_walk items) k (start shape)) (λ s. Ok s.children)

-- what a shape becomes by the rules of its symbol, which are tried in this order, or the first fault
unfoldable pub expansion : List Attribute → List Rule → Shape → Answers → Result (List Emitted) ShapeFault
expansion attributes rules shape answers =
    if nat_eq (length shape.path) MOST_DEPTH then Err TooDeep
    else and_then (chosen attributes shape answers rules) (λ rule.
    successor (picked (drawn_number shape) 0 rule.alternatives) (known_to attributes shape rule) shape)
