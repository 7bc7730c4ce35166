-- The items of a successor, from left to right: what each does to a state, or its first fault.
use Rattle.std.specs.Prelude.{ℕ, ◌+◌, List, [], ◌∷◌, ◌++◌, length, Result, Ok, Err, nat_lt, nat_le, if◌then◌else◌}
use Rattle.cga_fraction.specs.Results.{and_then}
use Rattle.cga_word.specs.Seed.{child_seed_of}
use Rattle.cga_word.specs.declared.primitive.Primitive.{Primitive}
use Rattle.cga_frame.specs.Scope.{Scope}
use Rattle.cga_rule.specs.declared.expr.Expr.{Expr}
use Rattle.cga_rule.specs.declared.item.Item.{Item, Item-F}
use Rattle.cga_rule.specs.declared.item.Body.{Body, Body-F}
use Rattle.cga_rule.specs.declared.item.Item.TheFolds.{fold-Item, fold-Body}
use Rattle.cga_rule.specs.declared.item.Item.TheOpen.{Move, Resize, Rotate, Scoped, Solid, Subdiv, Repeat, Comp, Child}
use Rattle.cga_expr.specs.Names.{Known}
use Rattle.cga_solid.specs.Solids.{check_solid_of}
use Rattle.cga_shape.specs.declared.emitted.Emitted.{Emitted}
use Rattle.cga_shape.specs.declared.emitted.Emitted.TheVariants as emitted
use Rattle.cga_shape.specs.declared.shape_fault.ShapeFault.{ShapeFault}
use Rattle.cga_shape.specs.declared.shape_fault.ShapeFault.TheVariants.{TooManyParts, TooManyChildren}
use Rattle.cga_expand.specs.declared.limits.TheConstants.{MOST_CHILDREN, MOST_PARTS}
use Rattle.cga_expand.specs.declared.progress.Progress.{Progress}
use Rattle.cga_expand.specs.Collect.{collected}
use Rattle.cga_expand.specs.Faults.{faulted, of_solid}
use Rattle.cga_expand.specs.Scopes.{value_in, moved_by, resized_by, turned_by, subdivided, repeated, taken_apart}

-- what a part of a successor does
abbrev pub Walk : Type 0
Walk = Known → Progress → Result Progress ShapeFault

abbrev pub with_scope : Scope → Progress → Progress
with_scope scope s = record s { scope = scope }

-- the index of the next child, up to the limit
abbrev pub next_index : Progress → Result ℕ ShapeFault
next_index s = if nat_le MOST_CHILDREN (length s.children) then Err TooManyChildren else Ok (length s.children)

-- one more child, made with the seed of its index
abbrev pub emit : (ℕ → Emitted) → Walk
emit made k s = and_then (next_index s) (λ i. Ok (record s { children = s.children ++ made (child_seed_of k.seed i) ∷ [] }))

-- so many more parts, up to the limit
abbrev pub count_parts : ℕ → Progress → Result Progress ShapeFault
count_parts n s = if nat_lt MOST_PARTS (s.parts + n) then Err TooManyParts else Ok (record s { parts = s.parts + n })

-- I: the solid can be drawn into the scope, then it is emitted
abbrev pub drawn : Primitive → Walk
drawn p k s = and_then (faulted of_solid (check_solid_of p s.scope)) (λ u. emit (emitted.Solid p s.scope) k s)

-- a symbol: its arguments in order, then the child
abbrev pub grown : List ℕ → List Expr → Walk
grown symbol args k s = and_then (collected (value_in k s.scope) args) (λ xs. emit (emitted.Child symbol xs s.scope) k s)

-- another scope
abbrev pub rescoped : Result Scope ShapeFault → Progress → Result Progress ShapeFault
rescoped made s = and_then made (λ scope. Ok (with_scope scope s))

abbrev pub in_turn : List Walk → Walk
in_turn [] k s = Ok s
in_turn (w ∷ ws) k s = and_then (w k s) (in_turn ws k)

-- one body for all parts
abbrev pub over_body : Walk → List Scope → Walk
over_body w [] k s = Ok s
over_body w (p ∷ ps) k s = and_then (w k (with_scope p s)) (over_body w ps k)

-- a body for each part
abbrev pub over_bodies : List Walk → List Scope → Walk
over_bodies ws [] k s = Ok s
over_bodies [] (p ∷ ps) k s = Ok s
over_bodies (w ∷ ws) (p ∷ ps) k s = and_then (w k (with_scope p s)) (over_bodies ws ps k)

-- afterwards the current scope is what it was before
abbrev pub restored : Walk → Walk
restored w k s = and_then (w k s) (λ t. Ok (with_scope s.scope t))

-- parts are made, then counted, then done, and the scope is as it was
abbrev pub over : Result (List Scope) ShapeFault → (List Scope → Walk) → Walk
over made each k s = and_then made (λ ps. and_then (count_parts (length ps) s) (restored (each ps) k))

abbrev pub item_step : Item-F Walk Walk → Walk
item_step (Move x y z) k s = rescoped (moved_by x y z k s.scope) s
item_step (Resize x y z) k s = rescoped (resized_by x y z k s.scope) s
item_step (Rotate axis by) k s = rescoped (turned_by axis by s.scope) s
item_step (Scoped items) k s = restored (in_turn items) k s
item_step (Solid p) k s = drawn p k s
item_step (Subdiv axis sizes bodies) k s = over (subdivided axis sizes k s.scope) (over_bodies bodies) k s
item_step (Repeat axis length body) k s = over (repeated axis length k s.scope) (over_body body) k s
item_step (Comp selector body) k s = over (taken_apart selector s.scope) (over_body body) k s
item_step (Child symbol args) k s = grown symbol args k s

abbrev pub body_step : Body-F Walk Walk → Walk
body_step b = in_turn b.items

unfoldable pub item_walk : Item → Walk
item_walk = fold-Item Walk Walk item_step body_step

unfoldable pub body_walk : Body → Walk
body_walk = fold-Body Walk Walk item_step body_step
