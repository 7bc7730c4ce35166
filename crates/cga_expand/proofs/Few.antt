-- An expansion never has more children than it may have.
use Rattle.std.proofs.Common.{◌≡◌, ℕ, ◌+◌, ◌<◌, ◌≤◌, List, [], ◌∷◌, ◌++◌, map, length, refl, sym, subst, arith, Bool, true, false, if◌then◌else◌, Ok, Err, length-append}
use Rattle.std.specs.Prelude.{Result, Option, Some, None, nat_eq, nat_le, nat_lt, IfOk}
use Rattle.std.proofs.lemmas.Bool.Decides.{nat_tests}
use Rattle.cga_fraction.specs.Results.{and_then}
use Rattle.cga_word.specs.Seed.{child_seed_of}
use Rattle.cga_word.specs.declared.answers.Answers.{Answers}
use Rattle.cga_frame.specs.Scope.{Scope}
use Rattle.cga_rule.specs.declared.grammar.Grammar.{Grammar}
use Rattle.cga_rule.specs.declared.grammar.Attribute.{Attribute}
use Rattle.cga_rule.specs.declared.item.Item.{Item, Item-F, roll-Item}
use Rattle.cga_rule.specs.declared.item.Body.{Body, Body-F, roll-Body}
use Rattle.cga_rule.specs.declared.item.Item.TheFolds.{fold-roll-Item, fold-roll-Body, ind-Item, map-Item, map-Body}
use Rattle.cga_rule.specs.declared.item.Item.TheOpen.{Move, Resize, Rotate, Scoped, Solid, Subdiv, Repeat, Comp, Child}
use Rattle.cga_rule.specs.declared.rule.Rule.{Rule}
use Rattle.cga_rule.specs.declared.expr.Expr.{Expr}
use Rattle.cga_solid.specs.Solids.{check_solid_of}
use Rattle.cga_word.specs.declared.primitive.Primitive.{Primitive}
use Rattle.cga_expand.specs.Collect.{collected}
use Rattle.cga_expand.specs.Faults.{faulted, of_solid}
use Rattle.cga_expand.specs.Scopes.{value_in, moved_by, resized_by, turned_by}
use Rattle.cga_expr.specs.Names.{Known}
use Rattle.cga_shape.specs.declared.emitted.Emitted.{Emitted}
use Rattle.cga_shape.specs.declared.shape.Shape.{Shape}
use Rattle.cga_shape.specs.declared.shape_fault.ShapeFault.{ShapeFault}
use Rattle.cga_shape.specs.declared.shape_fault.ShapeFault.TheVariants.{TooManyChildren, TooManyParts, TooDeep}
use Rattle.cga_shape.specs.declared.emitted.Emitted.TheVariants as emitted
use Rattle.cga_expand.specs.declared.limits.TheConstants.{MOST_CHILDREN, MOST_PARTS, MOST_DEPTH}
use Rattle.cga_expand.specs.declared.progress.Progress.{Progress}
use Rattle.cga_expand.specs.Walk.{Walk, with_scope, emit, drawn, grown, count_parts, rescoped, in_turn, over_body, over_bodies, restored, over, item_step, body_step, item_walk, body_walk}
use Rattle.cga_expand.specs.Rules.{expansion, successor, chosen, known_to, picked, drawn_number, start}
use Rattle.cga_expand.specs.Expand.{expand_of, rules_by_id}

abbrev IsFew : Progress → Type 0
IsFew s = length s.children ≤ MOST_CHILDREN

abbrev Few : Result Progress ShapeFault → Type 0
Few (Ok s) = IsFew s
Few (Err fault) = Unit {0}

abbrev Keeps : Walk → Type 0
Keeps w = (k : Known) (s : Progress) → IsFew s → Few (w k s)

then_few : (r : Result Progress ShapeFault) (f : Progress → Result Progress ShapeFault) → Few r
    → ((s : Progress) → IsFew s → Few (f s)) → Few (and_then r f)
then_few (Ok s) f h g = g s h
then_few (Err fault) f h g = tt

after_few : {A : Type 0} (r : Result A ShapeFault) (f : A → Result Progress ShapeFault) → ((x : A) → Few (f x))
    → Few (and_then r f)
after_few (Ok x) f g = g x
after_few (Err fault) f g = tt

-- ---- what emits

emit_step : (made : ℕ → Emitted) (k : Known) (s : Progress) (b : Bool) → nat_le MOST_CHILDREN (length s.children) ≡ b
    → Few (and_then (if b then Err TooManyChildren else Ok (length s.children))
    (λ i. Ok (record s { children = s.children ++ made (child_seed_of k.seed i) ∷ [] })))
emit_step made k s true e = tt
emit_step made k s false e =
    let lt : length s.children < MOST_CHILDREN = grind (arith, nat_tests) in
    omega (arith, length-append s.children (made (child_seed_of k.seed (length s.children)) ∷ []))

emit_keeps : (made : ℕ → Emitted) → Keeps (emit made)
emit_keeps made k s h = emit_step made k s (nat_le MOST_CHILDREN (length s.children)) refl

drawn_keeps : (p : Primitive) → Keeps (drawn p)
drawn_keeps p k s h = after_few (faulted of_solid (check_solid_of p s.scope)) (λ u. emit (emitted.Solid p s.scope) k s) (λ u. emit_keeps (emitted.Solid p s.scope) k s h)

grown_keeps : (symbol : List ℕ) (args : List Expr) → Keeps (grown symbol args)
grown_keeps symbol args k s h = after_few (collected (value_in k s.scope) args) (λ xs. emit (emitted.Child symbol xs s.scope) k s) (λ xs. emit_keeps (emitted.Child symbol xs s.scope) k s h)

rescoped_few : (made : Result Scope ShapeFault) (s : Progress) → IsFew s → Few (rescoped made s)
rescoped_few (Ok scope) s h = h
rescoped_few (Err fault) s h = tt

-- ---- what follows one after the other

abbrev AllKeep : List Walk → Type 0
AllKeep [] = Unit {0}
AllKeep (w ∷ ws) = Keeps w × AllKeep ws

turn_keeps : (ws : List Walk) → AllKeep ws → Keeps (in_turn ws)
turn_keeps [] all k s h = h
turn_keeps (w ∷ ws) all k s h = then_few (w k s) (in_turn ws k) (all.0 k s h) (turn_keeps ws all.1 k)

body_keeps : (w : Walk) (parts : List Scope) → Keeps w → Keeps (over_body w parts)
body_keeps w [] each k s h = h
body_keeps w (p ∷ ps) each k s h = then_few (w k (with_scope p s)) (over_body w ps k) (each k (with_scope p s) h) (body_keeps w ps each k)

bodies_keep : (ws : List Walk) (parts : List Scope) → AllKeep ws → Keeps (over_bodies ws parts)
bodies_keep [] [] all k s h = h
bodies_keep (w ∷ ws) [] all k s h = h
bodies_keep [] (p ∷ ps) all k s h = h
bodies_keep (w ∷ ws) (p ∷ ps) all k s h = then_few (w k (with_scope p s)) (over_bodies ws ps k) (all.0 k (with_scope p s) h) (bodies_keep ws ps all.1 k)

restored_keeps : (w : Walk) → Keeps w → Keeps (restored w)
restored_keeps w each k s h = then_few (w k s) (λ t. Ok (with_scope s.scope t)) (each k s h) (λ t few. few)

count_step : (n : ℕ) (s : Progress) (b : Bool) → IsFew s
    → Few (if b then Err TooManyParts else Ok (record s { parts = s.parts + n }))
count_step n s true h = tt
count_step n s false h = h

count_few : (n : ℕ) (s : Progress) → IsFew s → Few (count_parts n s)
count_few n s h = count_step n s (nat_lt MOST_PARTS (s.parts + n)) h

over_keeps : (made : Result (List Scope) ShapeFault) (each : List Scope → Walk)
    → ((parts : List Scope) → Keeps (each parts)) → Keeps (over made each)
over_keeps made each keeps k s h =
    after_few made (λ ps. and_then (count_parts (length ps) s) (restored (each ps) k))
    (λ ps. then_few (count_parts (length ps) s) (restored (each ps) k) (count_few (length ps) s h) (restored_keeps (each ps) (keeps ps) k))

-- ---- items

abbrev SomeItem : Type 0
SomeItem = (i : Item) × Keeps (item_walk i)

abbrev SomeBody : Type 0
SomeBody = (b : Body) × Keeps (body_walk b)

items_keep : (items : List SomeItem) → AllKeep (map item_walk (map (λ e. e.0) items))
items_keep [] = tt
items_keep (e ∷ items) = (e.1, items_keep items)

all_bodies_keep : (bodies : List SomeBody) → AllKeep (map body_walk (map (λ e. e.0) bodies))
all_bodies_keep [] = tt
all_bodies_keep (e ∷ bodies) = (e.1, all_bodies_keep bodies)

item_layer : (x : Item-F Item Body)
    → item_walk (roll-Item x) ≡ item_step (map-Item Item Body Walk Walk item_walk body_walk x)
unfolding item_walk body_walk
item_layer x = fold-roll-Item Walk Walk item_step body_step x

body_layer : (x : Body-F Item Body)
    → body_walk (roll-Body x) ≡ body_step (map-Body Item Body Walk Walk item_walk body_walk x)
unfolding item_walk body_walk
body_layer x = fold-roll-Body Walk Walk item_step body_step x

item_few : (y : Item-F SomeItem SomeBody)
    → Keeps (item_step (map-Item Item Body Walk Walk item_walk body_walk
    (map-Item SomeItem SomeBody Item Body (λ e. e.0) (λ e. e.0) y)))
item_few (Move x y z) k s h = rescoped_few (moved_by x y z k s.scope) s h
item_few (Resize x y z) k s h = rescoped_few (resized_by x y z k s.scope) s h
item_few (Rotate axis by) k s h = rescoped_few (turned_by axis by s.scope) s h
item_few (Scoped items) k s h = restored_keeps _ (turn_keeps _ (items_keep items)) k s h
item_few (Solid p) k s h = drawn_keeps p k s h
item_few (Subdiv axis sizes bodies) k s h = over_keeps _ _ (λ parts. bodies_keep _ parts (all_bodies_keep bodies)) k s h
item_few (Repeat axis length body) k s h = over_keeps _ _ (λ parts. body_keeps (body_walk body.0) parts body.1) k s h
item_few (Comp selector body) k s h = over_keeps _ _ (λ parts. body_keeps (body_walk body.0) parts body.1) k s h
item_few (Child symbol args) k s h = grown_keeps symbol args k s h

body_few : (y : Body-F SomeItem SomeBody)
    → Keeps (body_step (map-Body Item Body Walk Walk item_walk body_walk
    (map-Body SomeItem SomeBody Item Body (λ e. e.0) (λ e. e.0) y)))
body_few y = turn_keeps _ (items_keep y.items)

item_keeps : (i : Item) → Keeps (item_walk i)
item_keeps =
    ind-Item (λ i. Keeps (item_walk i)) (λ b. Keeps (body_walk b))
    (λ x y is. subst (λ (z : Item-F Item Body). Keeps (item_walk (roll-Item z))) is (subst Keeps (sym (item_layer _)) (item_few y)))
    (λ x y is. subst (λ (z : Body-F Item Body). Keeps (body_walk (roll-Body z))) is (subst Keeps (sym (body_layer _)) (body_few y)))

-- ---- the whole

abbrev FewChildren : Result (List Emitted) ShapeFault → Type 0
FewChildren made = IfOk made (λ children. length children ≤ MOST_CHILDREN)

all_keep : (items : List Item) → AllKeep (map item_walk items)
all_keep [] = tt
all_keep (i ∷ items) = (item_keeps i, all_keep items)

children_few : (r : Result Progress ShapeFault) → Few r → FewChildren (and_then r (λ s. Ok s.children))
children_few (Ok s) h = h
children_few (Err fault) h = tt

successor_few : (items : Option (List Item)) (k : Known) (shape : Shape) → FewChildren (successor items k shape)
successor_few None k shape = tt
successor_few (Some items) k shape = children_few _ (turn_keeps (map item_walk items) (all_keep items) k (start shape) (omega arith))

chosen_few : (rule : Result Rule ShapeFault) (f : Rule → Result (List Emitted) ShapeFault)
    → ((r : Rule) → FewChildren (f r)) → FewChildren (and_then rule f)
chosen_few (Ok r) f g = g r
chosen_few (Err fault) f g = tt

depth_few : (b : Bool) (made : Result (List Emitted) ShapeFault) → FewChildren made
    → FewChildren (if b then Err TooDeep else made)
depth_few true made h = tt
depth_few false made h = h

expansion_few : (attributes : List Attribute) (rules : List Rule) (shape : Shape) (answers : Answers)
    → FewChildren (expansion attributes rules shape answers)
unfolding expansion
expansion_few attributes rules shape answers =
    depth_few (nat_eq (length shape.path) MOST_DEPTH) _ (chosen_few (chosen attributes shape answers rules) _ (λ rule.
    successor_few (picked (drawn_number shape) 0 rule.alternatives) (known_to attributes shape rule) shape))

expand_few : (grammar : Grammar) (shape : Shape) (answers : Answers) → FewChildren (expand_of grammar shape answers)
unfolding expand_of
expand_few grammar shape answers = expansion_few grammar.attributes (rules_by_id grammar shape.symbol) shape answers

-- where an answer is what the shape expands to, it has no more children than the most that there may be
pub few_made : {E : Type 0} (grammar : Grammar) (shape : Shape) (answers : Answers)
    (r : Result (Result (List Emitted) ShapeFault) E)
    → IfOk r (λ made. made ≡ expand_of grammar shape answers) → IfOk r FewChildren
few_made grammar shape answers (Ok made) is = subst FewChildren (sym is) (expand_few grammar shape answers)
few_made grammar shape answers (Err e) is = tt
