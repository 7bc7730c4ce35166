-- Each solid that an expansion emits can be drawn.
use Rattle.std.proofs.Common.{◌≡◌, ℕ, ◌+◌, List, [], ◌∷◌, ◌++◌, map, length, refl, sym, ap, subst, Result, Ok, Err, Some, None, Option, inl, inr, nat_eq, nat_lt}
use Rattle.std.specs.Prelude.{IsOk}
use Rattle.std.specs.List.{AllByRecursion}
use Rattle.cga_word.specs.declared.primitive.Primitive.{Primitive}
use Rattle.cga_frame.specs.Scope.{Scope}
use Rattle.cga_solid.specs.Solids.{check_solid_of}
use Rattle.cga_solid.specs.declared.solid_fault.SolidFault.{SolidFault}
use Rattle.cga_rule.specs.declared.item.Item.{Item, Item-F, roll-Item, map-Item}
use Rattle.cga_rule.specs.declared.item.Body.{Body, Body-F, roll-Body, map-Body}
use Rattle.cga_rule.specs.declared.item.Item.TheFolds.{ind-Item, fold-roll-Item}
use Rattle.cga_rule.specs.declared.item.Item.TheOpen as layer
use Rattle.cga_shape.specs.declared.emitted.Emitted.{Emitted}
use Rattle.cga_shape.specs.declared.emitted.Emitted.TheVariants as emitted
use Rattle.cga_shape.specs.declared.shape_fault.ShapeFault.{ShapeFault}
use Rattle.cga_shape.specs.declared.shape.Shape.{Shape}
use Rattle.cga_rule.specs.declared.grammar.Attribute.{Attribute}
use Rattle.cga_rule.specs.declared.rule.Rule.{Rule}
use Rattle.cga_word.specs.declared.answers.Answers.{Answers}
use Rattle.cga_expr.specs.Names.{Known}
use Rattle.cga_expand.specs.declared.limits.TheConstants.{MOST_DEPTH, MOST_PARTS}
use Rattle.cga_expand.specs.declared.progress.Progress.{Progress}
use Rattle.cga_expand.specs.Collect.{collected}
use Rattle.cga_expand.specs.Rules.{expansion, chosen, successor, picked, drawn_number, known_to, start}
use Rattle.cga_expand.specs.Scopes.{moved_by, resized_by, turned_by, subdivided, repeated, taken_apart, value_in}
use Rattle.cga_expand.proofs.Door.{body_layer}
use Rattle.cga_expand.specs.Faults.{faulted, of_solid}
use Rattle.cga_expand.specs.Walk.{Walk, with_scope, next_index, emit, count_parts, drawn, rescoped, in_turn, over_body, over_bodies, restored, over, item_step, body_step, item_walk, body_walk}
use Rattle.cga_city.proofs.Sorting.{decide}
use Rattle.cga_fraction.proofs.Door.{and_then-ok as and_then_ok}

abbrev pub CanDraw : Emitted → Type 0
CanDraw (emitted.Child symbol args scope seed) = Unit {0}
CanDraw (emitted.Solid p scope seed) = IsOk (check_solid_of p scope)

abbrev pub AllDraw : List Emitted → Type 0
AllDraw = AllByRecursion CanDraw

-- what a part of a successor keeps of the children so far
abbrev pub Keeps : {K : Type 0} → (K → Progress → Result Progress ShapeFault) → Type 0
Keeps {K} w = (k : K) (s t : Progress) → w k s ≡ Ok t → AllDraw s.children → AllDraw t.children

abbrev pub AllKeep : List Walk → Type 0
AllKeep = AllByRecursion Keeps

one_more : (es : List Emitted) (e : Emitted) → AllDraw es → CanDraw e → AllDraw (es ++ e ∷ [])
one_more [] e h k = (k, tt)
one_more (x ∷ es) e h k = (h.0, one_more es e h.1 k)

-- the children of a state that was reached
abbrev children_in : Progress → Result Progress ShapeFault → List Emitted
children_in s (Ok t) = t.children
children_in s (Err e) = s.children

same_children : (s m t : Progress) → AllDraw m.children → ◌≡◌ {A = Result Progress ShapeFault} (Ok m) (Ok t)
    → AllDraw t.children
same_children s m t all e = let c : m.children ≡ t.children = ap (λ (r : Result Progress ShapeFault). children_in s r) e in subst AllDraw c all

emit_keeps : (made : ℕ → Emitted) → ((seed : ℕ) → CanDraw (made seed)) → Keeps (emit made)
emit_keeps made can k s t h all =
    let (i, at, e) = and_then_ok (next_index s) _ t h in
    let c = ap (λ (r : Result Progress ShapeFault). children_in s r) e in
    subst AllDraw c (one_more s.children _ all (can _))

rescope_keeps : {K : Type 0} (f : K → Progress → Result Scope ShapeFault) → Keeps (λ k s. rescoped (f k s) s)
rescope_keeps f k s t h all = let (scope, at, e) = and_then_ok (f k s) _ t h in same_children s (with_scope scope s) t all e

in_turn_keeps : (ws : List Walk) → AllKeep ws → Keeps (in_turn ws)
in_turn_keeps [] a k s t h all = same_children s s t all h
in_turn_keeps (w ∷ ws) a k s t h all = let (m, at, e) = and_then_ok (w k s) _ t h in in_turn_keeps ws a.1 k m t e (a.0 k s m at all)

over_body_keeps : (w : Walk) → Keeps w → (ps : List Scope) → Keeps (over_body w ps)
over_body_keeps w a [] k s t h all = same_children s s t all h
over_body_keeps w a (p ∷ ps) k s t h all = let (m, at, e) = and_then_ok (w k (with_scope p s)) _ t h in over_body_keeps w a ps k m t e (a k (with_scope p s) m at all)

over_bodies_keeps : (ws : List Walk) → AllKeep ws → (ps : List Scope) → Keeps (over_bodies ws ps)
over_bodies_keeps [] a [] k s t h all = same_children s s t all h
over_bodies_keeps [] a (p ∷ ps) k s t h all = same_children s s t all h
over_bodies_keeps (w ∷ ws) a [] k s t h all = same_children s s t all h
over_bodies_keeps (w ∷ ws) a (p ∷ ps) k s t h all =
    let (m, at, e) = and_then_ok (w k (with_scope p s)) _ t h in over_bodies_keeps ws a.1 ps k m t e (a.0 k (with_scope p s) m at all)

restored_keeps : (w : Walk) → Keeps w → Keeps (restored w)
restored_keeps w a k s t h all = let (m, at, e) = and_then_ok (w k s) _ t h in same_children s (with_scope s.scope m) t (a k s m at all) e

count_keeps : (n : ℕ) (s t : Progress) → count_parts n s ≡ Ok t → AllDraw s.children → AllDraw t.children
count_keeps n s t h all = elim (decide (nat_lt MOST_PARTS (s.parts + n))) [
  | inl y ↦ (let k = rw y at h in absurd (cc))
  | inr f ↦ (let k = rw f at h in same_children s (record s { parts = s.parts + n }) t all k)
]

over_keeps : (made : Result (List Scope) ShapeFault) (each : List Scope → Walk) → ((ps : List Scope) → Keeps (each ps))
    → Keeps (over made each)
over_keeps made each a k s t h all =
    let (ps, at, e) = and_then_ok made _ t h in
    let (m, counted, f) = and_then_ok (count_parts (length ps) s) _ t e in
    restored_keeps (each ps) (a ps) k m t f (count_keeps (length ps) s m counted all)

solid_fits : (r : Result (Unit {0}) SolidFault) (u : Unit {0}) → faulted of_solid r ≡ Ok u → IsOk r
solid_fits (Ok x) u h = refl
solid_fits (Err e) u h = absurd (cc)

drawn_keeps : (p : Primitive) → Keeps (drawn p)
drawn_keeps p k s t h all =
    let (u, at, e) = and_then_ok (faulted of_solid (check_solid_of p s.scope)) _ t h in
    emit_keeps (emitted.Solid p s.scope) (λ seed. solid_fits (check_solid_of p s.scope) u at) k s t e all

-- ---- all items

abbrev KeepsItem : Item → Type 0
KeepsItem i = Keeps (item_walk i)

abbrev KeepsBody : Body → Type 0
KeepsBody b = Keeps (body_walk b)

module _ {I B : Type 0} (item : I → Item) (body : B → Body) (items : (e : I) → KeepsItem (item e)) (bodies : (e : B) → KeepsBody (body e)) where
  each_item : (ys : List I) → AllKeep (map item_walk (map item ys))
  each_item [] = tt
  each_item (y ∷ ys) = (items y, each_item ys)

  each_body : (ys : List B) → AllKeep (map body_walk (map body ys))
  each_body [] = tt
  each_body (y ∷ ys) = (bodies y, each_body ys)

  layer_keeps : (y : Item-F I B)
      → Keeps (item_step (map-Item Item Body Walk Walk item_walk body_walk (map-Item I B Item Body item body y)))
  layer_keeps (layer.Move x y z) k s t h all = rescope_keeps (λ k s. moved_by x y z k s.scope) k s t h all
  layer_keeps (layer.Resize x y z) k s t h all = rescope_keeps (λ k s. resized_by x y z k s.scope) k s t h all
  layer_keeps (layer.Rotate axis by) k s t h all = rescope_keeps (λ k s. turned_by axis by s.scope) k s t h all
  layer_keeps (layer.Scoped ys) k s t h all = restored_keeps (in_turn (map item_walk (map item ys))) (in_turn_keeps (map item_walk (map item ys)) (each_item ys)) k s t h all
  layer_keeps (layer.Solid p) k s t h all = drawn_keeps p k s t h all
  layer_keeps (layer.Subdiv axis sizes ys) k s t h all =
      over_keeps (subdivided axis sizes k s.scope) (over_bodies (map body_walk (map body ys))) (over_bodies_keeps (map body_walk (map body ys)) (each_body ys)) k s t h all
  layer_keeps (layer.Repeat axis size y) k s t h all = over_keeps (repeated axis size k s.scope) (over_body (body_walk (body y))) (over_body_keeps (body_walk (body y)) (bodies y)) k s t h all
  layer_keeps (layer.Comp selector y) k s t h all = over_keeps (taken_apart selector s.scope) (over_body (body_walk (body y))) (over_body_keeps (body_walk (body y)) (bodies y)) k s t h all
  layer_keeps (layer.Child symbol args) k s t h all =
      let (xs, at, e) = and_then_ok (collected (value_in k s.scope) args) _ t h in emit_keeps (emitted.Child symbol xs s.scope) (λ seed. tt) k s t e all

  item_keeps : (y : Item-F I B) → KeepsItem (roll-Item (map-Item I B Item Body item body y))
  unfolding item_walk body_walk
  item_keeps y = subst (λ (w : Walk). Keeps w) (sym (fold-roll-Item Walk Walk item_step body_step (map-Item I B Item Body item body y))) (layer_keeps y)

  body_keeps : (y : Body-F I B) → KeepsBody (roll-Body (map-Body I B Item Body item body y))
  body_keeps y = subst (λ (w : Walk). Keeps w) (sym (body_layer (roll-Body (map-Body I B Item Body item body y)))) (in_turn_keeps (map item_walk (map item y.items)) (each_item y.items))

pub items_keep : (i : Item) → KeepsItem i
items_keep =
    ind-Item KeepsItem KeepsBody (λ x y is. subst (λ (z : Item-F Item Body). KeepsItem (roll-Item z)) is (item_keeps (λ e. e.0) (λ e. e.0) (λ e. e.1) (λ e. e.1) y))
    (λ x y is. subst (λ (z : Body-F Item Body). KeepsBody (roll-Body z)) is (body_keeps (λ e. e.0) (λ e. e.0) (λ e. e.1) (λ e. e.1) y))

all_items : (items : List Item) → AllKeep (map item_walk items)
all_items [] = tt
all_items (i ∷ items) = (items_keep i, all_items items)

-- ---- an expansion

successor_draws : (o : Option (List Item)) (k : Known) (shape : Shape) (es : List Emitted) → successor o k shape ≡ Ok es
    → AllDraw es
successor_draws None k shape es h = absurd (cc)
successor_draws (Some items) k shape es h =
    let (m, at, e) = and_then_ok (in_turn (map item_walk items) k (start shape)) _ es h in
    let c : m.children ≡ es = cc in
    subst AllDraw c (in_turn_keeps (map item_walk items) (all_items items) k (start shape) m at tt)

pub expansion_draws : (attributes : List Attribute) (rules : List Rule) (shape : Shape) (answers : Answers)
    (es : List Emitted)
    → expansion attributes rules shape answers ≡ Ok es → AllDraw es
unfolding expansion
expansion_draws attributes rules shape answers es h = elim (decide (nat_eq (length shape.path) MOST_DEPTH)) [
  | inl y ↦ (let k = rw y at h in absurd (cc))
  | inr f ↦ (
      let k = rw f at h in
      let (rule, at, e) = and_then_ok (chosen attributes shape answers rules) _ es k in
      successor_draws (picked (drawn_number shape) 0 rule.alternatives) (known_to attributes shape rule) shape es e)
]
