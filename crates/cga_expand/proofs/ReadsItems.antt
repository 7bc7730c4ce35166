-- What an item does reads of the attributes only those that the item names.
use Rattle.std.proofs.Common.{◌≡◌, List, [], ◌∷◌, map, length, refl, ap, sym, ◌∙◌, subst, Ok, Err}
use Rattle.std.specs.Prelude.{Result, flat_map}
use Rattle.cga_fraction.specs.Rat.{Rat}
use Rattle.cga_fraction.specs.Results.{and_then}
use Rattle.cga_word.specs.declared.axis.Axis.{Axis}
use Rattle.cga_word.specs.declared.axis.Axis.TheVariants.{X, Y, Z}
use Rattle.cga_frame.specs.Scope.{Scope, existing, scope_of, translated}
use Rattle.cga_rule.specs.declared.expr.Expr.{Expr}
use Rattle.cga_rule.specs.declared.grammar.Attribute.{Attribute}
use Rattle.cga_rule.specs.declared.item.Size.{Size}
use Rattle.cga_rule.specs.declared.item.Size.TheVariants.{Relative, Absolute}
use Rattle.cga_rule.specs.declared.item.Item.{Item, Item-F, roll-Item}
use Rattle.cga_rule.specs.declared.item.Body.{Body, Body-F, roll-Body}
use Rattle.cga_rule.specs.declared.item.Item.TheFolds.{fold-roll-Item, fold-roll-Body, ind-Item, map-Item, map-Body}
use Rattle.cga_rule.specs.declared.item.Item.TheOpen.{Move, Resize, Rotate, Scoped, Solid, Subdiv, Repeat, Comp, Child}
use Rattle.cga_split.specs.declared.part_size.PartSize.{PartSize}
use Rattle.cga_split.specs.declared.part_size.PartSize.TheVariants as part
use Rattle.cga_split.specs.Split.{subdiv_of, repeat_of}
use Rattle.cga_check.specs.declared.usage.Use.{Use}
use Rattle.cga_check.specs.declared.usage.Use.TheVariants as uses
use Rattle.cga_check.specs.Uses as used
use Rattle.cga_expr.specs.Names.{Known, number_of}
use Rattle.cga_shape.specs.declared.emitted.Emitted.TheVariants as emitted
use Rattle.cga_shape.specs.declared.shape_fault.ShapeFault.{ShapeFault}
use Rattle.cga_expand.specs.declared.progress.Progress.{Progress}
use Rattle.cga_expand.specs.Collect.{collected}
use Rattle.cga_expand.specs.Faults.{faulted, of_overflow, of_expr, of_scope, of_split}
use Rattle.cga_expand.specs.Scopes.{sized, value_in, size_in, part_in, subdivided, repeated, taken_apart}
use Rattle.cga_expand.specs.Walk.{Walk, with_scope, emit, count_parts, rescoped, in_turn, over_body, over_bodies, restored, over, item_step, body_step, item_walk, body_walk}
use Rattle.cga_expand.proofs.ReadsExprs.{with_others, AgreesAt, Agrees, agrees_left, agrees_right, expr_reads}

-- the sizes of the current scope are no names
at_size : (k : Known) (others : List Attribute) (s : Scope) (u : Use) → AgreesAt k others u
    → AgreesAt (sized k s) others u
unfolding number_of
at_size k others s (uses.Answer target) h = tt
at_size k others s (uses.Child symbol args) h = tt
at_size k others s (uses.Parts sizes bodies) h = tt
at_size k others s (uses.Named name) h = h

at_sizes : (k : Known) (others : List Attribute) (s : Scope) (us : List Use) → Agrees k others us
    → Agrees (sized k s) others us
at_sizes k others s [] h = tt
at_sizes k others s (u ∷ us) h = (at_size k others s u h.0, at_sizes k others s us h.1)

followed_by : {A B F : Type 0} (r : Result A F) (f g : A → Result B F) → ((x : A) → f x ≡ g x)
    → and_then r f ≡ and_then r g
followed_by (Ok x) f g h = h x
followed_by (Err fault) f g h = refl

-- three results, one after the other
three : {A B F : Type 0} (r r' s s' t t' : Result A F) (f : A → A → A → Result B F) → r ≡ r' → s ≡ s' → t ≡ t'
    → and_then r (λ a. and_then s (λ b. and_then t (λ c. f a b c))) ≡ and_then r'
    (λ a. and_then s' (λ b. and_then t' (λ c. f a b c)))
three r r' s s' t t' f d e g =
    ap (λ o. and_then o (λ a. and_then s (λ b. and_then t (λ c. f a b c)))) d
    ∙ ap (λ o. and_then r' (λ a. and_then o (λ b. and_then t (λ c. f a b c)))) e
    ∙ ap (λ o. and_then r' (λ a. and_then s' (λ b. and_then o (λ c. f a b c)))) g

module _ (k : Known) (others : List Attribute) where
  abbrev Other : Known
  Other = with_others k others

  value_same : (e : Expr) (s : Scope) → Agrees k others (used.expr_uses e) → value_in k s e ≡ value_in Other s e
  value_same e s h = ap (faulted of_expr) (expr_reads (sized k s) others e (at_sizes k others s (used.expr_uses e) h))

  size_same : (z : Size) (axis : Axis) (s : Scope) → Agrees k others (used.size_uses z)
      → size_in k s axis z ≡ size_in Other s axis z
  size_same (Relative factor) axis s h = refl
  size_same (Absolute e) axis s h = value_same e s h

  part_same : (z : Size) (s : Scope) → Agrees k others (used.size_uses z) → part_in k s z ≡ part_in Other s z
  part_same (Relative factor) s h = refl
  part_same (Absolute e) s h = ap (λ (o : Result Rat ShapeFault). and_then o (λ x. Ok (part.Absolute x))) (value_same e s h)

  values_same : (es : List Expr) (s : Scope) → Agrees k others (flat_map used.expr_uses es)
      → collected (value_in k s) es ≡ collected (value_in Other s) es
  values_same [] s h = refl
  values_same (e ∷ es) s h =
      ap (λ (o : Result Rat ShapeFault). and_then o (λ y. and_then (collected (value_in k s) es) (λ ys. Ok (y ∷ ys)))) (value_same e s (agrees_left k others (used.expr_uses e) _ h))
      ∙ ap (λ (o : Result (List Rat) ShapeFault). and_then (value_in Other s e) (λ y. and_then o (λ ys. Ok (y ∷ ys)))) (values_same es s (agrees_right k others (used.expr_uses e) _ h))

  parts_same : (zs : List Size) (s : Scope) → Agrees k others (flat_map used.size_uses zs)
      → collected (part_in k s) zs ≡ collected (part_in Other s) zs
  parts_same [] s h = refl
  parts_same (z ∷ zs) s h =
      ap (λ (o : Result PartSize ShapeFault). and_then o (λ y. and_then (collected (part_in k s) zs) (λ ys. Ok (y ∷ ys)))) (part_same z s (agrees_left k others (used.size_uses z) _ h))
      ∙ ap (λ (o : Result (List PartSize) ShapeFault). and_then (part_in Other s z) (λ y. and_then o (λ ys. Ok (y ∷ ys)))) (parts_same zs s (agrees_right k others (used.size_uses z) _ h))

  -- where the names agree, the same is done
  abbrev Same : Walk → List Use → Type 0
  Same w us = Agrees k others us → (s : Progress) → w k s ≡ w Other s

  abbrev SomeItem : Type 0
  SomeItem = (i : Item) × Same (item_walk i) (used.item_uses i)

  abbrev SomeBody : Type 0
  SomeBody = (b : Body) × Same (body_walk b) (used.body_uses b)

  turn_step : (w : Walk) (ws : List Walk) (s : Progress) → w k s ≡ w Other s
      → ((t : Progress) → in_turn ws k t ≡ in_turn ws Other t) → in_turn (w ∷ ws) k s ≡ in_turn (w ∷ ws) Other s
  turn_step w ws s e h = ap (λ o. and_then o (in_turn ws k)) e ∙ followed_by (w Other s) (in_turn ws k) (in_turn ws Other) h

  items_same : (items : List SomeItem) → Agrees k others (used.all (map used.item_uses (map (λ e. e.0) items)))
      → (s : Progress)
      → in_turn (map item_walk (map (λ e. e.0) items)) k s ≡ in_turn (map item_walk (map (λ e. e.0) items)) Other s
  items_same [] h s = refl
  items_same (i ∷ items) h s =
      turn_step (item_walk i.0) (map item_walk (map (λ e. e.0) items)) s (i.1 (agrees_left k others (used.item_uses i.0) _ h) s)
      (items_same items (agrees_right k others (used.item_uses i.0) _ h))

  body_same : (w : Walk) → ((s : Progress) → w k s ≡ w Other s) → (parts : List Scope) (s : Progress)
      → over_body w parts k s ≡ over_body w parts Other s
  body_same w h [] s = refl
  body_same w h (p ∷ ps) s =
      ap (λ o. and_then o (over_body w ps k)) (h (with_scope p s)) ∙ followed_by (w Other (with_scope p s)) (over_body w ps k) (over_body w ps Other) (body_same w h ps)

  bodies_same : (bodies : List SomeBody) → Agrees k others (used.all (map used.body_uses (map (λ e. e.0) bodies)))
      → (parts : List Scope) (s : Progress)
      → over_bodies (map body_walk (map (λ e. e.0) bodies)) parts k s ≡ over_bodies
      (map body_walk (map (λ e. e.0) bodies)) parts Other s
  bodies_same [] h [] s = refl
  bodies_same [] h (p ∷ ps) s = refl
  bodies_same (b ∷ bs) h [] s = refl
  bodies_same (b ∷ bs) h (p ∷ ps) s =
      let ws : List Walk = map body_walk (map (λ e. e.0) bs) in
      ap (λ o. and_then o (over_bodies ws ps k)) (b.1 (agrees_left k others (used.body_uses b.0) _ h) (with_scope p s))
      ∙ followed_by (body_walk b.0 Other (with_scope p s)) (over_bodies ws ps k) (over_bodies ws ps Other) (bodies_same bs (agrees_right k others (used.body_uses b.0) _ h) ps)

  restored_same : (w : Walk) (s : Progress) → w k s ≡ w Other s → restored w k s ≡ restored w Other s
  restored_same w s e = ap (λ o. and_then o (λ t. Ok (with_scope s.scope t))) e

  over_same : (made made' : Result (List Scope) ShapeFault) (each : List Scope → Walk) (s : Progress) → made ≡ made'
      → ((ps : List Scope) (t : Progress) → each ps k t ≡ each ps Other t)
      → over made each k s ≡ over made' each Other s
  over_same made made' each s e h =
      ap (λ o. over o each k s) e
      ∙ followed_by made' (λ ps. and_then (count_parts (length ps) s) (restored (each ps) k)) (λ ps. and_then (count_parts (length ps) s) (restored (each ps) Other))
      (λ ps. followed_by (count_parts (length ps) s) (restored (each ps) k) (restored (each ps) Other) (λ t. restored_same (each ps) t (h ps t)))

  -- ---- a layer

  abbrev item_parts : Item-F SomeItem SomeBody → Item-F Item Body
  item_parts y = map-Item SomeItem SomeBody Item Body (λ e. e.0) (λ e. e.0) y

  abbrev body_parts : Body-F SomeItem SomeBody → Body-F Item Body
  body_parts y = map-Body SomeItem SomeBody Item Body (λ e. e.0) (λ e. e.0) y

  abbrev item_done : Item-F Item Body → Item-F Walk Walk
  item_done x = map-Item Item Body Walk Walk item_walk body_walk x

  abbrev body_done : Body-F Item Body → Body-F Walk Walk
  body_done x = map-Body Item Body Walk Walk item_walk body_walk x

  abbrev item_used : Item-F Item Body → Item-F (List Use) (List Use)
  item_used x = map-Item Item Body (List Use) (List Use) used.item_uses used.body_uses x

  abbrev body_used : Body-F Item Body → Body-F (List Use) (List Use)
  body_used x = map-Body Item Body (List Use) (List Use) used.item_uses used.body_uses x

  item_does : (x : Item-F Item Body) → item_walk (roll-Item x) ≡ item_step (item_done x)
  unfolding item_walk body_walk
  item_does x = fold-roll-Item Walk Walk item_step body_step x

  body_does : (x : Body-F Item Body) → body_walk (roll-Body x) ≡ body_step (body_done x)
  unfolding item_walk body_walk
  body_does x = fold-roll-Body Walk Walk item_step body_step x

  item_names : (x : Item-F Item Body) → used.item_uses (roll-Item x) ≡ used.item_step (item_used x)
  unfolding used.item_uses used.body_uses
  item_names x = fold-roll-Item (List Use) (List Use) used.item_step used.body_step x

  body_names : (x : Body-F Item Body) → used.body_uses (roll-Body x) ≡ used.body_step (body_used x)
  unfolding used.item_uses used.body_uses
  body_names x = fold-roll-Body (List Use) (List Use) used.item_step used.body_step x

  rolled : (m n : Walk) (us vs : List Use) → m ≡ n → us ≡ vs → Same n vs → Same m us
  rolled m n us vs em eu h a s = ap (λ (z : Walk). z k s) em ∙ h (subst (Agrees k others) eu a) s ∙ sym (ap (λ (z : Walk). z Other s) em)

  item_case : (y : Item-F SomeItem SomeBody)
      → Same (item_step (item_done (item_parts y))) (used.item_step (item_used (item_parts y)))
  item_case (Move x y z) h s =
      ap (λ r. rescoped r s)
      (three (value_in k s.scope x) (value_in Other s.scope x) (value_in k s.scope y) (value_in Other s.scope y) (value_in k s.scope z) (value_in Other s.scope z)
      (λ a b c. faulted of_overflow (existing (translated s.scope (record { x = a; y = b; z = c }))))
      (value_same x s.scope (agrees_left k others (used.expr_uses x) _ h))
      (value_same y s.scope (agrees_left k others (used.expr_uses y) _ (agrees_right k others (used.expr_uses x) _ h)))
      (value_same z s.scope (agrees_right k others (used.expr_uses y) _ (agrees_right k others (used.expr_uses x) _ h))))
  item_case (Resize x y z) h s =
      ap (λ r. rescoped r s)
      (three (size_in k s.scope X x) (size_in Other s.scope X x) (size_in k s.scope Y y) (size_in Other s.scope Y y) (size_in k s.scope Z z) (size_in Other s.scope Z z)
      (λ a b c. faulted of_scope (scope_of s.scope.at s.scope.frame (record { x = a; y = b; z = c })))
      (size_same x X s.scope (agrees_left k others (used.size_uses x) _ h))
      (size_same y Y s.scope (agrees_left k others (used.size_uses y) _ (agrees_right k others (used.size_uses x) _ h)))
      (size_same z Z s.scope (agrees_right k others (used.size_uses y) _ (agrees_right k others (used.size_uses x) _ h))))
  item_case (Rotate axis by) h s = refl
  item_case (Scoped items) h s = restored_same (in_turn (map item_walk (map (λ e. e.0) items))) s (items_same items h s)
  item_case (Solid p) h s = refl
  item_case (Subdiv axis sizes bodies) h s =
      over_same (subdivided axis sizes k s.scope) (subdivided axis sizes Other s.scope) (over_bodies (map body_walk (map (λ e. e.0) bodies))) s
      (ap (λ (o : Result (List PartSize) ShapeFault). and_then o (λ ps. faulted of_split (subdiv_of s.scope axis ps)))
      (parts_same sizes s.scope (agrees_right k others (used.only _) _ (agrees_left k others (used.parts_uses sizes _) _ h))))
      (bodies_same bodies (agrees_right k others (used.parts_uses sizes _) _ h))
  item_case (Repeat axis length body) h s =
      over_same (repeated axis length k s.scope) (repeated axis length Other s.scope) (over_body (body_walk body.0)) s
      (ap (λ (o : Result Rat ShapeFault). and_then o (λ x. faulted of_split (repeat_of s.scope axis x))) (value_same length s.scope (agrees_left k others (used.expr_uses length) _ h)))
      (body_same (body_walk body.0) (body.1 (agrees_right k others (used.expr_uses length) _ h)))
  item_case (Comp selector body) h s =
      over_same (taken_apart selector s.scope) (taken_apart selector s.scope) (over_body (body_walk body.0)) s refl (body_same (body_walk body.0) (body.1 h))
  item_case (Child symbol args) h s =
      ap (λ (o : Result (List Rat) ShapeFault). and_then o (λ xs. emit (emitted.Child symbol xs s.scope) k s)) (values_same args s.scope (agrees_right k others (used.only _) _ h))

  body_case : (y : Body-F SomeItem SomeBody)
      → Same (body_step (body_done (body_parts y))) (used.body_step (body_used (body_parts y)))
  body_case y h s = items_same y.items h s

  item_reads_step : (x : Item-F Item Body) (y : Item-F SomeItem SomeBody) → item_parts y ≡ x
      → Same (item_walk (roll-Item x)) (used.item_uses (roll-Item x))
  item_reads_step x y is =
      subst (λ (z : Item-F Item Body). Same (item_walk (roll-Item z)) (used.item_uses (roll-Item z))) is
      (rolled _ _ _ _ (item_does (item_parts y)) (item_names (item_parts y)) (item_case y))

  body_reads_step : (x : Body-F Item Body) (y : Body-F SomeItem SomeBody) → body_parts y ≡ x
      → Same (body_walk (roll-Body x)) (used.body_uses (roll-Body x))
  body_reads_step x y is =
      subst (λ (z : Body-F Item Body). Same (body_walk (roll-Body z)) (used.body_uses (roll-Body z))) is
      (rolled _ _ _ _ (body_does (body_parts y)) (body_names (body_parts y)) (body_case y))

  pub item_reads : (i : Item) → Same (item_walk i) (used.item_uses i)
  item_reads = ind-Item (λ i. Same (item_walk i) (used.item_uses i)) (λ b. Same (body_walk b) (used.body_uses b)) item_reads_step body_reads_step

  pub turn_reads : (items : List Item) → Agrees k others (flat_map used.item_uses items) → (s : Progress)
      → in_turn (map item_walk items) k s ≡ in_turn (map item_walk items) Other s
  turn_reads [] h s = refl
  turn_reads (i ∷ items) h s =
      turn_step (item_walk i) (map item_walk items) s (item_reads i (agrees_left k others (used.item_uses i) _ h) s)
      (turn_reads items (agrees_right k others (used.item_uses i) _ h))
