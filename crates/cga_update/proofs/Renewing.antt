-- What the children of a node are after its turn: placed anew they are those that it had, and each node is plain.
use Rattle.std.proofs.Common.{◌≡◌, ◌+◌, ℕ, List, [], ◌∷◌, ◌++◌, length, refl, sym, ap, ◌∙◌, subst, ◌⊎◌, inl, inr, Option, Some, None, Bool, true, false, Ok, Err, arith}
use Rattle.std.specs.Prelude.{slice_get, if◌then◌else◌}
use Rattle.cga_word.specs.declared.answers.Answers.{Answers}
use Rattle.cga_word.specs.declared.primitive.Primitive.{Primitive}
use Rattle.cga_order.specs.World.{is_instance}
use Rattle.cga_order.specs.declared.placed.Kind.{Kind}
use Rattle.cga_order.specs.declared.placed.Kind.TheVariants.{Waiting, Done, Faulted, Instance}
use Rattle.cga_agenda.specs.Known.{made_by}
use Rattle.cga_agenda.specs.Work.{first_kind}
use Rattle.cga_rule.specs.declared.grammar.Grammar.{Grammar}
use Rattle.cga_shape.specs.declared.emitted.Emitted.{Emitted}
use Rattle.cga_shape.specs.declared.emitted.Emitted.TheVariants.{Child, Solid}
use Rattle.cga_shape.specs.declared.shape.Shape.{Shape}
use Rattle.cga_shape.specs.declared.shape_fault.ShapeFault.{ShapeFault}
use Rattle.cga_shape.specs.declared.sources.Sources.{Sources}
use Rattle.cga_tree.specs.Replaced.{IsChildNow, IsNewChild, IsReplaced}
use Rattle.cga_expand.specs.Children.{placed_by}
use Rattle.cga_expand.specs.Derivation as expansion
use Rattle.cga_expand.specs.Derivation.{priority_of}
use Rattle.cga_expand.specs.Expand.{expand_of}
use Rattle.cga_forest.specs.declared.node.Node.{Node}
use Rattle.cga_forest.specs.Node.{IsBelow, fits}
use Rattle.cga_forest.specs.Placing.{Outcome, child_kind, child_node, child_shape, children_after, children_from, emitted, kind_after}
use Rattle.cga_forest.specs.View.{Seen}
use Rattle.cga_forest.specs.Tree.{ForestView, IsForest, node_at}
use Rattle.cga_fraction.proofs.Door.{cases_Option as option_cases, eq_or_ne as nat_cases, length-map as length_mapped}
use Rattle.cga_rework.specs.Ranked.{Ranked, all_placed}
use Rattle.cga_rework.specs.Turn.{AreAgain}
use Rattle.cga_update.specs.Edit.{content, the_edit}
use Rattle.cga_update.specs.Means.{ArePriced}
use Rattle.cga_update.specs.Plain.{IsPlain}
use Rattle.cga_update.specs.Turned.{IsAgain, emitted_as, emitted_of}
use Rattle.cga_update.proofs.Children.{child_at, priced_is}
use Rattle.cga_expand.proofs.Door.{length-placed_from as length_placed}

length_from : (g : Grammar) (n : Node) (k : ℕ) (es : List Emitted) → length (children_from g n k es) ≡ length es
length_from g n k [] = refl
length_from g n k (e ∷ es) = let z = length_from g n (k + 1) es in omega (arith, z)

-- child i of a node was emitted as it stands
shape_again : (n : Node) (i : ℕ) (k : Kind ShapeFault Primitive) (s : Shape) → s.lot ≡ n.shape.lot
    → s.path ≡ n.shape.path ++ i ∷ [] → (is_instance k ≡ true → s.symbol ≡ n.shape.symbol)
    → (is_instance k ≡ true → s.args ≡ []) → child_shape n i (emitted_as k s) ≡ s
shape_again n i Waiting s lot path symbol args = λ j. record { lot = sym lot j; path = sym path j; symbol = s.symbol; args = s.args; scope = s.scope; seed = s.seed }
shape_again n i Done s lot path symbol args = λ j. record { lot = sym lot j; path = sym path j; symbol = s.symbol; args = s.args; scope = s.scope; seed = s.seed }
shape_again n i (Faulted f) s lot path symbol args = λ j. record { lot = sym lot j; path = sym path j; symbol = s.symbol; args = s.args; scope = s.scope; seed = s.seed }
shape_again n i (Instance p) s lot path symbol args = λ j. record { lot = sym lot j; path = sym path j; symbol = sym (symbol refl) j; args = sym (args refl) j; scope = s.scope; seed = s.seed }

kind_again : (k : Kind ShapeFault Primitive) (s : Shape) → child_kind (emitted_as k s) ≡ first_kind k
kind_again Waiting s = refl
kind_again Done s = refl
kind_again (Faulted f) s = refl
kind_again (Instance p) s = refl

node_shape : (g : Grammar) (n : Node) (i : ℕ) (y : Emitted) → (child_node g n i y).shape ≡ child_shape n i y
node_shape g n i y = refl

node_kind : (g : Grammar) (n : Node) (i : ℕ) (y : Emitted) → (child_node g n i y).kind ≡ child_kind y
node_kind g n i y = refl

module _ (v : ForestView) (f : IsForest v) (g : Grammar) (id : ℕ) (e : Seen) (here : node_at v id ≡ Some e)
    (outcome : Outcome) (again : IsAgain v e outcome) (symbols : (c p : ℕ) (d x : Seen) → node_at v c ≡ Some d
    → d.parent ≡ Some p → node_at v p ≡ Some x → is_instance d.node.kind ≡ true
    → d.node.shape.symbol ≡ x.node.shape.symbol) (plain : (c : ℕ) (d : Seen) → node_at v c ≡ Some d → IsPlain d) where
  pub are_again : AreAgain content (node_at v) e (children_after g e.node outcome)
  are_again = record {
    sized = length_from g e.node 0 (emitted outcome) ∙ again.1.sized;
    each = λ i b w x h k t.
        let y = child_at g e.node 0 (emitted outcome) i w h in
        let at : 0 + i ≡ i = omega arith in
        let is : w ≡ child_node g e.node i y.0 = y.2 ∙ ap (λ j. child_node g e.node j y.0) at in
        let was : y.0 ≡ emitted_of x.node = again.1.each i b y.0 x y.1 k t in
        let d = f.present.tree.down id i b e here k in
        let same : d.0 ≡ x = (let z : Some d.0 ≡ Some x = sym d.1 ∙ t in cc) in
        let parent : x.parent ≡ Some id = ap (λ (q : Seen). q.parent) (sym same) ∙ d.2 in
        let index : x.index ≡ i = ap (λ (q : Seen). q.index) (sym same) ∙ d.4 in
        let below : IsBelow e.node i x.node = subst (λ j. IsBelow e.node j x.node) index (f.present.places.child b id x e t parent here) in (
          ap (λ (q : Node). q.shape) is ∙ ap (child_shape e.node i) was ∙ shape_again e.node i x.node.kind x.node.shape below.lot below.path (λ s. symbols b id x e t parent here s) (plain b x t).bare,
          ap (λ (q : Node). q.kind) is ∙ ap child_kind was ∙ kind_again x.node.kind x.node.shape,
        );
  }

-- ---- each node after a turn is the node of the turn, or was there, or came

module _ (v w : ForestView) (f : IsForest v) (id : ℕ) (news : List Node) (e now : Seen) (gone : ℕ → Bool) (replaced : IsReplaced fits (node_at v) (node_at w) id news e now gone) where
  abbrev pub Comes : Seen → Type 0
  Comes d = (i : ℕ) × (n : Node) × (slice_get news i ≡ Some n) × (d.node ≡ n) × (d.children ≡ [])

  same_seen : (o : Option Seen) (d q : Seen) → o ≡ Some d → o ≡ Some q → d ≡ q
  same_seen o d q t h = let z : Some d ≡ Some q = sym t ∙ h in cc

  kept_seen : (c : ℕ) (d x : Seen) → node_at w c ≡ Some d → node_at v c ≡ Some x → (b : Bool) → gone c ≡ b
      → node_at w c ≡ (if gone c then None else Some x) → node_at v c ≡ Some d
  kept_seen c d x t p true q r = let z : None ≡ Some d = sym (r ∙ ap (λ h. if h then None else Some x) q) ∙ t in cc
  kept_seen c d x t p false q r = p ∙ sym (r ∙ ap (λ h. if h then None else Some x) q) ∙ t

  new_seen : (c : ℕ) (d : Seen) (i : ℕ) (n : Node) → node_at w c ≡ Some d → slice_get news i ≡ Some n
      → IsNewChild (node_at w) id e.depth i n c → Comes d
  new_seen c d i n t at new =
      let same = same_seen (node_at w c) d new.seen t new.here in
      (i, n, at, ap (λ (q : Seen). q.node) same ∙ new.node, ap (λ (q : Seen). q.children) same ∙ new.leaf)

  created_seen : (c : ℕ) (d : Seen) (i : ℕ) → node_at w c ≡ Some d → node_at v c ≡ None
      → (z : (n : Node) × (slice_get news i ≡ Some n) × IsChildNow (node_at v) (node_at w) id e gone n i c) → Comes d
  created_seen c d i t none z = elim z.2 [
    | inl old ↦ (let x = f.present.tree.down id i c e replaced.was old.0 in let y : None ≡ Some x.0 = sym none ∙ x.1 in cc)
    | inr new ↦ new_seen c d i z.0 t z.1 new.1
  ]

  pub now_or_was : (c : ℕ) (d : Seen) → node_at w c ≡ Some d → (d ≡ now) ⊎ ((node_at v c ≡ Some d) ⊎ Comes d)
  now_or_was c d t = elim (nat_cases c id) [
    | inl s ↦ inl (same_seen (node_at w c) d now t (ap (node_at w) s ∙ replaced.is))
    | inr other ↦ elim (option_cases (node_at v c)) [
      | inr p ↦ inr (inl (kept_seen c d p.0 t p.1 (gone c) refl (replaced.rest c p.0 other p.1)))
      | inl none ↦ elim (replaced.created c none) [
        | inl gone_too ↦ (let z : None ≡ Some d = sym gone_too ∙ t in cc)
        | inr at ↦ inr (inr (created_seen c d at.0 t none (replaced.each at.0 c at.1)))
      ]
    ]
  ]

bare_child : (g : Grammar) (n : Node) (i : ℕ) (y : Emitted) → is_instance (child_node g n i y).kind ≡ true
    → (child_node g n i y).shape.args ≡ []
bare_child g n i (Child symbol args scope seed) h = let z : false ≡ true = h in cc
bare_child g n i (Solid primitive scope seed) h = refl

silent_child : (g : Grammar) (n : Node) (i : ℕ) (y : Emitted) → is_instance (child_node g n i y).kind ≡ true
    → (child_node g n i y).asks ≡ false
silent_child g n i (Child symbol args scope seed) h = let z : false ≡ true = h in cc
silent_child g n i (Solid primitive scope seed) h = refl

none_left : {X : Type 0} (xs : List X) → length xs ≡ 0 → xs ≡ []
none_left [] e = refl
none_left (x ∷ xs) e = absurd (omega (arith, e))

module _ (v w : ForestView) (f : IsForest v) (g : Grammar) (id : ℕ) (outcome : Outcome) (e now : Seen)
    (gone : ℕ → Bool) (replaced : IsReplaced fits (node_at v) (node_at w) id (children_after g e.node outcome) e
    now gone) (kind : now.node.kind ≡ kind_after outcome) where
  not_instance : (o : Outcome) → is_instance (kind_after o) ≡ false
  not_instance (Ok es) = refl
  not_instance (Err fault) = refl

  now_is : is_instance now.node.kind ≡ false
  now_is = ap is_instance kind ∙ not_instance outcome

  pub still_silent : ((c : ℕ) (d : Seen) → node_at v c ≡ Some d → is_instance d.node.kind ≡ true → d.node.asks ≡ false)
      → (c : ℕ) (d : Seen) → node_at w c ≡ Some d → is_instance d.node.kind ≡ true → d.node.asks ≡ false
  still_silent before c d t solid = elim (now_or_was v w f id (children_after g e.node outcome) e now gone replaced c d t) [
    | inl same ↦ (let z : false ≡ true = sym now_is ∙ ap (λ (q : Seen). is_instance q.node.kind) (sym same) ∙ solid in cc)
    | inr r ↦ elim r [
      | inl was ↦ before c d was solid
      | inr new ↦
          let y = child_at g e.node 0 (emitted outcome) new.0 new.1 new.2 in
          let is = new.3 ∙ y.2 in
          ap (λ (q : Node). q.asks) is ∙ silent_child g e.node (0 + new.0) y.0 (ap (λ (q : Node). is_instance q.kind) (sym is) ∙ solid)
    ]
  ]

  pub still_priced : node_at v id ≡ Some e → now.node.shape ≡ e.node.shape → now.node.priority ≡ e.node.priority
      → is_instance e.node.kind ≡ false → ArePriced g v → ArePriced g w
  still_priced here shape priority inner before c d t solid = elim (now_or_was v w f id (children_after g e.node outcome) e now gone replaced c d t) [
    | inl same ↦ ap (λ (q : Seen). q.node.priority) same ∙ priority ∙ before id e here inner ∙ ap (λ (s : Shape). priority_of g s.symbol) (sym shape ∙ ap (λ (q : Seen). q.node.shape) (sym same))
    | inr r ↦ elim r [
      | inl was ↦ before c d was solid
      | inr new ↦
          let y = child_at g e.node 0 (emitted outcome) new.0 new.1 new.2 in
          subst (λ (n : Node). n.priority ≡ priority_of g n.shape.symbol) (sym (new.3 ∙ y.2)) (priced_is g e.node (0 + new.0) y.0)
    ]
  ]

  childless_now : (o : Outcome) → now.node.kind ≡ kind_after o
      → length now.children ≡ length (children_after g e.node o) → (now.node.kind ≡ Done) ⊎ (now.children ≡ [])
  childless_now (Ok es) k s = inl k
  childless_now (Err fault) k s = inr (none_left now.children s)

  pub still_plain : ((c : ℕ) (d : Seen) → node_at v c ≡ Some d → IsPlain d) → (c : ℕ) (d : Seen) → node_at w c ≡ Some d
      → IsPlain d
  still_plain before c d t = elim (now_or_was v w f id (children_after g e.node outcome) e now gone replaced c d t) [
    | inl same ↦ subst IsPlain (sym same) (record {
      bare = λ solid. (let z : false ≡ true = sym now_is ∙ solid in cc);
      childless = childless_now outcome kind replaced.sized;
    })
    | inr r ↦ elim r [
      | inl was ↦ before c d was
      | inr new ↦
          let y = child_at g e.node 0 (emitted outcome) new.0 new.1 new.2 in
          let is = new.3 ∙ y.2 in
          record {
            bare = λ solid. ap (λ (q : Node). q.shape.args) is ∙ bare_child g e.node (0 + new.0) y.0 (ap (λ (q : Node). is_instance q.kind) (sym is) ∙ solid);
            childless = inr new.4;
          }
    ]
  ]

-- ---- how many children an expansion makes

count_made : (priority : Shape → ℕ) (above : List ℕ) (s : Shape) (o : Outcome)
    → length (made_by (all_placed priority above (placed_by s o))) ≡ length (emitted o)
count_made priority above s (Ok es) = length_mapped _ _ ∙ length_mapped _ _ ∙ length_placed s.lot s.path s.symbol 0 es
count_made priority above s (Err fault) = refl

-- an expansion makes as many children as were emitted
pub expansion_count : (old new : Sources) (n : Ranked Shape) (a : Answers)
    → length (made_by ((the_edit old new).new.expand n a)) ≡ length (emitted (expand_of new.grammar n.shape a))
unfolding expansion.children_of
expansion_count old new n a = count_made _ _ n.shape (expand_of new.grammar n.shape a)
