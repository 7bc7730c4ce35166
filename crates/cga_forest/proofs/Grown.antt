-- Children placed one after the other.
use Rattle.std.proofs.Common.{◌≡◌, ℕ, zero, suc, ◌+◌, ◌<◌, ◌≤◌, List, [], ◌∷◌, ◌++◌, length, drop, get_or, refl, sym, ap, subst, ◌∙◌, arith, Option, Some, None, slice_get, false, true≢false}
use Rattle.std.specs.Prelude.{Result, Ok, Err, IsOk}
use Rattle.std.proofs.lemmas.List.{append_assoc, append-nil, length_push, at_drop_more, at_drop_all}
use Rattle.cga_rule.specs.declared.grammar.Grammar.{Grammar}
use Rattle.cga_word.specs.declared.answers.Answers.{Answers}
use Rattle.cga_order.specs.World.{is_instance}
use Rattle.cga_shape.specs.Root.{root_of, root_in, root_scope}
use Rattle.cga_frame.specs.Scope.{Scope}
use Rattle.cga_shape.specs.declared.lot.Lot.{Lot}
use Rattle.cga_shape.specs.declared.shape.Shape.{Shape}
use Rattle.cga_shape.specs.declared.emitted.Emitted.{Emitted}
use Rattle.cga_shape.specs.declared.emitted.Emitted.TheVariants.{Child, Solid}
use Rattle.cga_forest.specs.declared.node.Node.{Node}
use Rattle.cga_forest.specs.declared.node.NodeState.{NodeState}
use Rattle.cga_forest.specs.Node.{IsBelow, with_state}
use Rattle.cga_forest.specs.declared.slot_entry.SlotEntry.{SlotEntry}
use Rattle.cga_forest.specs.View.{Seen, present_of}
use Rattle.cga_forest.proofs.Present.{present_some}
use Rattle.cga_forest.specs.Tree.{IsInner, InPlace}
use Rattle.cga_tree.specs.Tree.{IsTree}
use Rattle.cga_forest.specs.Placing.{MayGrow, Outcome, child_node, children_after, children_from, emitted, kind_after, state_after}

module _ (g : Grammar) (n : Node) where
  -- a step of the loop that makes them
  pub children_next : (es : List Emitted) (i : ℕ) (e : Emitted) (made new whole : List Node) → i < length es
      → e ≡ get_or es i e → new ≡ made ++ child_node g n i e ∷ []
      → made ++ children_from g n i (drop i es) ≡ whole → new ++ children_from g n (i + 1) (drop (i + 1) es) ≡ whole
  children_next es i e made new whole lt at more h =
      let d : drop i es ≡ e ∷ drop (i + 1) es = at_drop_more (λ l. l) es i e lt ∙ ap (λ x. x ∷ drop (i + 1) es) (sym at) in
      ap (λ l. l ++ children_from g n (i + 1) (drop (i + 1) es)) more
      ∙ append_assoc made (child_node g n i e ∷ []) (children_from g n (i + 1) (drop (i + 1) es))
      ∙ ap (λ l. made ++ children_from g n i l) (sym d) ∙ h

  pub children_end : (es : List Emitted) (i : ℕ) (made whole : List Node) → length es ≤ i
      → made ++ children_from g n i (drop i es) ≡ whole → made ≡ whole
  children_end es i made whole le h = sym (append-nil made) ∙ ap (λ l. made ++ children_from g n i l) (sym (at_drop_all (λ l. l) es i le)) ∙ h

  pub children_long : (es : List Emitted) (k : ℕ) → length (children_from g n k es) ≡ length es
  children_long [] k = refl
  children_long (e ∷ es) k = ap suc (children_long es (k + 1))

  child_below : (s : NodeState) → is_instance s.kind ≡ false → (k : ℕ) (e : Emitted)
      → IsBelow (with_state s n) k (child_node g n k e)
  child_below s is k (Child symbol args scope seed) = record { inner = is; lot = refl; path = refl; line = refl }
  child_below s is k (Solid primitive scope seed) = record { inner = is; lot = refl; path = refl; line = refl }

  pub children_below : (s : NodeState) → is_instance s.kind ≡ false → (es : List Emitted) (k i : ℕ) (w : Node)
      → slice_get (children_from g n k es) i ≡ Some w → IsBelow (with_state s n) (k + i) w
  children_below s is [] k i w h = let x : None ≡ Some w = h in absurd (cc)
  children_below s is (e ∷ es) k zero w h =
      let x : Some (child_node g n k e) ≡ Some w = h in
      let y : child_node g n k e ≡ w = (cc) in
      let z : k ≡ k + 0 = omega arith in
      subst (λ m. IsBelow (with_state s n) m w) z (subst (IsBelow (with_state s n) k) y (child_below s is k e))
  children_below s is (e ∷ es) k (suc i) w h =
      let z : k + 1 + i ≡ k + suc i = omega arith in
      subst (λ m. IsBelow (with_state s n) m w) z (children_below s is es (k + 1) i w h)

no_instance : (o : Outcome) → is_instance (kind_after o) ≡ false
no_instance (Ok es) = refl
no_instance (Err f) = refl

-- what the core asks of new children
pub may_grow : (g : Grammar) (e : Seen) (answers : Answers) (o : Outcome) → e.depth ≡ length e.node.shape.path
    → MayGrow e o → IsInner e (state_after g e.node answers o) (children_after g e.node o)
may_grow g e answers o deep m = record {
  low = λ h. let l = m.low (let n = children_long g e.node (emitted o) 0 in omega (arith, h, n)) in omega (arith, l, deep);
  was = m.inner;
  is = no_instance o;
  few = let n = children_long g e.node (emitted o) 0 in let f = m.few in omega (arith, n, f);
  children = λ i w h.
      let z : 0 + i ≡ i = omega arith in
      subst (λ k. IsBelow (with_state (state_after g e.node answers o) e.node) k w) z (children_below g e.node (state_after g e.node answers o) (no_instance o) (emitted o) 0 i w h);
}

-- ---- the root of a lot

ok_is : {A E : Type 0} (r : Result A E) → IsOk r → (x : A) × (r ≡ Ok x)
ok_is (Ok x) h = (x, refl)
ok_is (Err e) h = absurd (true≢false (sym h))

named_in : (lot : Lot) (scope : Scope) (s : Shape) → root_scope lot ≡ Ok scope → root_of lot ≡ Ok s → s.lot ≡ lot.name
named_in lot scope s at is =
    let x : Ok (root_in lot scope) ≡ Ok s = rw at at is in
    let y : root_in lot scope ≡ s = (cc) in ap (λ (z : Shape). z.lot) (sym y)

pub root_named : (lot : Lot) (s : Shape) → IsOk (root_scope lot) → root_of lot ≡ Ok s → s.lot ≡ lot.name
root_named lot s h is = let w = ok_is (root_scope lot) h in named_in lot w.0 s w.1 is

-- ---- the node of an entry that is there

pub entry_node : (s : Option SlotEntry) (x : SlotEntry) (e : Seen) → s ≡ Some x → present_of s ≡ Some e
    → e.node ≡ x.node
entry_node s x e h t =
    let y = present_some s e t in
    let z : Some x ≡ Some y.0 = sym h ∙ y.1 in
    let q : x ≡ y.0 = (cc) in
    ap (λ (d : Seen). d.node) (sym y.2) ∙ ap (λ (k : SlotEntry). k.node) (sym q)

-- ---- a node's depth is the length of its path

module _ (T : ℕ → Option Seen) (tree : IsTree T) (places : InPlace T) where
  at_depth : (n c : ℕ) (d : Seen) → T c ≡ Some d → d.depth ≡ n → (o : Option ℕ) → d.parent ≡ o
      → length d.node.shape.path ≡ n
  at_depth n c d h e None q = ap length (places.root c d h q).path ∙ sym (tree.at_root c d h q) ∙ e
  at_depth zero c d h e (Some p) q =
      let u = tree.up c p d h q in
      let w = tree.down p d.index c u.0 u.1 u.2 in
      let same : Some d ≡ Some w.0 = sym h ∙ w.1 in
      let y : d ≡ w.0 = (cc) in
      let z = ap (λ (x : Seen). x.depth) y ∙ w.3 in absurd (omega (arith, z, e))
  at_depth (suc n) c d h e (Some p) q =
      let u = tree.up c p d h q in
      let w = tree.down p d.index c u.0 u.1 u.2 in
      let same : Some d ≡ Some w.0 = sym h ∙ w.1 in
      let y : d ≡ w.0 = (cc) in
      let z = ap (λ (x : Seen). x.depth) y ∙ w.3 in
      let above = at_depth n p u.0 u.1 (omega (arith, z, e)) u.0.parent refl in
      let more = ap length (places.child c p d u.0 h q u.1).path ∙ length_push u.0.node.shape.path d.index in
      omega (arith, above, more)

  pub path_deep : (c : ℕ) (d : Seen) → T c ≡ Some d → d.depth ≡ length d.node.shape.path
  path_deep c d h = sym (at_depth d.depth c d h refl d.parent refl)
