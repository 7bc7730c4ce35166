-- The children that a forest makes of an outcome are those of the derivation, at their places and with their symbols'
-- priorities.
use Rattle.std.proofs.Common.{◌≡◌, ◌+◌, ℕ, zero, suc, List, [], ◌∷◌, map, refl, sym, ap, ◌∙◌, subst, inl, inr, Some, None, true, false, Ok, Err, add-one, arith}
use Rattle.std.specs.Prelude.{slice_get}
use Rattle.cga_word.specs.declared.answers.Answers.{Answers}
use Rattle.cga_rule.specs.declared.grammar.Grammar.{Grammar}
use Rattle.cga_order.specs.World.{IsNew, is_instance}
use Rattle.cga_shape.specs.declared.emitted.Emitted.{Emitted}
use Rattle.cga_shape.specs.declared.emitted.Emitted.TheVariants.{Child, Solid}
use Rattle.cga_shape.specs.declared.sources.Sources.{Sources}
use Rattle.cga_expand.specs.Children.{placed_at, placed_from, placed_by}
use Rattle.cga_expand.specs.Derivation.{children_of, priority_of}
use Rattle.cga_expand.specs.Expand.{expand_of}
use Rattle.cga_forest.specs.declared.node.Node.{Node}
use Rattle.cga_forest.specs.Node.{fits, with_state}
use Rattle.cga_forest.specs.Placing.{Outcome, child_node, children_after, children_from, state_after}
use Rattle.cga_rework.specs.City.{StandsBelow}
use Rattle.cga_rework.specs.Nodes.{placed_of}
use Rattle.cga_rework.specs.Turn.{AreNews, IsFit, IsOutcome, KeepsSelf}
use Rattle.cga_update.specs.Edit.{content, rules_of, shapes_of}
use Rattle.cga_expand.proofs.Door.{said_priority}
use Rattle.cga_forest.proofs.Door.{fits_sound, fits_whole}

-- how a forest compares contents is how the theory does
pub is_fit : IsFit content fits
is_fit = record {
  sound = λ x y h. (let a = fits_sound x y h in record { shape = a.shape; priority = a.priority; instances = a.instances; solid = a.primitive });
  whole = λ x y a. fits_whole x y (record { shape = a.shape; priority = a.priority; instances = a.instances; primitive = a.solid });
}

-- ---- the children

module _ (g : Grammar) (n : Node) where
  placed_is : (i : ℕ) (e : Emitted)
      → placed_of content (child_node g n i e) ≡ placed_at n.shape.lot n.shape.path n.shape.symbol i e
  placed_is i (Child symbol args scope seed) = refl
  placed_is i (Solid primitive scope seed) = refl

  all_placed : (i : ℕ) (es : List Emitted)
      → map (placed_of content) (children_from g n i es) ≡ placed_from n.shape.lot n.shape.path n.shape.symbol i es
  all_placed i [] = refl
  all_placed i (e ∷ es) = λ j. placed_is i e j ∷ (all_placed (i + 1) es ∙ ap (λ k. placed_from n.shape.lot n.shape.path n.shape.symbol k es) (add-one i)) j

  -- child i of the list is made of what was emitted there
  pub child_at : (k : ℕ) (es : List Emitted) (i : ℕ) (w : Node) → slice_get (children_from g n k es) i ≡ Some w
      → (e : Emitted) × (slice_get es i ≡ Some e) × (w ≡ child_node g n (k + i) e)
  child_at k [] i w h = let z : None ≡ Some w = h in cc
  child_at k (e ∷ es) zero w h =
      let z : Some (child_node g n k e) ≡ Some w = h in
      let y : child_node g n k e ≡ w = cc in
      let s : k ≡ k + 0 = omega arith in
      (e, refl, sym y ∙ ap (λ j. child_node g n j e) s)
  child_at k (e ∷ es) (suc i) w h =
      let z = child_at (k + 1) es i w h in
      let s : k + 1 + i ≡ k + suc i = omega arith in
      (z.0, z.1, z.2 ∙ ap (λ j. child_node g n j z.0) s)

  emitted_new : (i : ℕ) (e : Emitted) → IsNew (child_node g n i e).kind
  emitted_new i (Child symbol args scope seed) = inl refl
  emitted_new i (Solid primitive scope seed) = inr (primitive, refl)

  below_is : (shapes : Sources) (i : ℕ) (e : Emitted) → is_instance n.kind ≡ false
      → StandsBelow (shapes_of shapes) content n i (child_node g n i e)
  below_is shapes i (Child symbol args scope seed) inner = record {
    inner = inner;
    place = (refl, refl);
    line = refl;
    symbol = λ h. let z : false ≡ true = h in cc;
  }
  below_is shapes i (Solid primitive scope seed) inner = record {
    inner = inner;
    place = (refl, refl);
    line = refl;
    symbol = λ h. refl;
  }

  pub priced_is : (i : ℕ) (e : Emitted)
      → (child_node g n i e).priority ≡ priority_of g (child_node g n i e).shape.symbol
  priced_is i (Child symbol args scope seed) = said_priority g symbol
  priced_is i (Solid primitive scope seed) = said_priority g n.shape.symbol

-- the contents that the forest is asked for stand where they must
pub are_news : (new : Sources) (n : Node) (outcome : Outcome) → is_instance n.kind ≡ false
    → AreNews (shapes_of new) content (rules_of new) n (children_after new.grammar n outcome)
are_news new n outcome inner = record {
  below = λ i w h. let z = child n outcome i w h in subst (StandsBelow (shapes_of new) content n i) (sym z.1) (below_is new.grammar n new i z.0 inner);
  fresh = λ i w h. let z = child n outcome i w h in subst (λ (x : Node). IsNew x.kind) (sym z.1) (emitted_new new.grammar n i z.0);
  priced = λ i w h. let z = child n outcome i w h in subst (λ (x : Node). x.priority ≡ priority_of new.grammar x.shape.symbol) (sym z.1) (priced_is new.grammar n i z.0);
}
  where
    child : (n : Node) (outcome : Outcome) (i : ℕ) (w : Node)
        → slice_get (children_after new.grammar n outcome) i ≡ Some w
        → (e : Emitted) × (w ≡ child_node new.grammar n i e)
    child n (Ok es) i w h = let z = child_at new.grammar n 0 es i w h in let s : 0 + i ≡ i = omega arith in (z.0, z.2 ∙ ap (λ j. child_node new.grammar n j z.0) s)
    child n (Err f) i w h = let z : None ≡ Some w = h in cc

-- the node with its outcome stays where it is
pub keeps_self : (new : Sources) (n : Node) (answers : Answers) (outcome : Outcome) → is_instance n.kind ≡ false
    → KeepsSelf content n (with_state (state_after new.grammar n answers outcome) n)
keeps_self new n answers outcome inner = record {
  shape = refl;
  symbol = refl;
  priority = refl;
  line = refl;
  was = inner;
  is = after outcome;
}
  where
    after : (o : Outcome) → is_instance (state_after new.grammar n answers o).kind ≡ false
    after (Ok es) = refl
    after (Err f) = refl

-- and has the outcome that the derivation gives
pub is_outcome : (new : Sources) (n : Node) (given answers : Answers) (outcome : Outcome)
    → outcome ≡ expand_of new.grammar n.shape answers
    → IsOutcome content (with_state (state_after new.grammar n given outcome) n) (children_after new.grammar n outcome)
    ((rules_of new).expand n.shape answers)
unfolding children_of
is_outcome new n given answers outcome
    is = subst (λ o. IsOutcome content (with_state (state_after new.grammar n given outcome) n)
    (children_after new.grammar n outcome) (placed_by n.shape o)) is (own outcome)
  where
    own : (o : Outcome)
        → IsOutcome content (with_state (state_after new.grammar n given o) n) (children_after new.grammar n o)
        (placed_by n.shape o)
    own (Ok es) = (refl, all_placed new.grammar n 0 es)
    own (Err f) = (refl, refl)
