-- A forest answers what the theory asks.
use Rattle.std.proofs.Common.{◌≡◌, inl, inr, ℕ, ◌<◌, List, [], ◌∷◌, length, take, map, Bool, true, false, not, ◌&&◌, refl, ap, sym, ◌∙◌, arith}
use Rattle.std.specs.Prelude.{Option, Some, None, filter, cond, if◌then◌else◌}
use Rattle.std.specs.List.{list_any}
use lib.Pointwise.{bytes_decides}
use Rattle.cga_rule.specs.declared.grammar.Grammar.{Grammar}
use Rattle.cga_word.specs.declared.answers.Answers.{Answers}
use Rattle.cga_word.specs.declared.target.Target.{Target}
use Rattle.cga_word.specs.declared.target.Target.TheVariants.{Noparent, Active}
use Rattle.cga_frame.specs.Box.{Box, box_of, meets, holds}
use Rattle.cga_shape.specs.declared.shape.Shape.{Shape}
use Rattle.cga_shape.specs.declared.sources.Sources.{Sources}
use Rattle.cga_order.specs.World.{Among, shapes_where}
use Rattle.cga_order.specs.Agenda.{members_of}
use Rattle.cga_order.specs.Agenda as agenda
use Rattle.cga_forest.proofs.Door.{inside, there}
use Rattle.cga_fraction.proofs.Door.{and_first as and_left, and_second as and_right, not-and-true as not_true, same_from_both_ways as bool_same}
use Rattle.cga_order.proofs.Door.{Among-shapes_where, Has-from_shapes_where}
use Rattle.cga_queue.proofs.Door.{not_false}
use Rattle.cga_rework.proofs.Door.{Among-map, map-Among}
use Rattle.std.proofs.lemmas.Bool.{and_from as and_both, cases_Bool as either, or_cases as or_either, or_left, or_right}
use Rattle.cga_rework.specs.Ranked.{Ranked}
use Rattle.cga_index.specs.Occlusion.{graded, answer_of}
use Rattle.cga_index.specs.Tree.{Member, all_nodes, asked, counts_for}
use Rattle.cga_expand.specs.Asked.{on_path, boxes_beside, asks_for, answers_of}
use Rattle.cga_forest.specs.Node.{bounds}
use Rattle.cga_forest.specs.View.{Seen}
use Rattle.cga_forest.specs.Standing.{is_above, standing_of}
use Rattle.cga_forest.specs.Tree.{ForestView, IsForest, node_at}
use Rattle.cga_forest.specs.Walked.{forest_tree, own_of}
use Rattle.cga_update.specs.Asked.{answered}
use Rattle.cga_update.specs.Edit.{ranked, kept_nodes}
use Rattle.cga_update.proofs.Nodes.{member-node, node-member, kept_bound}
use Rattle.cga_update.proofs.Places.{above_by_path, path_by_above}
use Rattle.cga_update.proofs.Seen.{the_world, is_asked, counts_is}

-- a shape is on the path of another
on_path-parts : (a s : Shape) → on_path a s ≡ true → (a.lot ≡ s.lot) × (a.path ≡ take (length a.path) s.path)
unfolding on_path
on_path-parts a s e = (
  (bytes_decides a.lot s.lot).0 (and_left _ _ e),
  (bytes_decides a.path (take (length a.path) s.path)).0 (and_right _ _ e),
)

on_path-make : (a s : Shape) → a.lot ≡ s.lot → a.path ≡ take (length a.path) s.path → on_path a s ≡ true
unfolding on_path
on_path-make a s lot path =
    and_both _ _ ((bytes_decides a.lot s.lot).1 lot) ((bytes_decides a.path (take (length a.path) s.path)).1 path)

-- ---- tests of boxes of a list

module _ (p : Box → Bool) where
  -- of the boxes of numbers that pass a test
  module _ (own : ℕ → Box) (test : ℕ → Bool) where
    any_number : (ns : List ℕ) → list_any p (map own (filter test ns)) ≡ true
        → (n : ℕ) × Member ns n × (test n ≡ true) × (p (own n) ≡ true)
    any_number [] e = let x : false ≡ true = e in cc
    any_number (n ∷ ns) e = elim (either (test n)) [
      | inl t ↦ elim (or_either _ _ (sym (ap (λ b. list_any p (map own (cond b (n ∷ filter test ns) (filter test ns)))) t) ∙ e)) [
        | inl here ↦ (n, inl refl, t, here)
        | inr rest ↦ let w = any_number ns rest in (w.0, inr w.1, w.2, w.3)
      ]
      | inr f ↦
          let w = any_number ns (sym (ap (λ b. list_any p (map own (cond b (n ∷ filter test ns) (filter test ns)))) f) ∙ e) in
          (w.0, inr w.1, w.2, w.3)
    ]

    number_any : (ns : List ℕ) (n : ℕ) → Member ns n → test n ≡ true → p (own n) ≡ true
        → list_any p (map own (filter test ns)) ≡ true
    number_any [] n m t q = absurd m
    number_any (x ∷ ns) n m t q = elim (either (test x)) [
      | inl y ↦
          ap (λ b. list_any p (map own (cond b (x ∷ filter test ns) (filter test ns)))) y
          ∙ elim m [
            | inl same ↦ or_left _ _ (ap (λ k. p (own k)) same ∙ q)
            | inr rest ↦ or_right _ _ (number_any ns n rest t q)
          ]
      | inr miss ↦
          ap (λ b. list_any p (map own (cond b (x ∷ filter test ns) (filter test ns)))) miss
          ∙ elim m [
            | inl same ↦ (let z : false ≡ true = sym miss ∙ ap test same ∙ t in absurd (cc))
            | inr rest ↦ number_any ns n rest t q
          ]
    ]

  -- of the boxes of shapes beside one
  module _ (s : Shape) where
    abbrev off : Shape → Bool
    off m = not (on_path m s)

    any_shape : (xs : List Shape) → list_any p (boxes_beside s xs) ≡ true
        → (m : Shape) × Among m xs × (off m ≡ true) × (p (box_of m.scope) ≡ true)
    any_shape [] e = let x : false ≡ true = e in cc
    any_shape (x ∷ xs) e = elim (either (off x)) [
      | inl t ↦ elim (or_either _ _ (sym (ap (λ b. list_any p (map (λ m. box_of m.scope) (cond b (x ∷ filter off xs) (filter off xs)))) t) ∙ e)) [
        | inl here ↦ (x, inl refl, t, here)
        | inr rest ↦ let w = any_shape xs rest in (w.0, inr w.1, w.2, w.3)
      ]
      | inr f ↦
          let w = any_shape xs (sym (ap (λ b. list_any p (map (λ m. box_of m.scope) (cond b (x ∷ filter off xs) (filter off xs)))) f) ∙ e) in
          (w.0, inr w.1, w.2, w.3)
    ]

    shape_any : (xs : List Shape) (m : Shape) → Among m xs → off m ≡ true → p (box_of m.scope) ≡ true
        → list_any p (boxes_beside s xs) ≡ true
    shape_any [] m h t q = absurd h
    shape_any (x ∷ xs) m h t q = elim (either (off x)) [
      | inl y ↦
          ap (λ b. list_any p (map (λ m. box_of m.scope) (cond b (x ∷ filter off xs) (filter off xs)))) y
          ∙ elim h [
            | inl same ↦ or_left _ _ (ap (λ (k : Shape). p (box_of k.scope)) same ∙ q)
            | inr rest ↦ or_right _ _ (shape_any xs m rest t q)
          ]
      | inr miss ↦
          ap (λ b. list_any p (map (λ m. box_of m.scope) (cond b (x ∷ filter off xs) (filter off xs)))) miss
          ∙ elim h [
            | inl same ↦ (let z : false ≡ true = sym miss ∙ ap off same ∙ t in absurd (cc))
            | inr rest ↦ shape_any xs m rest t q
          ]
    ]

-- ---- the forest's boxes and the theory's

module _ (v : ForestView) (f : IsForest v) (old new : Sources) (mode : v.mode ≡ new.mode) (by : ℕ) (a : Seen) (here : node_at v by ≡ Some a) (target : Target) where
  abbrev T : ℕ → Option Seen
  T = node_at v

  abbrev counts : ℕ → Bool
  counts c = counts_for target ((forest_tree v).standing c by)

  -- the shapes that the theory asks about
  abbrev shapes : List Shape
  shapes = map (λ (m : Ranked Shape). m.shape) (shapes_where (is_asked old new target (ranked a.node)) (members_of (kept_nodes v)))

  counted : (c : ℕ) (d : Seen) → T c ≡ Some d
      → counts c ≡ (not (is_above T 257 c by) && is_asked old new target (ranked a.node) (ranked d.node) d.node.kind)
  counted c d t =
      ap (λ m. counts_for target (standing_of m T c by (T c) (T by))) mode
      ∙ ap (λ o. counts_for target (standing_of new.mode T c by o (T by))) t
      ∙ ap (λ o. counts_for target (standing_of new.mode T c by (Some d) o)) here
      ∙ counts_is v f old new by a here target c d t

  shallow : a.depth < 257
  shallow = let s = f.present.tree.shallow by a here in omega (arith, s)

  own_is : (c : ℕ) (d : Seen) → T c ≡ Some d → (forest_tree v).own c ≡ box_of d.node.shape.scope
  unfolding bounds
  own_is c d t = ap own_of t

  module _ (p : Box → Bool) where
    to : list_any p (asked (forest_tree v) by target (all_nodes (forest_tree v))) ≡ true
        → list_any p (boxes_beside a.node.shape shapes) ≡ true
    to e =
        let w = any_number p (forest_tree v).own counts (all_nodes (forest_tree v)) e in
        let n = there v f w.0 w.1 in
        let both = sym (counted w.0 n.0 n.1) ∙ w.2 in
        let passes = and_right _ _ both in
        let off : not (on_path n.0.node.shape a.node.shape) ≡ true = not_false _ (λ on.
        let parts = on_path-parts n.0.node.shape a.node.shape on in
        not_true _ (and_left _ _ both) (above_by_path v f w.0 by n.0 a shallow n.1 here parts)) in
        let member = node-member T (length v.slots) w.0 n.0 n.1 (kept_bound v w.0 n.0 n.1) in
        let among = Among-shapes_where (is_asked old new target (ranked a.node)) (members_of (kept_nodes v)) (ranked n.0.node) n.0.node.kind member passes in
        shape_any p a.node.shape shapes n.0.node.shape (map-Among (λ (m : Ranked Shape). m.shape) _ (ranked n.0.node) among) off (ap p (sym (own_is w.0 n.0 n.1)) ∙ w.3)

    from : list_any p (boxes_beside a.node.shape shapes) ≡ true
        → list_any p (asked (forest_tree v) by target (all_nodes (forest_tree v))) ≡ true
    from e =
        let w = any_shape p a.node.shape shapes e in
        let r = Among-map (λ (m : Ranked Shape). m.shape) _ w.0 w.1 in
        let k = Has-from_shapes_where (is_asked old new target (ranked a.node)) (members_of (kept_nodes v)) r.0 r.1 in
        let n = member-node T (length v.slots) r.0 k.0 k.1 in
        let shape : n.1.node.shape ≡ w.0 = ap (λ (m : Ranked Shape). m.shape) n.3 ∙ r.2 in
        let passes : is_asked old new target (ranked a.node) (ranked n.1.node) n.1.node.kind
        ≡ true = ap (λ m. is_asked old new target (ranked a.node) m n.1.node.kind) n.3 ∙ ap (is_asked old new target (ranked a.node) r.0) n.4 ∙ k.2 in
        let apart : not (is_above T 257 n.0 by) ≡ true = not_false _ (λ up.
        let on = path_by_above v f n.0 by n.1 a n.2 here up in
        not_true _ w.2 (on_path-make w.0 a.node.shape (ap (λ (m : Shape). m.lot) (sym shape) ∙ on.0)
        (ap (λ (m : Shape). m.path) (sym shape) ∙ on.1 ∙ ap (λ (m : Shape). take (length m.path) a.node.shape.path) shape))) in
        number_any p (forest_tree v).own counts (all_nodes (forest_tree v)) n.0 (inside v f n.0 (n.1, n.2))
        (◌∙◌ {b = not (is_above T 257 n.0 by) && is_asked old new target (ranked a.node) (ranked n.1.node)
        n.1.node.kind} (counted n.0 n.1 n.2)
        (and_both (not (is_above T 257 n.0 by)) (is_asked old new target (ranked a.node) (ranked n.1.node)
        n.1.node.kind) apart passes)) (ap p (own_is n.0 n.1 n.2) ∙ ap (λ (m : Shape). p (box_of m.scope)) shape ∙ w.3)

    same : list_any p (asked (forest_tree v) by target (all_nodes (forest_tree v))) ≡ list_any p
        (boxes_beside a.node.shape shapes)
    same = bool_same _ _ to from

  -- so both answer alike
  pub answer_is : answer_of ((forest_tree v).own by) (asked (forest_tree v) by target (all_nodes (forest_tree v))) ≡
      answer_of (box_of a.node.shape.scope) (boxes_beside a.node.shape shapes)
  unfolding answer_of
  answer_is =
      ap (λ b. graded (list_any (λ m. meets m b && holds m b)
      (asked (forest_tree v) by target (all_nodes (forest_tree v))))
      (list_any (λ m. meets m b) (asked (forest_tree v) by target (all_nodes (forest_tree v))))) (own_is by a here)
      ∙ ap (λ b. graded b (list_any (λ m. meets m (box_of a.node.shape.scope))
      (asked (forest_tree v) by target (all_nodes (forest_tree v)))))
      (same (λ m. meets m (box_of a.node.shape.scope) && holds m (box_of a.node.shape.scope)))
      ∙ ap (graded _) (same (λ m. meets m (box_of a.node.shape.scope)))

-- the targets that two tests tell are those for which the rules of the symbol ask
pub record AreAsked (grammar : Grammar) (symbol : List ℕ) (noparent active : Bool) : Type 0 where
  pub first : noparent ≡ asks_for grammar symbol Noparent
  pub second : active ≡ asks_for grammar symbol Active

-- what a node is answered for the targets that two tests tell
pub record AreAnswered (v : ForestView) (by : ℕ) (noparent active : Bool) (answers : Answers) : Type 0 where
  pub first : answers.noparent ≡ answered v by Noparent noparent
  pub second : answers.active ≡ answered v by Active active

-- what the forest answers a node, for the targets that are mentioned, is what the theory asks
pub asked_is : (v : ForestView) → IsForest v → (old new : Sources) → v.mode ≡ new.mode → (by : ℕ) (a : Seen)
    → node_at v by ≡ Some a → (noparent active : Bool) → AreAsked new.grammar a.node.shape.symbol noparent active
    → (answers : Answers) → AreAnswered v by noparent active answers
    → answers ≡ agenda.asked (the_world old new) (kept_nodes v) (ranked a.node)
unfolding answers_of
asked_is v f old new mode by a here noparent active asks answers are = λ i. record {
  noparent = (are.first ∙ ap (λ b. answered v by Noparent b) asks.first
      ∙ ap (λ x. if asks_for new.grammar a.node.shape.symbol Noparent then Some x else None) (answer_is v f old new mode by a here Noparent)) i;
  active = (are.second ∙ ap (λ b. answered v by Active b) asks.second
      ∙ ap (λ x. if asks_for new.grammar a.node.shape.symbol Active then Some x else None) (answer_is v f old new mode by a here Active)) i;
}
