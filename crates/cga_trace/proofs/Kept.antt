-- A node keeps what its turn told: its answers, and its kind with the number of its children.
use Rattle.std.proofs.Common.{◌≡◌, ℕ, zero, suc, ◌<◌, ◌≤◌, List, [], ◌∷◌, length, map, refl, sym, ap, ◌∙◌, subst, inl, inr, Result, Ok, Err, Option, Some, true, false, arith}
use Rattle.std.specs.Prelude.{slice_get}
use Rattle.cga_word.specs.declared.answers.Answers.{Answers}
use Rattle.cga_word.specs.declared.primitive.Primitive.{Primitive}
use Rattle.cga_order.specs.Agenda.{Keeps, members_of, IsSettled, HasChildren, IsRight}
use Rattle.cga_order.specs.Agenda as agenda
use Rattle.cga_order.specs.Chain.{IsChild}
use Rattle.cga_order.specs.World.{World, IsWorld, Has, is_instance}
use Rattle.cga_order.specs.declared.placed.Placed.{Placed}
use Rattle.cga_order.specs.declared.placed.Kind.{Kind}
use Rattle.cga_expand.proofs.Door.{sources_are_derivations}
use Rattle.cga_fraction.proofs.Door.{length-map, lt-length_from_slice_get as within}
use Rattle.cga_order.proofs.Door.{Has-index, snoc-same, slice_get-Has as get-Has}
use Rattle.cga_rework.proofs.Door.{child_is, child_rank, is_world, keeps, keeps-node, rank, start_stands}
use Rattle.cga_derivation.specs.Derivation.{IsDerivation, outcome, reached, NothingWaits}
use Rattle.cga_shape.specs.declared.shape.Shape.{Shape}
use Rattle.cga_shape.specs.declared.shape_fault.ShapeFault.{ShapeFault}
use Rattle.cga_shape.specs.declared.sources.Sources.{Sources}
use Rattle.cga_shape.specs.declared.trace_step.Outcome.TheVariants as trace
use Rattle.cga_expand.specs.Children.{Member}
use Rattle.cga_expand.specs.Derivation.{children_of, derivation_of, NamesDiffer}
use Rattle.cga_expand.specs.Run.{outcome_of, traced}
use Rattle.cga_rework.specs.Nodes.{nodes_of, IsBound}
use Rattle.cga_rework.specs.Ranked.{Ranked, all_placed, placed, ranked_world}
use Rattle.cga_rework.specs.Rules as rules
use Rattle.cga_forest.specs.declared.slot_entry.SlotEntry.{SlotEntry}
use Rattle.cga_forest.specs.View.{Seen, slot, present_of}
use Rattle.cga_forest.specs.Tree.{ForestView, node_at}
use Rattle.cga_trace.specs.Kept.{shapes_of, rules_of, content, NodesStand, outcome_from, step_of_node, NodesAreTold}
use Rattle.cga_trace.specs.Sorted.{IsTold}

-- ---- lists

long_by : {X : Type 0} (xs : List X) (n : ℕ) → ((i : ℕ) (x : X) → slice_get xs i ≡ Some x → i < n) → length xs ≤ n
long_by [] n h = omega arith
long_by (x ∷ xs) zero h = let z = h 0 x refl in absurd (omega (arith, z))
long_by (x ∷ xs) (suc n) h = let r = long_by xs n (λ i y e. let z = h (suc i) y e in omega (arith, z)) in omega (arith, r)

pub keeps_of : {N A F P : Type 0} (nodes : List (agenda.Node N A F P)) (n : N) (k : Kind F P)
    → Has (members_of nodes) n k → (a : A) × Keeps nodes n k a
keeps_of [] n k h = absurd h
keeps_of (m ∷ ms) n k h = elim h [
  | inl e ↦ (m.answers, inl (e.0, e.1, refl))
  | inr r ↦ let w = keeps_of ms n k r in (w.0, inr w.1)
]

slots_bound : (xs : List (Option SlotEntry)) (c : ℕ) (d : Seen) → present_of (slot xs c) ≡ Some d → c < length xs
slots_bound [] c d t = absurd (cc)
slots_bound (x ∷ xs) zero d t = omega arith
slots_bound (x ∷ xs) (suc c) d t = let r = slots_bound xs c d t in omega (arith, r)

module _ (sources : Sources) (differ : NamesDiffer sources.lots) (v : ForestView) (stands : NodesStand sources v) where
  abbrev pub W : World (Ranked Shape) Answers ShapeFault Primitive
  W = ranked_world (shapes_of sources) (rules_of sources)

  pub are : IsDerivation (rules.derivation_of (shapes_of sources) (rules_of sources))
  are =
      let d = sources_are_derivations sources differ in
      record { root = d.root; roots_apart = d.roots_apart; child = d.child; unseen = d.unseen; local = d.local }

  pub laws : IsWorld W
  laws = is_world (shapes_of sources) (rules_of sources) are

  abbrev pub top : ℕ
  top = length v.slots

  pub bounded : IsBound (node_at v) top
  bounded c d t = slots_bound v.slots c d t

  abbrev pub nodes : List (agenda.Node (Ranked Shape) Answers ShapeFault Primitive)
  nodes = nodes_of content (node_at v) top

  module _ (c : ℕ) (d : Seen) (t : node_at v c ≡ Some d) where
    own : Ranked Shape
    own = record { shape = d.node.shape; priorities = d.node.line }

    -- as many children as were made
    count : (a : Answers) (cs : List (Placed (Ranked Shape) ShapeFault Primitive)) → W.expand own a ≡ Ok cs
        → HasChildren W nodes own cs → length d.children ≡ length cs
    unfolding own
    count a cs e has =
        let up = long_by d.children (length cs) (λ i b h.
        let w = stands.city.tree.down c i b d t h in
        let below = child_rank (shapes_of sources) content (rules_of sources) (node_at v) stands.city b c w.0 d w.1 w.2 t in
        let kept = keeps (shapes_of sources) content (rules_of sources) (node_at v) stands.city top bounded b w.0 w.1 in
        let child = has.only (rank (shapes_of sources) content (rules_of sources) w.0.node) w.0.node.kind w.0.node.answers kept w.0.index below in
        let at = Has-index cs (rank (shapes_of sources) content (rules_of sources) w.0.node) child.0 child.1 in
        let law = (laws.child own a cs e at.0 at.1 at.2).0 in
        let path = sym law.path ∙ (ap (λ n. (W.chain n).path) at.3 ∙ below.path) in
        let same = (snoc-same (W.chain own).path (W.chain own).path at.0 w.0.index path).1 in
        let lt = within cs at.0 at.1 at.2 in
        let is = w.4 in omega (arith, lt, same, is)) in
        let down = long_by cs (length d.children) (λ l x h.
        let law = (laws.child own a cs e l x h).0 in
        let stood = has.all x.shape x.kind (get-Has cs l x h) in
        let kept = keeps_of nodes x.shape stood.0 stood.1 in
        let b = keeps-node content (node_at v) top x.shape stood.0 kept.0 kept.1 in
        let below = subst (λ n. IsChild (W.chain own) l (W.chain n)) (sym b.3) law in
        let is = child_is (shapes_of sources) content (rules_of sources) (node_at v) stands.city b.0 c l b.1 d b.2 t below in
        within d.children l b.0 is.2) in
        omega (arith, up, down)

    module _ (inner : is_instance d.node.kind ≡ false) where
      right : IsRight W nodes own d.node.kind d.node.answers
      unfolding own
      right =
          let start = stands.started top bounded in
          elim (start.right own d.node.kind d.node.answers (keeps (shapes_of sources) content (rules_of sources) (node_at v) stands.city top bounded c d t) inner) [
            | inl q ↦ let x : false ≡ true = q in cc
            | inr r ↦ r
          ]

      came : (r : Result (List Member) ShapeFault) → children_of sources.grammar d.node.shape d.node.answers ≡ r
          → outcome_from d.node.kind (length d.children) ≡ outcome_of r
      unfolding own
      came (Ok cs) e =
          let above = (W.chain own).priorities in
          let made : W.expand own d.node.answers ≡ Ok (map (placed (rules_of sources).priority above) cs) = ap (all_placed (rules_of sources).priority above) e in
          let settled = subst (IsSettled W nodes own d.node.kind) made right.1 in
          ap (λ k. outcome_from k (length d.children)) settled.0
          ∙ ap trace.Grew (count d.node.answers (map (placed (rules_of sources).priority above) cs) made
          settled.1 ∙ length-map (placed (rules_of sources).priority above) cs)
      came (Err f) e =
          let above = (W.chain own).priorities in
          let made : W.expand own d.node.answers ≡ Err f = ap (all_placed (rules_of sources).priority above) e in
          let settled = subst (IsSettled W nodes own d.node.kind) made right.1 in
          ap (λ k. outcome_from k (length d.children)) settled.0

      told : (end : ℕ) → NothingWaits (derivation_of sources) (reached (derivation_of sources) end)
          → (n : ℕ) × IsTold sources n (step_of_node d)
      told end quiet =
          let start = stands.started top bounded in
          let for = start_stands (shapes_of sources) (rules_of sources) are (rules_of sources) nodes start (reached (derivation_of sources) end) (end, refl, quiet) in
          let (n, m, next, same, got) = for.answers (rank (shapes_of sources) content (rules_of sources) d.node)
          d.node.kind d.node.answers (keeps (shapes_of sources) content (rules_of sources) (node_at v) stands.city top bounded c d t) inner in
          let list = reached (derivation_of sources) n in
          let final : outcome_of (outcome (derivation_of sources) list d.node.shape) ≡ outcome_from d.node.kind
          (length d.children) = sym (came (outcome (derivation_of sources) list d.node.shape) (ap (children_of sources.grammar d.node.shape) (sym got))) in
          let step : step_of_node d ≡ traced sources list d.node.shape = λ i. record {
            lot = d.node.shape.lot;
            path = d.node.shape.path;
            symbol = d.node.shape.symbol;
            answers = sym got i;
            outcome = sym final i;
          } in
          (n, (m, next, step ∙ ap (traced sources list) (sym same)))

pub nodes_are_told : NodesAreTold
nodes_are_told sources differ end quiet v stands c d t inner = told sources differ v stands c d t inner end quiet
