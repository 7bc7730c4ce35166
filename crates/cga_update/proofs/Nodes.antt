-- The list of the nodes of a view, read node by node.
use Rattle.std.proofs.Common.{◌≡◌, inl, inr, ℕ, zero, suc, ◌<◌, List, [], ◌∷◌, length, refl, ap, sym, ◌∙◌, arith}
use Rattle.std.specs.Prelude.{Option, Some, None}
use Rattle.cga_word.specs.declared.primitive.Primitive.{Primitive}
use Rattle.cga_shape.specs.declared.shape.Shape.{Shape}
use Rattle.cga_shape.specs.declared.shape_fault.ShapeFault.{ShapeFault}
use Rattle.cga_order.specs.World.{Has}
use Rattle.cga_order.specs.Agenda.{members_of}
use Rattle.cga_order.specs.declared.placed.Kind.{Kind}
use Rattle.cga_rework.specs.Ranked.{Ranked}
use Rattle.cga_forest.specs.declared.slot_entry.SlotEntry.{SlotEntry}
use Rattle.cga_forest.specs.View.{Seen, slot, present_of}
use Rattle.cga_fraction.proofs.Door.{eq_or_ne as nat_cases}
use Rattle.cga_forest.specs.Tree.{ForestView, node_at}
use Rattle.cga_rework.specs.Nodes.{with_node, nodes_of, IsBound}
use Rattle.cga_update.specs.Edit.{content, ranked}

module _ (T : ℕ → Option Seen) where
  abbrev pub Here : Ranked Shape → Kind ShapeFault Primitive → Type 0
  Here r k = (c : ℕ) × (d : Seen) × (T c ≡ Some d) × (ranked d.node ≡ r) × (d.node.kind ≡ k)

  -- a member is a node
  pub member-node : (n : ℕ) (r : Ranked Shape) (k : Kind ShapeFault Primitive)
      → Has (members_of (nodes_of content T n)) r k → Here r k
  unfolding nodes_of
  member-node zero r k h = absurd h
  member-node (suc n) r k h = by (λ g. member-node n r k g) (T n) refl h
    where
      by : (Has (members_of (nodes_of content T n)) r k → Here r k) → (o : Option Seen) → T n ≡ o
          → Has (members_of (with_node content o (nodes_of content T n))) r k → Here r k
      by rec None e g = rec g
      by rec (Some d) e g = elim g [ inl q ↦ (n, d, e, q.0, q.1) | inr more ↦ rec more ]

  -- a node is a member
  pub node-member : (n c : ℕ) (d : Seen) → T c ≡ Some d → c < n
      → Has (members_of (nodes_of content T n)) (ranked d.node) d.node.kind
  unfolding nodes_of
  node-member zero c d t lt = absurd (omega (arith, lt))
  node-member (suc n) c d t lt = by (λ g. node-member n c d t g) (T n) refl
    where
      by : (c < n → Has (members_of (nodes_of content T n)) (ranked d.node) d.node.kind) → (o : Option Seen) → T n ≡ o
          → Has (members_of (with_node content o (nodes_of content T n))) (ranked d.node) d.node.kind
      by rec None e = rec (elim (nat_cases c n) [
        | inl q ↦ (let z : Some d ≡ None = sym t ∙ ap T q ∙ e in absurd (cc))
        | inr more ↦ omega (arith, lt, more)
      ])
      by rec (Some x) e = elim (nat_cases c n) [
        | inl q ↦ (let z : Some d ≡ Some x = sym t ∙ ap T q ∙ e in let y : d ≡ x = (cc) in inl (ap (λ (s : Seen). ranked s.node) (sym y), ap (λ (s : Seen). s.node.kind) (sym y)))
        | inr more ↦ inr (rec (omega (arith, lt, more)))
      ]

slots_bound : (xs : List (Option SlotEntry)) (c : ℕ) (d : Seen) → present_of (slot xs c) ≡ Some d → c < length xs
slots_bound [] c d t = absurd (cc)
slots_bound (x ∷ xs) zero d t = omega arith
slots_bound (x ∷ xs) (suc c) d t = let r = slots_bound xs c d t in omega (arith, r)

-- the nodes of a forest stand in its slots
pub kept_bound : (v : ForestView) → IsBound (node_at v) (length v.slots)
kept_bound v c d t = slots_bound v.slots c d t
