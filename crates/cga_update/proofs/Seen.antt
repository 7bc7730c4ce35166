-- What a node sees at its step, by the stamps of a forest and of the theory.
use Rattle.std.proofs.Common.{◌≡◌, ℕ, ◌+◌, length, Bool, true, false, not, ◌&&◌, ◌||◌, refl, ap, sym, ◌∙◌}
use Rattle.std.specs.Prelude.{Option, Some, None}
use Rattle.std.specs.Ordering.{is_lt}
use Rattle.cga_word.specs.declared.answers.Answers.{Answers}
use Rattle.cga_word.specs.declared.primitive.Primitive.{Primitive}
use Rattle.cga_word.specs.declared.target.Target.{Target}
use Rattle.cga_word.specs.declared.target.Target.TheVariants.{Noparent, Active}
use Rattle.cga_shape.specs.declared.shape.Shape.{Shape}
use Rattle.cga_shape.specs.declared.shape_fault.ShapeFault.{ShapeFault}
use Rattle.cga_shape.specs.declared.sources.Sources.{Sources}
use Rattle.cga_order.specs.Chain.{Chain, IsChild}
use Rattle.cga_order.specs.Stamp.{stamp, birth, stamps_cmp, stamp_cmp}
use Rattle.cga_order.specs.World.{World, is_instance}
use Rattle.cga_order.specs.Consistent as world
use Rattle.cga_derivation.proofs.Door.{fitted-same}
use Rattle.cga_order.proofs.Door.{birth-child, root-before}
use Rattle.cga_order.specs.declared.placed.Kind.{Kind}
use Rattle.cga_agenda.specs.Edit.{new_world}
use Rattle.cga_rework.specs.Ranked.{Ranked, chain_of}
use Rattle.cga_index.specs.Tree.{counts_for}
use Rattle.cga_forest.specs.Node.{chain_kept, IsBelow}
use Rattle.cga_forest.specs.View.{Seen}
use Rattle.cga_forest.specs.Standing.{is_above, is_before, exists_at, waits_at, standing_by, standing_of}
use Rattle.cga_forest.specs.Tree.{ForestView, IsForest, node_at}
use Rattle.cga_update.specs.Edit.{shapes_of, the_edit, ranked}
use Rattle.cga_update.proofs.Places.{parent_of, top_of}

-- the world in which a node is asked
abbrev pub the_world : Sources → Sources → World (Ranked Shape) Answers ShapeFault Primitive
the_world old new = new_world (the_edit old new)

-- what a target asks about, at the stamp of q
abbrev pub is_asked : Sources → Sources → Target → Ranked Shape → Ranked Shape → Kind ShapeFault Primitive → Bool
is_asked old new Noparent q n k = world.exists_at (the_world old new) q n k
is_asked old new Active q n k = world.waits_at (the_world old new) q n k

counts_noparent : (h w : Bool) → counts_for Noparent (standing_by h w) ≡ not h
counts_noparent true w = refl
counts_noparent false true = refl
counts_noparent false false = refl

counts_active : (h w : Bool) → counts_for Active (standing_by h w) ≡ (not h && w)
counts_active true w = refl
counts_active false true = refl
counts_active false false = refl

not_or : (a b : Bool) → not (a || not b) ≡ (not a && b)
not_or true b = refl
not_or false true = refl
not_or false false = refl

and_assoc : (a b c : Bool) → ((a && b) && c) ≡ (a && (b && c))
and_assoc true b c = refl
and_assoc false b c = refl

module _ (v : ForestView) (f : IsForest v) (old new : Sources) where
  abbrev T : ℕ → Option Seen
  T = node_at v

  -- the chain of a node is that of its kept priorities
  pub chain_is : (c : ℕ) (d : Seen) → T c ≡ Some d → chain_of (shapes_of new) (ranked d.node) ≡ chain_kept d.node
  chain_is c d t =
      ap (λ ps. record { lot = d.node.shape.lot; path = d.node.shape.path; priorities = ps })
      (fitted-same (length d.node.shape.path + 1) d.node.line (f.present.places.chain c d t))

  pub child_chain : (c p : ℕ) (d e : Seen) → IsBelow e.node d.index d.node
      → IsChild (chain_kept e.node) d.index (chain_kept d.node)
  child_chain c p d e b = record { lot = b.lot; path = b.path; priorities = (d.node.priority, b.line) }

  module _ (by : ℕ) (a : Seen) (here : T by ≡ Some a) where
    born : (c : ℕ) (d : Seen) → T c ≡ Some d → (o : Option ℕ) → d.parent ≡ o
        → exists_at new.mode T o (chain_kept a.node) ≡ is_lt
        (stamps_cmp new.mode (birth new.mode (chain_kept d.node)) (stamp new.mode (chain_kept a.node)))
    born c d t None top = ap is_lt (sym (root-before new.mode (chain_kept d.node) (chain_kept a.node) (top_of v f c d t top).path))
    born c d t (Some p) up =
        let w = parent_of v f c p d t up in
        ap (λ o. is_before new.mode o (chain_kept a.node)) w.1
        ∙ ap (λ s. is_lt (stamps_cmp new.mode s (stamp new.mode (chain_kept a.node))))
        (sym (birth-child new.mode (chain_kept w.0.node) d.index (chain_kept d.node) (f.present.places.chain p w.0 w.1) (child_chain c p d w.0 w.4)))

    -- there at the stamp of the asking node
    pub exists_is : (c : ℕ) (d : Seen) → T c ≡ Some d
        → exists_at new.mode T d.parent (chain_kept a.node) ≡ world.exists_at (the_world old new) (ranked a.node)
        (ranked d.node) d.node.kind
    exists_is c d t =
        born c d t d.parent refl
        ∙ ap (λ (x : Chain). is_lt (stamps_cmp new.mode (birth new.mode x) (stamp new.mode (chain_kept a.node)))) (sym (chain_is c d t))
        ∙ ap (λ (x : Chain). is_lt (stamps_cmp new.mode (birth new.mode (chain_of (shapes_of new) (ranked d.node))) (stamp new.mode x))) (sym (chain_is by a here))

    later_is : (c : ℕ) (d : Seen) → T c ≡ Some d
        → waits_at new.mode d (chain_kept a.node) ≡
        (not (is_instance d.node.kind) && is_lt
        (stamp_cmp new.mode (chain_of (shapes_of new) (ranked a.node)) (chain_of (shapes_of new) (ranked d.node))))
    later_is c d t =
        ap (λ (x : Chain). not (is_instance d.node.kind) && is_lt (stamp_cmp new.mode x (chain_kept d.node))) (sym (chain_is by a here))
        ∙ ap (λ (x : Chain). not (is_instance d.node.kind) && is_lt (stamp_cmp new.mode (chain_of (shapes_of new) (ranked a.node)) x)) (sym (chain_is c d t))

    -- a node counts for a target where it isn't above the asking one, and is what the target asks about
    pub counts_is : (target : Target) (c : ℕ) (d : Seen) → T c ≡ Some d
        → counts_for target (standing_of new.mode T c by (Some d) (Some a)) ≡
        (not (is_above T 257 c by) && is_asked old new target (ranked a.node) (ranked d.node) d.node.kind)
    counts_is Noparent c d t =
        counts_noparent (is_above T 257 c by || not (exists_at new.mode T d.parent (chain_kept a.node))) (waits_at new.mode d (chain_kept a.node))
        ∙ not_or (is_above T 257 c by) (exists_at new.mode T d.parent (chain_kept a.node))
        ∙ ap (λ b. not (is_above T 257 c by) && b) (exists_is c d t)
    counts_is Active c d t =
        counts_active (is_above T 257 c by || not (exists_at new.mode T d.parent (chain_kept a.node))) (waits_at new.mode d (chain_kept a.node))
        ∙ ap (λ b. b && waits_at new.mode d (chain_kept a.node)) (not_or (is_above T 257 c by) (exists_at new.mode T d.parent (chain_kept a.node)))
        ∙ and_assoc (not (is_above T 257 c by)) (exists_at new.mode T d.parent (chain_kept a.node)) (waits_at new.mode d (chain_kept a.node))
        ∙ ap (λ b. not (is_above T 257 c by) && (b && waits_at new.mode d (chain_kept a.node))) (exists_is c d t)
        ∙ ap (λ b. not (is_above T 257 c by) && (world.exists_at (the_world old new) (ranked a.node) (ranked d.node) d.node.kind && b)) (later_is c d t)
        ∙ ap (λ b. not (is_above T 257 c by) && b)
        (sym (and_assoc (world.exists_at (the_world old new) (ranked a.node) (ranked d.node) d.node.kind)
        (not (is_instance d.node.kind)) (is_lt (stamp_cmp new.mode (chain_of (shapes_of new) (ranked a.node)) (chain_of (shapes_of new) (ranked d.node))))))
