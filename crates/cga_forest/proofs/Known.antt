-- Hulls by what is kept of them.
use Rattle.std.proofs.Common.{◌≡◌, ◌≢◌, ◌∙◌, inl, inr, ℕ, Bool, true, false, not, refl, ap, sym}
use Rattle.std.proofs.Math.Bool.{beq}
use Rattle.std.specs.Prelude.{Option, Some, None, is_some}
use Rattle.cga_frame.specs.Box.{Box}
use Rattle.cga_index.specs.Tree.{touches_some}
use Rattle.cga_kept_hulls.specs.Blocks.{opt_touches}
use Rattle.cga_forest.specs.declared.slot_entry.SlotEntry.{SlotEntry}
use Rattle.cga_forest.specs.declared.former.Former.{Former}
use Rattle.cga_kept_hulls.specs.declared.kept_hulls.KeptHulls.{KeptHulls}
use Rattle.cga_kept_hulls.specs.declared.kept_hulls.KeptHulls.TheVariants.{Own, Other}
use Rattle.cga_forest.specs.declared.node.Node.{Node}
use Rattle.cga_forest.specs.declared.node.NodeState.{NodeState}
use Rattle.cga_forest.specs.Hull.{hulls_known, own_hulls}
use Rattle.cga_forest.specs.Node.{bounds, with_state}
use Rattle.cga_forest.specs.View.{restored}
use Rattle.cga_fraction.proofs.Door.{eq_or_ne as nat_cases}

-- whether hulls touch an area, as a walk asks it
pub touches_same : (a : Option Box) (b : Box) → opt_touches a b ≡ touches_some a b
touches_same None b = refl
touches_same (Some a) b = refl

-- another state changes no hulls
pub known_state : (s : NodeState) (n : Node) (k : KeptHulls) → hulls_known (with_state s n) k ≡ hulls_known n k
known_state s n (Own asks) = refl
known_state s n (Other h) = refl

pub known_restored : (e : SlotEntry) (f : Option Former) (k : KeptHulls)
    → hulls_known (restored e f).node k ≡ hulls_known e.node k
known_restored e None k = refl
known_restored e (Some f) k = known_state f.state e.node k

-- those of a node that came
pub known_own : (e : SlotEntry) (w : Node) → e.node ≡ w → e.hulls ≡ Own w.asks
    → hulls_known e.node e.hulls ≡ own_hulls w
unfolding bounds
known_own e w n h = λ i. hulls_known (n i) (h i)

-- what is the same of one slot is of all, where no other changes
pub same_but : {X : Type 0} (f : Option SlotEntry → X) (old new : ℕ → Option SlotEntry) (id : ℕ)
    → ((c : ℕ) → c ≢ id → new c ≡ old c) → f (new id) ≡ f (old id) → (c : ℕ) → f (new c) ≡ f (old c)
same_but f old new id others here c = elim (nat_cases c id) [
  | inl same ↦ ap (λ (n : ℕ). f (new n)) same ∙ here ∙ ap (λ (n : ℕ). f (old n)) (sym same)
  | inr other ↦ ap f (others c other)
]

pub none_kept : (o : Option Former) → not (is_some o) ≡ true → o ≡ None
none_kept None h = refl
none_kept (Some f) h = absurd (cc)

pub same_flags : (a b : Bool) → beq a b ≡ true → a ≡ b
same_flags true true h = refl
same_flags true false h = absurd (cc)
same_flags false true h = absurd (cc)
same_flags false false h = refl
