-- A node may grow by what it is expanded to, and by what it had.
use Rattle.std.proofs.Common.{◌≡◌, ◌<◌, ◌≤◌, ℕ, List, [], ◌∷◌, length, refl, ◌∙◌, subst, inl, inr, Some, false, Err, arith, eq-eqb}
use Rattle.std.specs.Prelude.{slice_get}
use Rattle.cga_word.specs.declared.answers.Answers.{Answers}
use Rattle.cga_order.specs.World.{is_instance}
use Rattle.cga_rule.specs.declared.grammar.Grammar.{Grammar}
use Rattle.cga_shape.specs.declared.shape.Shape.{Shape}
use Rattle.cga_shape.specs.declared.shape_fault.ShapeFault.TheVariants.{TooDeep}
use Rattle.cga_expand.specs.Expand.{expand_of}
use Rattle.cga_expand.specs.Rules.{expansion}
use Rattle.cga_expand.specs.declared.limits.TheConstants.{MOST_CHILDREN}
use Rattle.cga_forest.specs.Placing.{MayGrow, Outcome, emitted}
use Rattle.cga_forest.specs.View.{Seen}
use Rattle.cga_forest.specs.Tree.{ForestView, IsForest, node_at}
use Rattle.cga_fraction.proofs.Door.{eq_or_ne as nat_cases}
use Rattle.cga_update.proofs.Places.{sized}

deep_is_fault : (g : Grammar) (s : Shape) (answers : Answers) → length s.path ≡ 256
    → expand_of g s answers ≡ Err TooDeep
unfolding expand_of expansion
deep_is_fault g s answers e = rw (eq-eqb (length s.path) 256 e) refl

within : (v : ForestView) → IsForest v → (id : ℕ) (e : Seen) → node_at v id ≡ Some e → length e.node.shape.path ≤ 256
within v f id e here =
    let deep = sized v f e.depth id e here refl in
    let shallow = f.present.tree.shallow id e here in
    omega (arith, deep, shallow)

has_child : {X : Type 0} (xs : List X) → 0 < length xs → (x : X) × (slice_get xs 0 ≡ Some x)
has_child [] lt = absurd (omega (arith, lt))
has_child (x ∷ xs) lt = (x, refl)

module _ (v : ForestView) (f : IsForest v) (id : ℕ) (e : Seen) (here : node_at v id ≡ Some e) (inner : is_instance e.node.kind ≡ false) where
  pub grows_by_expansion : (g : Grammar) (answers : Answers) (outcome : Outcome)
      → ((d : Seen) → node_at v id ≡ Some d → outcome ≡ expand_of g d.node.shape answers)
      → length (emitted outcome) ≤ MOST_CHILDREN → (x : Seen) × (node_at v id ≡ Some x) × MayGrow x outcome
  grows_by_expansion g answers outcome is few = (
    e,
    here,
    record {
      inner = inner;
      low = λ some. elim (nat_cases (length e.node.shape.path) 256) [
        | inl deep ↦ absurd (none_emitted some (is e here ∙ deep_is_fault g e.node.shape answers deep))
        | inr other ↦ (let w = within v f id e here in omega (arith, w, other))
      ];
      few = few;
    },
  )
    where
      none_emitted : 0 < length (emitted outcome) → outcome ≡ Err TooDeep → ⊥
      none_emitted some same = let z : 0 < 0 = subst (λ o. 0 < length (emitted o)) same some in omega (arith, z)

  pub grows_again : (outcome : Outcome) → length (emitted outcome) ≤ length e.children
      → length (emitted outcome) ≤ MOST_CHILDREN → (x : Seen) × (node_at v id ≡ Some x) × MayGrow x outcome
  grows_again outcome more few = (
    e,
    here,
    record {
      inner = inner;
      low = λ some.
          let b = has_child e.children (omega (arith, some, more)) in
          let d = f.present.tree.down id 0 b.0 e here b.1 in
          let shallow = f.present.tree.shallow b.0 d.0 d.1 in
          let deep = sized v f e.depth id e here refl in
          let below = d.3 in
          omega (arith, shallow, deep, below);
      few = few;
    },
  )
