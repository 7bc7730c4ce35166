-- Kept, inputs and touched: what an edit has to work anew, over the lists of two derivations.
use Rattle.std.specs.Prelude.{◌≡◌, ℕ, ◌≤◌, ◌⊎◌, List, length, take, Some}
use Rattle.cga_order.specs.declared.placed.Placed.{Placed}
use Rattle.cga_agenda.specs.Edit.{NonInstance}
use Rattle.cga_derivation.specs.Derivation.{Derivation, next_of, asked, reached}
use Rattle.cga_rework.specs.Rules.{Shapes, Rules, derivation_of}

-- these are the answers of s at its own step
abbrev pub Answered : {S A F P : Type 0} → Derivation S A F P → S → A → Type 0
Answered {S} {A} {F} {P} derivation s a =
    (n : ℕ) × (m : Placed S F P) × (next_of derivation (reached derivation n) ≡ Some m)
    × (m.shape ≡ s) × (asked derivation (reached derivation n) s ≡ a)

module _ {S A B F P : Type 0} (shapes : Shapes S) (old new : Rules S A B F P) where
  -- each prefix of the path, itself included, names a non-instance in both lists, with equal shape and
  -- equal priority of its symbol
  abbrev pub Kept : List (Placed S F P) → List (Placed S F P) → S → Type 0
  Kept before after s =
      (i : ℕ) → i ≤ length (shapes.path s)
      → (m : S) × (shapes.lot m ≡ shapes.lot s) × (shapes.path m ≡ take i (shapes.path s))
      × NonInstance before m × NonInstance after m × (old.priority m ≡ new.priority m)

  -- the shape being equal: its setting is, and the answers at its own step are
  abbrev pub SameInputs : S → Type 0
  SameInputs s =
      (old.setting s ≡ new.setting s)
      × ((a : A) × Answered (derivation_of shapes old) s a × Answered (derivation_of shapes new) s a)

  -- a non-instance of the new derivation that isn't kept, or is kept and has other inputs
  abbrev pub Touched : List (Placed S F P) → List (Placed S F P) → S → Type 0
  Touched before after s =
      NonInstance after s
      × ((Kept before after s → ⊥) ⊎ (Kept before after s × (SameInputs s → ⊥)))
