-- A node is above another one exactly where it stands on that one's path.
use Rattle.std.proofs.Common.{◌≡◌, ℕ, zero, suc, ◌+◌, ◌-◌, ◌<◌, ◌≤◌, ◌≢◌, List, [], ◌∷◌, length, take, get_or, Bool, true, false, IsTrue, ◌↔◌}
use Rattle.std.proofs.Common.{inl, inr, refl, ap, sym, ◌∙◌, arith, length-append, nat_eq, eq-eqb}
use Rattle.std.specs.Prelude.{Option, Some}
use Rattle.std.proofs.lemmas.Bool.{eqb-true, or_cases, or_left, or_right, cases_Bool}
use Rattle.std.proofs.lemmas.List.{get_or-take, length-take, take-append-le}
use Rattle.std.proofs.Math.Seq.{take-length}
use Rattle.cga_fraction.proofs.Door.{cases_Option, eq_or_ne, same_Some}
use Rattle.cga_forest.specs.declared.slot_entry.SlotEntry.{SlotEntry}
use Rattle.cga_forest.specs.Node.{IsBelow}
use Rattle.cga_forest.specs.View.{Seen, seen}
use Rattle.cga_forest.specs.Tree.{InPlace, above}
use Rattle.cga_forest.specs.Standing.{IsOnPath, StandApart, is_above, at_parent}
use Rattle.cga_tree.specs.Tree.{IsTree}

-- a list that begins another one isn't longer
pub begins_within : (xs ys : List ℕ) → xs ≡ take (length xs) ys → length xs ≤ length ys
begins_within xs ys begins = omega (arith, ap length begins, length-take (length xs) ys)

-- a path that isn't empty has the last index of what it begins at the same place
pub last_along : (xs ys : List ℕ) → xs ≡ take (length xs) ys → length xs ≢ 0
    → get_or xs (length xs - 1) 0 ≡ get_or ys (length xs - 1) 0
last_along xs ys begins some = ap (λ (zs : List ℕ). get_or zs (length xs - 1) 0) begins ∙ get_or-take (length xs) ys (length xs - 1) 0 (omega arith)

module _ (T : ℕ → Option Seen) (tree : IsTree T) (places : InPlace T) where
  -- the parent of a node, with a path that is shorter by one
  pub parent_of : (c p : ℕ) (d : Seen) → T c ≡ Some d → d.parent ≡ Some p
      → (e : Seen) × (T p ≡ Some e) × IsBelow e.node d.index d.node
      × (length d.node.shape.path ≡ length e.node.shape.path + 1)
  parent_of c p d t up =
      let u = tree.up c p d t up in
      let b = places.child c p d u.0 t up u.1 in
      (u.0, u.1, b, ap length b.path ∙ length-append u.0.node.shape.path (d.index ∷ []))

  -- what is above a node stands on its path
  pub above_path : (fuel x c : ℕ) (a d : Seen) → T x ≡ Some a → T c ≡ Some d → is_above T fuel x c ≡ true
      → IsOnPath a.node d.node
  unfolding is_above
  above_path zero x c a d u t h = let z : false ≡ true = h in absurd (cc)
  above_path (suc fuel) x c a d u t h = elim (or_cases (nat_eq x c) (at_parent (is_above T fuel x) (above (T c))) h) [
    | inl q ↦ (
        let same : a ≡ d = same_Some a d (sym u ∙ ap T (eqb-true x c q) ∙ t) in
        rw same (refl, sym (take-length d.node.shape.path)))
    | inr g ↦ elim (cases_Option d.parent) [
      | inl top ↦ (let z : false ≡ true = ap (at_parent (is_above T fuel x)) (sym (ap above t ∙ top)) ∙ g in absurd (cc))
      | inr up ↦ (
          let w = parent_of c up.0 d t up.1 in
          let on = above_path fuel x up.0 a w.0 u w.1 (ap (at_parent (is_above T fuel x)) (sym (ap above t ∙ up.1)) ∙ g) in
          let front = take-append-le (length a.node.shape.path) w.0.node.shape.path (d.index ∷ []) (begins_within a.node.shape.path w.0.node.shape.path on.1) in
          (on.0 ∙ sym w.2.lot, on.1 ∙ sym front ∙ ap (take (length a.node.shape.path)) (sym w.2.path)))
    ]
  ]

  module _ (apart : StandApart T) where
    -- what stands on the path of a node is above it
    pub path_above : (fuel x c : ℕ) (a d : Seen) → length d.node.shape.path < fuel → T x ≡ Some a → T c ≡ Some d
        → IsOnPath a.node d.node → is_above T fuel x c ≡ true
    unfolding is_above
    path_above zero x c a d deep u t on = absurd (omega arith)
    path_above (suc fuel) x c a d deep u t on = elim (eq_or_ne (length a.node.shape.path) (length d.node.shape.path)) [
      | inl q ↦ (
          let whole = on.1 ∙ ap (λ k. take k d.node.shape.path) q ∙ take-length d.node.shape.path in
          or_left (nat_eq x c) (at_parent (is_above T fuel x) (above (T c))) (eq-eqb x c (apart x c a d u t on.0 whole)))
      | inr shorter ↦ elim (cases_Option d.parent) [
        | inl top ↦ (
            let none : length d.node.shape.path ≡ 0 = ap length (places.root c d t top).path in
            absurd (omega (arith, begins_within a.node.shape.path d.node.shape.path on.1)))
        | inr up ↦ (
            let w = parent_of c up.0 d t up.1 in
            let high : length a.node.shape.path ≤ length w.0.node.shape.path = omega (arith, w.3, begins_within a.node.shape.path d.node.shape.path on.1) in
            let front = take-append-le (length a.node.shape.path) w.0.node.shape.path (d.index ∷ []) high in
            let on_parent : IsOnPath a.node w.0.node = (on.0 ∙ w.2.lot, on.1 ∙ ap (take (length a.node.shape.path)) w.2.path ∙ front) in
            let next = path_above fuel x up.0 a w.0 (omega (arith, w.3)) u w.1 on_parent in
            let parent : above (T c) ≡ Some up.0 = ap above t ∙ up.1 in
            or_right (nat_eq x c) (at_parent (is_above T fuel x) (above (T c))) (ap (at_parent (is_above T fuel x)) parent ∙ next))
      ]
    ]

    -- a test of the paths tells whether a node is above another one
    pub above_exact : (x c : ℕ) (a d : SlotEntry) → T x ≡ Some (seen a) → T c ≡ Some (seen d)
        → (b : Bool) → IsTrue b ↔ IsOnPath a.node d.node → is_above T 257 x c ≡ b
    above_exact x c a d u t true h =
        let shallow : length d.node.shape.path ≤ 256 = tree.shallow c (seen d) t in
        path_above 257 x c (seen a) (seen d) (omega arith) u t (h.0 refl)
    above_exact x c a d u t false h = elim (cases_Bool (is_above T 257 x c)) [
      | inl y ↦ (let z : false ≡ true = h.1 (above_path 257 x c (seen a) (seen d) u t y) in absurd (cc))
      | inr n ↦ n
    ]
