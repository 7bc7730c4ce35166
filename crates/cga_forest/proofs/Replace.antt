-- One node's children are replaced.
use Rattle.std.proofs.Common.{◌≡◌, ◌≢◌, ℕ, ◌+◌, ◌<◌, List, [], ◌∷◌, length, Bool, false, ◌⊎◌, inl, inr, refl, ap, sym, ◌∙◌, arith, true≢false}
use Rattle.std.specs.Prelude.{Option, Some, None, slice_get, if◌then◌else◌}
use Rattle.cga_forest.specs.declared.node.Node.{Node}
use Rattle.cga_forest.specs.View.{Seen}
use Rattle.cga_forest.specs.Node.{fits}
use Rattle.cga_tree.specs.Tree.{IsTree}
use Rattle.cga_tree.specs.Replaced.{IsReplaced, IsNewChild}
use Rattle.cga_fraction.proofs.Door.{eq_or_ne as nat_cases}
use Rattle.std.proofs.lemmas.Bool.{cases_Bool as bool_cases}
use Rattle.cga_forest.proofs.Tree.{cut_some}

none_some : (d : Seen) → None ≡ Some d → ⊥
none_some d h = (cc)

some_within : (news : List Node) (i : ℕ) (w : Node) → slice_get news i ≡ Some w → 0 < length news
some_within [] i w h = absurd (cc)
some_within (x ∷ xs) i w h = omega arith

module _ (S T : ℕ → Option Seen) (id : ℕ) (news : List Node) (e now : Seen) (gone : ℕ → Bool) (r : IsReplaced fits S T id news e now gone) (tree : IsTree S) where
  -- an old node that isn't the changed one and stays
  kept : (c : ℕ) (d : Seen) → c ≢ id → S c ≡ Some d → gone c ≡ false → T c ≡ Some d
  kept c d n t g = r.rest c d n t ∙ ap (λ b. if b then None else Some d) g

  -- a node of T but the changed one is an old one that stays, or a child that came
  pub old_or_new : (c : ℕ) (d : Seen) → T c ≡ Some d → c ≢ id → (s : Option Seen) → S c ≡ s
      → ((gone c ≡ false) × (S c ≡ Some d))
      ⊎ ((i : ℕ) × (w : Node) × (slice_get now.children i ≡ Some c) × (slice_get news i ≡ Some w)
      × IsNewChild T id e.depth i w c)
  old_or_new c d t n (Some x) q = let w = cut_some (gone c) (Some x) d (sym (r.rest c x n q) ∙ t) in inl (w.0, q ∙ w.1)
  old_or_new c d t n None q = elim (r.created c q) [
    | inl none ↦ absurd (none_some d (sym none ∙ t))
    | inr at ↦ (let x = r.each at.0 c at.1 in elim x.2 [
      | inl old ↦ (let u = tree.down id at.0 c e r.was old.0 in absurd (none_some u.0 (sym q ∙ u.1)))
      | inr new ↦ inr (at.0, x.0, at.1, x.1, new.1)
    ])
  ]

  down_now : (i c : ℕ) → slice_get now.children i ≡ Some c
      → (d : Seen) × (T c ≡ Some d) × (d.parent ≡ Some id) × (d.depth ≡ e.depth + 1) × (d.index ≡ i)
  down_now i c g = elim (r.each i c g).2 [
    | inl old ↦ (
        let u = tree.down id i c e r.was old.0 in
        let n : c ≢ id = (λ q. let z : Some u.0 ≡ Some e = sym u.1 ∙ ap S q ∙ r.was in let w : u.0 ≡ e = (cc) in
        let dd : u.0.depth ≡ e.depth = ap (λ (x : Seen). x.depth) w in let d1 = u.3 in omega arith) in
        (u.0, kept c u.0 n u.1 old.1, u.2, u.3, u.4))
    | inr new ↦ (new.1.seen, new.1.here, new.1.parent, new.1.deeper, new.1.index)
  ]

  down_here : (n i c : ℕ) (d : Seen) → n ≡ id → d ≡ now → slice_get d.children i ≡ Some c
      → (x : Seen) × (T c ≡ Some x) × (x.parent ≡ Some n) × (x.depth ≡ d.depth + 1) × (x.index ≡ i)
  down_here n i c d q w g =
      let u = down_now i c (ap (λ (x : Seen). slice_get x.children i) (sym w) ∙ g) in
      (u.0, u.1, u.2 ∙ ap (λ x. Some x) (sym q), (let a : d.depth ≡ now.depth = ap (λ (x : Seen). x.depth) w in let b = u.3 in let k = r.depth in omega arith), u.4)

  same_now : (c : ℕ) (d : Seen) → T c ≡ Some d → c ≡ id → d ≡ now
  same_now c d t q = let z : Some d ≡ Some now = sym t ∙ ap T q ∙ r.is in (cc)

  -- a node of T has the parent of what was there
  parent_here : (d : Seen) (p : ℕ) → d ≡ now → d.parent ≡ Some p
      → (x : Seen) × (T p ≡ Some x) × (slice_get x.children d.index ≡ Some id)
  parent_here d p w g =
      let ep : e.parent ≡ Some p = sym r.parent ∙ ap (λ (x : Seen). x.parent) (sym w) ∙ g in
      let u = tree.up id p e r.was ep in
      let v = tree.down p e.index id u.0 u.1 u.2 in
      let n : p ≢ id = (λ q. let z : Some u.0 ≡ Some e = sym u.1 ∙ ap S q ∙ r.was in
      let y : Some v.0 ≡ Some e = sym v.1 ∙ r.was in let z1 : u.0.depth ≡ e.depth = (let zz : u.0 ≡ e = (cc) in
      ap (λ (x : Seen). x.depth) zz) in let y1 : v.0.depth ≡ e.depth = (let yy : v.0 ≡ e = (cc) in
      ap (λ (x : Seen). x.depth) yy) in let k = v.3 in omega arith) in
      let here : gone p ≡ false = elim (bool_cases (gone p)) [ inl y ↦ absurd (true≢false (sym (r.onto id p e r.was ep y) ∙ r.self)) | inr no_ ↦ no_ ] in
      (u.0, kept p u.0 n u.1 here, ap (slice_get u.0.children) (ap (λ (x : Seen). x.index) w ∙ r.index) ∙ u.2)

  up_old : (c p : ℕ) (d : Seen) → S c ≡ Some d → gone c ≡ false → d.parent ≡ Some p
      → (x : Seen) × (T p ≡ Some x) × (slice_get x.children d.index ≡ Some c)
  up_old c p d t g h =
      let u = tree.up c p d t h in elim (nat_cases p id) [
        | inl q ↦ (
            let z : Some u.0 ≡ Some e = sym u.1 ∙ ap S q ∙ r.was in
            let w : u.0 ≡ e = (cc) in
            (now, ap T q ∙ r.is, r.stays d.index c (ap (λ (x : Seen). slice_get x.children d.index) (sym w) ∙ u.2) g))
        | inr n ↦ (
            let here : gone p ≡ false = elim (bool_cases (gone p)) [ inl y ↦ (let z = r.onto c p d t h y in absurd (cc)) | inr no_ ↦ no_ ] in
            (u.0, kept p u.0 n u.1 here, u.2))
      ]

  down_old : (n i c : ℕ) (d : Seen) → n ≢ id → S n ≡ Some d → gone n ≡ false → slice_get d.children i ≡ Some c
      → (x : Seen) × (T c ≡ Some x) × (x.parent ≡ Some n) × (x.depth ≡ d.depth + 1) × (x.index ≡ i)
  down_old n i c d ne t gn g =
      let u = tree.down n i c d t g in elim (nat_cases c id) [
        | inl q ↦ (
            let z : Some u.0 ≡ Some e = sym u.1 ∙ ap S q ∙ r.was in
            let w : u.0 ≡ e = (cc) in
            (now, ap T q ∙ r.is, r.parent ∙ ap (λ (x : Seen). x.parent) (sym w) ∙ u.2, r.depth ∙ ap (λ (x : Seen). x.depth) (sym w) ∙ u.3, r.index ∙ ap (λ (x : Seen). x.index) (sym w) ∙ u.4))
        | inr cn ↦ (
            let here : gone c ≡ false = elim (bool_cases (gone c)) [ inl y ↦ (let z = r.into c n u.0 u.1 u.2 y ne in absurd (cc)) | inr no_ ↦ no_ ] in
            (u.0, kept c u.0 cn u.1 here, u.2, u.3, u.4))
      ]

  pub IsTree-replaced : IsTree T
  IsTree-replaced = record {
    down = λ n i c d t g. elim (nat_cases n id) [
      | inl q ↦ down_here n i c d q (same_now n d t q) g
      | inr ne ↦ elim (old_or_new n d t ne (S n) refl) [
        | inl o ↦ down_old n i c d ne o.1 o.0 g
        | inr w ↦ (let z : Some w.4.seen ≡ Some d = sym w.4.here ∙ t in let y : w.4.seen ≡ d = (cc) in
            let x : slice_get [] i ≡ Some c = ap (λ xs. slice_get xs i) (sym w.4.leaf) ∙ ap (λ (x : Seen). slice_get x.children i) y ∙ g in absurd (cc))
      ]
    ];
    up = λ c p d t g. elim (nat_cases c id) [
      | inl q ↦ (let u = parent_here d p (same_now c d t q) g in (u.0, u.1, u.2 ∙ ap (λ x. Some x) (sym q)))
      | inr ne ↦ elim (old_or_new c d t ne (S c) refl) [
        | inl o ↦ up_old c p d o.1 o.0 g
        | inr w ↦ (
            let z : Some w.4.seen ≡ Some d = sym w.4.here ∙ t in
            let y : w.4.seen ≡ d = (cc) in
            let pp : Some p ≡ Some id = sym g ∙ ap (λ (x : Seen). x.parent) (sym y) ∙ w.4.parent in
            let pid : p ≡ id = (cc) in
            (now, ap T pid ∙ r.is, ap (slice_get now.children) (ap (λ (x : Seen). x.index) (sym y) ∙ w.4.index) ∙ w.2))
      ]
    ];
    shallow = λ n d t. elim (nat_cases n id) [
      | inl q ↦ (let a : d.depth ≡ now.depth = ap (λ (x : Seen). x.depth) (same_now n d t q) in let b = r.depth in let k = tree.shallow id e r.was in omega arith)
      | inr ne ↦ elim (old_or_new n d t ne (S n) refl) [
        | inl o ↦ tree.shallow n d o.1
        | inr w ↦ (let z : Some w.4.seen ≡ Some d = sym w.4.here ∙ t in let y : w.4.seen ≡ d = (cc) in
            let a : w.4.seen.depth ≡ d.depth = ap (λ (x : Seen). x.depth) y in let b = w.4.deeper in
            let k = r.low (some_within news w.0 w.1 w.3) in omega arith)
      ]
    ];
    at_root = λ n d t g. elim (nat_cases n id) [
      | inl q ↦ (let w = same_now n d t q in ap (λ (x : Seen). x.depth) w ∙ r.depth ∙ tree.at_root id e r.was (sym r.parent ∙ ap (λ (x : Seen). x.parent) (sym w) ∙ g))
      | inr ne ↦ elim (old_or_new n d t ne (S n) refl) [
        | inl o ↦ tree.at_root n d o.1 g
        | inr w ↦ (let z : Some w.4.seen ≡ Some d = sym w.4.here ∙ t in let y : w.4.seen ≡ d = (cc) in let x : None ≡ Some id = sym g ∙ ap (λ (x : Seen). x.parent) (sym y) ∙ w.4.parent in absurd (cc))
      ]
    ];
  }
