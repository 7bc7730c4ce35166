-- The tree's nodes are those that are there.
use Rattle.std.proofs.Common.{◌≡◌, ℕ, zero, suc, ◌≤◌, inl, inr, refl, sym, subst, arith}
use Rattle.cga_index.specs.Tree.{TreeView, Member, below, all_nodes, InTree}
use Rattle.cga_index.specs.Local.{IsLocalTree}
use Rattle.cga_index.proofs.Members.{in_some, in_flat}

more : (v : TreeView) (m r p c : ℕ) → Member (below v m r) p → Member (v.children p) c → Member (below v (suc m) r) c
unfolding below
more v zero r p c h k = absurd h
more v (suc m) r p c h k = elim h [
  | inl e ↦ inr (in_flat (below v (suc m)) (v.children r) c c (subst (λ t. Member (v.children t) c) (sym e) k) (inl refl))
  | inr u ↦
      let w = in_some (below v m) (v.children r) p u in
      inr (in_flat (below v (suc m)) (v.children r) w.0 c w.1 (more v m w.0 p c w.2 k))
]

wider : (v : TreeView) (m k r n : ℕ) → m ≤ k → Member (below v m r) n → Member (below v k r) n
unfolding below
wider v zero k r n h w = absurd w
wider v (suc m) zero r n h w = absurd (omega (arith, h))
wider v (suc m) (suc k) r n h w = elim w [
  | inl e ↦ inl e
  | inr u ↦
      let p = in_some (below v m) (v.children r) n u in
      inr (in_flat (below v k) (v.children r) p.0 n p.1 (wider v m k p.0 n (omega (arith, h)) p.2))
]

module _ (v : TreeView) (P : ℕ → Type 0) (laws : IsLocalTree v P) where
  under : (m r n : ℕ) → P r → Member (below v m r) n → P n
  unfolding below
  under zero r n h w = absurd w
  under (suc m) r n h w = elim w [
    | inl e ↦ subst P e h
    | inr u ↦
        let p = in_some (below v m) (v.children r) n u in
        under m p.0 n (laws.child_present r p.0 h p.1) p.2
  ]

  -- a node of the tree is there
  pub in_present : (n : ℕ) → InTree v n → P n
  unfolding all_nodes
  in_present n h =
      let p = in_some (below v 257) v.roots n h in
      under 257 p.0 n (laws.root_present p.0 p.1) p.2

  from_root : (d n : ℕ) → P n → v.depth n ≡ d → (r : ℕ) × Member v.roots r × Member (below v (suc d) r) n
  unfolding below
  from_root zero n h e = elim (laws.placed n h) [
    | inl r ↦ (n, r, inl refl)
    | inr p ↦ absurd (omega (arith, laws.at_child p.0 n p.1 p.2, e))
  ]
  from_root (suc d) n h e = elim (laws.placed n h) [
    | inl r ↦ (n, r, inl refl)
    | inr p ↦
        let t : v.depth p.0 ≡ d = omega (arith, laws.at_child p.0 n p.1 p.2, e) in
        let w = from_root d p.0 p.1 t in
        (w.0, w.1, more v (suc d) w.0 p.0 n w.2 p.2)
  ]

  -- a node that is there is of the tree
  pub present_in : (n : ℕ) → P n → InTree v n
  unfolding all_nodes
  present_in n h =
      let w = from_root (v.depth n) n h refl in
      in_flat (below v 257) v.roots w.0 n w.1 (wider v (suc (v.depth n)) 257 w.0 n (omega (arith, laws.shallow n h)) w.2)
