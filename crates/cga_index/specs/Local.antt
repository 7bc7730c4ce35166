-- The laws as a tree of nodes that are there keeps them, one node at a time.
use Rattle.std.specs.Prelude.{◌≡◌, ℕ, ◌+◌, ◌≤◌, ◌⊎◌}
use Rattle.cga_index.specs.Tree.{TreeView, Member}

-- P says which nodes are there
pub record IsLocalTree (v : TreeView) (P : ℕ → Type 0) : Type 0 where
  pub root_present : (r : ℕ) → Member v.roots r → P r
  pub child_present : (n c : ℕ) → P n → Member (v.children n) c → P c
  pub placed : (n : ℕ) → P n → Member v.roots n ⊎ ((p : ℕ) × P p × Member (v.children p) n)
  pub at_root : (r : ℕ) → Member v.roots r → v.depth r ≡ 0
  pub at_child : (n c : ℕ) → P n → Member (v.children n) c → v.depth c ≡ v.depth n + 1
  pub shallow : (n : ℕ) → P n → v.depth n ≤ 256
