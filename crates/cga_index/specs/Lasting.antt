-- A tree of boxes in which only those nodes ask that last.
use Rattle.std.specs.Prelude.{◌≡◌, ℕ, None, Bool, true, ◌&&◌, if◌then◌else◌}
use Rattle.cga_index.specs.Tree.{TreeView, InTree, Member}

-- a tree, in which only the nodes ask that last
abbrev pub lasting_tree : TreeView → (ℕ → Bool) → TreeView
lasting_tree t lasts = record t {
  asks = λ n. lasts n && t.asks n;
  asking_hull = λ n. if lasts n then t.asking_hull n else None;
}

-- the parent of a node that lasts does, too
abbrev pub ParentsLast : TreeView → (ℕ → Bool) → Type 0
ParentsLast t lasts = (n c : ℕ) → InTree t n → Member (t.children n) c → lasts c ≡ true → lasts n ≡ true
