-- A forest as a tree of boxes.
use Rattle.std.specs.Prelude.{ℕ, Option, Some, None, Bool, false, is_some, pos}
use Rattle.cga_frame.specs.Box.{Box}
use Rattle.cga_index.specs.Lasting as index
use Rattle.cga_index.specs.Tree.{TreeView}
use Rattle.cga_kept_hulls.specs.declared.hulls.Hulls.{Hulls}
use Rattle.cga_forest.specs.Node.{bounds}
use Rattle.cga_marked.specs.Map.{ids}
use Rattle.cga_forest.specs.View.{Seen}
use Rattle.cga_forest.specs.Standing.{standing_of}
use Rattle.cga_forest.specs.Tree.{ForestView, node_at, marked_at, hulls_at, children_at}

abbrev pub empty_box : Box
empty_box = record {
  low = record {
    x = record { num = pos 0; above = 0 };
    y = record { num = pos 0; above = 0 };
    z = record { num = pos 0; above = 0 };
  };
  high = record {
    x = record { num = pos 0; above = 0 };
    y = record { num = pos 0; above = 0 };
    z = record { num = pos 0; above = 0 };
  };
}

abbrev pub own_of : Option Seen → Box
own_of None = empty_box
own_of (Some d) = bounds d.node

abbrev pub asks_of : Option Seen → Bool
asks_of None = false
asks_of (Some d) = d.node.asks

abbrev pub depth_of : Option Seen → ℕ
depth_of None = 0
depth_of (Some d) = d.depth

abbrev pub all_of : Option Hulls → Box
all_of None = empty_box
all_of (Some h) = h.all

abbrev pub asking_of : Option Hulls → Option Box
asking_of None = None
asking_of (Some h) = h.asking

abbrev pub forest_tree : ForestView → TreeView
forest_tree v = record {
  roots = ids v.roots;
  children = children_at v;
  own = λ n. own_of (node_at v n);
  hull = λ n. all_of (hulls_at v n);
  depth = λ n. depth_of (node_at v n);
  standing = λ n by. standing_of v.mode (node_at v) n by (node_at v n) (node_at v by);
  asks = λ n. asks_of (node_at v n);
  asking_hull = λ n. asking_of (hulls_at v n);
}

abbrev pub was_marked : ForestView → ℕ → Bool
was_marked v n = is_some (marked_at v n)

-- the tree of the forest, in which only those nodes ask that were there at the mark
abbrev pub lasting_tree : ForestView → TreeView
lasting_tree v = index.lasting_tree (forest_tree v) (was_marked v)
