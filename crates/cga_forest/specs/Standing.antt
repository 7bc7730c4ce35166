-- What a node is to one that asks, by the stamps of the kept priorities.
use Rattle.std.specs.Prelude.{◌≡◌, ℕ, zero, suc, length, take, Option, Some, None, Bool, true, false, not, ◌&&◌, ◌||◌, nat_eq}
use Rattle.std.specs.Ordering.{is_lt}
use Rattle.cga_word.specs.declared.mode.Mode.{Mode}
use Rattle.cga_order.specs.Chain.{Chain}
use Rattle.cga_order.specs.Stamp.{stamp_cmp}
use Rattle.cga_order.specs.World.{is_instance}
use Rattle.cga_index.specs.declared.standing.Standing.{Standing}
use Rattle.cga_index.specs.declared.standing.Standing.TheVariants.{Hidden, Waiting, Finished}
use Rattle.cga_forest.specs.declared.node.Node.{Node}
use Rattle.cga_forest.specs.Node.{chain_kept}
use Rattle.cga_forest.specs.View.{Seen}
use Rattle.cga_forest.specs.Tree.{above}

abbrev pub at_parent : (ℕ → Bool) → Option ℕ → Bool
at_parent test None = false
at_parent test (Some p) = test p

-- x is the node or one of its ancestors, at most so many levels in all
unfoldable pub is_above : (ℕ → Option Seen) → ℕ → ℕ → ℕ → Bool
is_above T zero x c = false
is_above T (suc n) x c = nat_eq x c || at_parent (is_above T n x) (above (T c))

-- of one lot, and the first one's path begins the second's
abbrev pub IsOnPath : Node → Node → Type 0
IsOnPath a d = (a.shape.lot ≡ d.shape.lot) × (a.shape.path ≡ take (length a.shape.path) d.shape.path)

-- no two nodes have one lot and one path
abbrev pub StandApart : (ℕ → Option Seen) → Type 0
StandApart T = (x c : ℕ) (a d : Seen) → T x ≡ Some a → T c ≡ Some d
    → a.node.shape.lot ≡ d.node.shape.lot → a.node.shape.path ≡ d.node.shape.path → x ≡ c

-- the node's stamp comes before that of the chain
abbrev pub is_before : Mode → Option Seen → Chain → Bool
is_before mode None by = false
is_before mode (Some d) by = is_lt (stamp_cmp mode (chain_kept d.node) by)

-- a root is there at each stamp, and any other from its parent's stamp on
abbrev pub exists_at : Mode → (ℕ → Option Seen) → Option ℕ → Chain → Bool
exists_at mode T None by = true
exists_at mode T (Some p) by = is_before mode (T p) by

-- there, not an instance, and of a greater stamp
abbrev pub waits_at : Mode → Seen → Chain → Bool
waits_at mode d by = not (is_instance d.node.kind) && is_lt (stamp_cmp mode by (chain_kept d.node))

abbrev pub standing_by : Bool → Bool → Standing
standing_by true waits = Hidden
standing_by false true = Waiting
standing_by false false = Finished

-- x is hidden where it doesn't exist at the stamp of q, or is q or an ancestor of it
abbrev pub standing_of : Mode → (ℕ → Option Seen) → ℕ → ℕ → Option Seen → Option Seen → Standing
standing_of mode T x q None e = Hidden
standing_of mode T x q (Some d) None = Hidden
standing_of mode T x q (Some d) (Some e) =
    standing_by (is_above T 257 x q || not (exists_at mode T d.parent (chain_kept e.node))) (waits_at mode d (chain_kept e.node))
